use Rattle.cache_tree.proofs.Below.{length-less, length_more, length-equal, length-other}
use native.Mathlib.Omega.{arith}
use mathlib.Core.Path.{sym}
use Rattle.cache_tree.proofs.orders.length_below.Goals as goal

pub returns-then-s-t : goal.returns-then-s-t
returns-then-s-t c = sym (length-less _ _ c.if-s-t.true)

pub returns-then-t-s : goal.returns-then-t-s
returns-then-t-s c = sym (length_more _ _ c.if-t-s.true)

pub returns-then-s-n : goal.returns-then-s-n
returns-then-s-n c = let p = c.requires in sym (length-equal _ _ _ p.0 (omega arith) c.if-s-n.true)

pub returns : goal.returns
returns c = let p = c.requires in sym (length-other _ _ _ p.0 (omega arith) p.1 (omega arith))
