use Rattle.cache_tree.proofs.Below.{slash-same, slash-long, slash-short, slash-other}
use mathlib.Core.Path.{sym}
use Rattle.cache_tree.proofs.orders.slash_below.Goals as goal

pub returns-then-t-n : goal.returns-then-t-n
returns-then-t-n c = let p = c.requires in sym (slash-same _ _ _ p.0 c.if-s-n.true c.if-t-n.true)

pub returns-then-s-n : goal.returns-then-s-n
returns-then-s-n c = let p = c.requires in sym (slash-long _ _ _ p.0 c.if-s-n.true c.if-t-n.false)

pub returns-then-t-n-2 : goal.returns-then-t-n-2
returns-then-t-n-2 c = let p = c.requires in sym (slash-short _ _ _ p.0 c.if-s-n.false c.if-t-n-2.true)

pub returns : goal.returns
returns c = let p = c.requires in sym (slash-other _ _ _ p.0 p.1 c.if-s-n.false c.if-t-n-2.false)
