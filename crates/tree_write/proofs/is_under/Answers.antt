-- The proof that `is_under` meets its contract.
use mathlib.Core.Path.{sym}
use native.Mathlib.Omega.{arith}
use lib.ListN.{length-take, length-drop}
use Rattle.tree_write.proofs.Names.{name-differs, name-ends, name-goes-on}
use Rattle.tree_write.proofs.is_under.Goals as goal

pub returns-then-n-nul : goal.returns-then-n-nul
returns-then-n-nul c =
    let p = c.requires in
    sym (name-differs _ _ _ _ _ p.0 p.1 p.2 _ c.common-n.ensures.0 c.if-n-nul.true)

pub returns-then-name-from : goal.returns-then-name-from
returns-then-name-from c =
    let p = c.requires in
    let e = simp (length-take, length-drop) at c.common-n.ensures.1 in
    sym (name-ends _ _ _ _ _ p.0 p.1 p.2 _ c.common-n.ensures.0 (omega arith) c.if-name-from.true)

pub returns : goal.returns
returns c =
    let p = c.requires in
    let e = simp (length-take, length-drop) at c.common-n.ensures.1 in
    sym (name-goes-on _ _ _ _ _ p.0 p.1 p.2 _ c.common-n.ensures.0 (omega arith) (omega arith) (omega arith))
