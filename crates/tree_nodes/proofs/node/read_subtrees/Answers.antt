-- The proof that `read_subtrees` meets its contract.
use native.Mathlib.Omega.{arith}
use mathlib.Core.Path.{sym, ap, ◌∙◌}
use Prim.Native.Nat.{◌+◌}
use Rattle.tree_nodes.proofs.Nodes.{with_place, subtrees-none, subtrees-some}
use Rattle.tree_nodes.proofs.node.read_subtrees.Goals as goal

pub returns-then-e-d : goal.returns-then-e-d
returns-then-e-d c = sym (subtrees-none _ _ _ c.find-e.ensures.0 c.if-e-d.true)

pub returns-in_err-subtrees : goal.returns-in_err-subtrees
returns-in_err-subtrees c =
    let f = c.find-e in
    c.from_residual.ensures ∙ sym (subtrees-some _ _ _ f.ensures.0 (omega arith) ∙ ap (with_place (f.result + 1)) (sym c.in_err-subtrees.ensures))

pub returns : goal.returns
returns c =
    let f = c.find-e in
    sym (subtrees-some _ _ _ f.ensures.0 (omega arith) ∙ ap (with_place (f.result + 1)) (sym c.in_ok-subtrees.ensures))
