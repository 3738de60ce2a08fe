-- The proof that `read_count` meets its contract.
use native.Mathlib.Omega.{arith}
use Prim.Native.Nat.{◌+◌}
use mathlib.Core.Path.{sym, ap, ◌∙◌}
use Rattle.tree_nodes.proofs.Nodes.{with_place, count_none, count-some}
use Rattle.tree_nodes.proofs.node.read_count.Goals as goal

pub returns-then-e-d : goal.returns-then-e-d
returns-then-e-d c = sym (count_none _ _ _ c.find-e.ensures.0 c.if-e-d.true)

pub returns-in_err-count : goal.returns-in_err-count
returns-in_err-count c =
    let f = c.find-e in
    c.from_residual.ensures ∙ sym (count-some _ _ _ f.ensures.0 (omega arith) ∙ ap (with_place (f.result + 1)) (sym c.in_err-count.ensures))

pub returns : goal.returns
returns c =
    let f = c.find-e in
    sym (count-some _ _ _ f.ensures.0 (omega arith) ∙ ap (with_place (f.result + 1)) (sym c.in_ok-count.ensures))
