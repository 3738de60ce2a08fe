-- The proof that `count_in` meets its contract.
use mathlib.Core.Path.{sym, ap, ◌∙◌}
use Prim.Native.Nat.{◌≤◌}
use native.Mathlib.Omega.{arith}
use borrow.Author.Tests.{le-leb}
use Rattle.tree_nodes.proofs.Nodes.{minus_of, plain_of, count-empty, count-minus, count-plain}
use Rattle.tree_nodes.proofs.node.count_in.Goals as goal

pub returns-then-t-eq0 : goal.returns-then-t-eq0
returns-then-t-eq0 c = sym (count-empty _ c.if-t-eq0.true)

pub returns-in_err-n : goal.returns-in_err-n
returns-in_err-n c = c.from_residual.ensures ∙ sym (count-minus _ c.if-t-eq0.false c.if-t-eq45.true ∙ ap minus_of (sym c.in_err-n.ensures))

pub returns-then-n-eq0 : goal.returns-then-n-eq0
returns-then-n-eq0 c = sym (count-minus _ c.if-t-eq0.false c.if-t-eq45.true ∙ ap minus_of (sym c.in_ok-n.ensures) ∙ rw c.if-n-eq0.true)

pub returns-then-t-eq45 : goal.returns-then-t-eq45
returns-then-t-eq45 c =
    let h : 1 ≤ c.in_ok-n.n = omega arith in
    sym (count-minus _ c.if-t-eq0.false c.if-t-eq45.true ∙ ap minus_of (sym c.in_ok-n.ensures) ∙ rw (le-leb 1 c.in_ok-n.n h))

pub returns-in_err-n-2 : goal.returns-in_err-n-2
returns-in_err-n-2 c = c.from_residual-in_err-n-2.ensures ∙ sym (count-plain _ c.if-t-eq0.false c.if-t-eq45.false ∙ ap plain_of (sym c.in_err-n-2.ensures))

pub returns : goal.returns
returns c = sym (count-plain _ c.if-t-eq0.false c.if-t-eq45.false ∙ ap plain_of (sym c.in_ok-n-2.ensures))
