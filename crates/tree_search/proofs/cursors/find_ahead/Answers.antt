use mathlib.Core.Path.{◌≡◌, refl, sym, ◌∙◌}
use mathlib.Core.Bool.{Bool, true}
use Prim.Native.Nat.{◌-◌}
use native.Mathlib.Numerals.{unary_clauses}
use native.Mathlib.Omega.{arith}
use Rattle.std.specs.Bool.{◌==◌}
use Rattle.std.specs.Ordering.{ordering_index}
use Rattle.std.specs.declared.cmp.Ordering.{Ordering}
use Rattle.std.proofs.Common.{Less, Equal, Greater}
use Rattle.format_laws.proofs.Tests.{false-true}
use Rattle.tree_search.proofs.Telling.{cursor-next, cursor-here}
use Rattle.tree_search.proofs.Rows.{moved-past}
use Rattle.tree_search.proofs.cursors.find_ahead.Goals as goal

is-equal : (o : Ordering) (b : Bool) → b ≡ (ordering_index o == 1) → b ≡ true → o ≡ Equal
is-equal Less b is e = false-true (sym is ∙ e)
is-equal Equal b is e = refl
is-equal Greater b is e = false-true (sym is ∙ e)

pub loop-passed-init : goal.loop-passed-init
loop-passed-init c = (omega arith, λ at k h. simp unary_clauses h)

pub loop-passed-preserved : goal.loop-passed-preserved
loop-passed-preserved c =
    (c.after_tree-place.ensures.1, λ at k h. cursor-next _ at k _ _ (c.loop-passed.invariant.1 at k h) (omega arith) _ _ c.after_tree-place.ensures.0 c.after_tree-place.ensures.1 (omega arith))

pub returns-then-ne : goal.returns-then-ne
returns-then-ne c = (
  c.loop-passed.invariant.0,
  λ at k h.
      let cursor = c.loop-passed.invariant.1 at k h in
      record { cursor = cursor; told = λ e. cursor-here _ at k _ _ cursor (omega arith) _ (c.order_at-order.ensures (is-equal _ _ c.eq.ensures e)) },
)

pub returns : goal.returns
returns c =
    (c.loop-passed.invariant.0, λ at k h. let z : c.args.count - c.loop-passed.passed ≡ 0 = omega arith in moved-past _ at k _ _ _ (rw z at (c.loop-passed.invariant.1 at k h)))
