-- The proof that `step_at` meets its contract.
use mathlib.Core.Path.{◌≡◌, refl, sym, ap, ◌∙◌}
use Prim.Native.Nat.{ℕ}
use Rattle.walk.specs.Walks.{walk_read, step_read}
use Rattle.walk.proofs.Seeing.{step-refused, step-shows, place-stays, place-moves}
use Rattle.walk.proofs.Steps.{step-known, step-unknown}
use Rattle.walk.proofs.step_at.Goals as goal
use Rattle.walk.proofs.step_at.Goals.{After-width_of-w}

-- the kind is known, and w is its width
read : (c : After-width_of-w) →
    let a = c.args in
    step_read a.kind a.file.now a.at a.left ≡ walk_read c.width_of-w.result a.file.now a.at a.left
read c =
    let a = c.args in
    step-known a.kind a.file.now a.at a.left (sym c.is_known.ensures ∙ c.if-not-is_known.false)
    ∙ ap (λ (w : ℕ). walk_read w a.file.now a.at a.left) (sym c.width_of-w.ensures.0)

pub returns-then-not-is_known : goal.returns-then-not-is_known
returns-then-not-is_known c =
    let a = c.args in
    let unknown = step-unknown a.kind a.file.now a.at a.left (sym c.is_known.ensures ∙ c.if-not-is_known.true) in
    (step-refused _ _ _ _ _ unknown _ _ _ (rw c.at.ensures refl), place-stays _ _ _ _ _ unknown _ c.saturating_sub-less.ensures)

pub returns-in_default : goal.returns-in_default
returns-in_default c =
    let none = read (goal.at.returns-in_default c).After-width_of-w ∙ c.in_default.ensures.same in
    (step-refused _ _ _ _ _ none _ _ _ (rw c.at-in_default.ensures refl), place-stays _ _ _ _ _ none _ c.saturating_sub-less.ensures)

pub returns : goal.returns
returns c =
    let shown = read (goal.at.returns c).After-width_of-w in
    let seen = c.in-Some.ensures in (
      rw (← c.width_of-w.ensures.0) (step-shows _ _ _ _ _ shown _ seen _ c.fields_at.ensures),
      place-moves _ _ _ _ _ shown _ seen _ _ refl c.saturating_sub-less.ensures,
    )
