-- The proof that `suffix` meets its contract.
use Rattle.std.proofs.lemmas.Bool.{not-false, not-true}
use mathlib.Core.Bool.{cond}
use Prim.Native.Nat.{◌-◌}
use mathlib.Core.Path.{◌≡◌, sym, ◌∙◌}
use native.Mathlib.Omega.{arith}
use lib.Seq.{length-take-le}
use Rattle.entries_run.proofs.Rests.{tested}
use Rattle.entries_run.proofs.PackedRests.{Ended, Copied, kept-begun, suffix-cut, suffix-long, suffix-name, suffix-field, suffix-order, suffix-good, suffix-passed}
use Rattle.entries_run.proofs.suffix.Goals as goal
use Rattle.entries_run.proofs.suffix.Goals.{After-find-z, After-rebuild-d, Joined-known, then-known, else-known}

-- what is known once the first NUL is found, and once the name is rebuilt
ended :
    (c : After-find-z) →
    let a = c.args in
    Ended a.b.now a.work.now a.c a.h a.n a.took c.find-z.result
ended c = record { numbered = c.requires.0; is_z = c.find-z.ensures.0; within = c.find-z.ensures.1 }

copied :
    (c : After-rebuild-d) →
    let a = c.args in
    Copied a.b.now a.work.now a.c a.h a.n a.took c.find-z.result c.rebuild-d.new.work c.rebuild-d.result
copied c =
    record { ended = (record { numbered = c.requires.0; is_z = c.find-z.ensures.0; within = c.find-z.ensures.1 }); inside = c.if-z-b.false; short = c.if-len-gt-LONGEST.false; rebuilt = c.rebuild-d.ensures }

pub returns-then-z-b : goal.returns-then-z-b
returns-then-z-b c = λ w sized. tested _ _ _ _ _ _ _ _ (suffix-cut _ _ _ _ _ _ _ (ended (goal.at.returns-then-z-b c).After-find-z) _ c.if-z-b.true) _

pub returns-then-len-gt-LONGEST : goal.returns-then-len-gt-LONGEST
returns-then-len-gt-LONGEST c = λ w sized. tested _ _ _ _ _ _ _ _ (suffix-long _ _ _ _ _ _ _ (ended (goal.at.returns-then-len-gt-LONGEST c).After-find-z) c.if-z-b.false _ c.if-len-gt-LONGEST.true) _

pub returns-then-again : goal.returns-then-again
returns-then-again c = λ w sized. rw (c.step_of.ensures, c.if-again.true) (suffix-passed _ _ _ _ _ _ _ _ _ (copied (goal.at.returns-then-again c).After-rebuild-d) _ sized)

pub slice_bounds-name_ok_after-end-2 : goal.slice_bounds-name_ok_after-end-2
slice_bounds-name_ok_after-end-2 c =
    sym (length-take-le _ c.rebuild-d.new.work (omega (arith, c.if-len-gt-LONGEST.false, c.requires.0.room)))

kept_is : (c : Joined-known) → c.if-known.kept ≡ cond c.args.known (c.args.c.len - c.args.n) 0
kept_is c = elim c.if-known.branch [ then-known w ↦ rw (w.kept-is, w.if-known.true) | else-known w ↦ rw (w.kept-is, w.if-known.false) ]

pub name_ok_after-requires : goal.name_ok_after-requires
name_ok_after-requires c =
    rw (kept_is c) (kept-begun _ _ _ _ _ _ _ _ _ (copied (goal.at.name_ok_after-requires c).After-rebuild-d) _ c.requires.1)

pub returns-then-not-name_ok_after : goal.returns-then-not-name_ok_after
returns-then-not-name_ok_after c =
    λ w sized.
    tested _ _ _ _ _ _ _ _
    (suffix-name _ _ _ _ _ _ _ _ _ (copied (goal.at.returns-then-not-name_ok_after c).After-rebuild-d) _ (sym c.name_ok_after.ensures ∙ c.if-not-name_ok_after.true))
    _

pub returns-then-h-length_field : goal.returns-then-h-length_field
returns-then-h-length_field c =
    λ w sized.
    tested _ _ _ _ _ _ _ _
    (suffix-field _ _ _ _ _ _ _ _ _ (copied (goal.at.returns-then-h-length_field c).After-rebuild-d) _ (sym c.name_ok_after.ensures ∙ c.if-not-name_ok_after.false) (λ q. c.if-h-length_field.true (q ∙ sym c.length_field.ensures)))
    _

pub returns-then-not-d : goal.returns-then-not-d
returns-then-not-d c =
    λ w sized.
    tested _ _ _ _ _ _ _ _
    (suffix-order _ _ _ _ _ _ _ _ _ (copied (goal.at.returns-then-not-d c).After-rebuild-d) _ (sym c.name_ok_after.ensures ∙ c.if-not-name_ok_after.false) (c.if-h-length_field.false ∙ c.length_field.ensures) (not-true _ c.if-not-d.true))
    _

pub returns : goal.returns
returns c =
    λ w sized.
    rw c.step_of-2.ensures
    (tested _ _ _ _ _ _ _ _
    (suffix-good _ _ _ _ _ _ _ _ _ (copied (goal.at.returns c).After-rebuild-d) _ (sym c.name_ok_after.ensures ∙ c.if-not-name_ok_after.false) (c.if-h-length_field.false ∙ c.length_field.ensures) sized (not-false _ c.if-not-d.false))
    _)
