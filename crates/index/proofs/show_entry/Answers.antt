-- The proof that `show_entry` meets its contract.
use mathlib.Core.Path.{refl, ap, ◌∙◌}
use Prim.Native.Nat.{ℕ}
use native.Mathlib.Omega.{arith}
use lib.Dec.{eqb}
use borrow.Author.Tests.{eq-eqb, ne_eqb}
use Rattle.format.specs.Places.{body_in, name_place}
use Rattle.entries_run.specs.Steps.{EntryPlaced}
use Rattle.file_read.proofs.Room.{cleared_by}
use Rattle.index.proofs.Views.{pick-none, entry-refused}
use Rattle.index.proofs.Entries.{shown-file, shown-work}
use Rattle.index.proofs.show_entry.Goals as goal
use Rattle.index.proofs.show_entry.Goals.{In-Ok}

-- where the parts of the entry that was sought are
placed : (c : In-Ok) → EntryPlaced c.args.w (body_in c.args.w c.args.file.now) c.in-Ok.sought.at c.in-Ok.sought.step
placed c = c.in-Ok.ensures.placed _ refl

pub fields_at-fields-requires : goal.fields_at-fields-requires
fields_at-fields-requires c = ((placed (goal.at.fields_at-fields-requires c).In-Ok).fixed, omega arith)

pub clear_from-requires : goal.clear_from-requires
clear_from-requires c =
    ((placed (goal.at.clear_from-requires c).In-Ok).short, omega (arith, c.requires.0.room, c.seek_entry.ensures.frame))

pub returns-in_default : goal.returns-in_default
returns-in_default c =
    let a = c.args in
    λ count es n e more. (entry-refused _ 18 0 a.file.now _ _ a.work.now _ (pick-none (eqb a.v 4) _ (c.in_default.ensures.entry count es n e more))
    (cleared_by a.work.now _ _ c.requires.0.room c.seek_entry.ensures.frame c.clear.ensures))

pub returns-then-v-eq4 : goal.returns-then-v-eq4
returns-then-v-eq4 c =
    let a = c.args in
    λ count es n e more.
    shown-work _ a.v a.file.now _ c.in-Ok.sought.at c.in-Ok.sought.step _ (c.in-Ok.ensures.entry count es n e more) _ c.fields_at-fields.ensures a.work.now _ _ (eq-eqb _ _ c.if-v-eq4.true) (placed (goal.at.returns-then-v-eq4 c).In-Ok).short
    c.requires.0.room c.seek_entry.ensures.frame c.clear_from.ensures

pub returns : goal.returns
returns c =
    let a = c.args in
    let old = ne_eqb _ _ c.if-v-eq4.false in
    λ count es n e more.
    shown-file _ a.v a.file.now _ c.in-Ok.sought.at c.in-Ok.sought.step _ (c.in-Ok.ensures.entry count es n e more) _ c.fields_at-fields.ensures a.work.now _ _ old (placed (goal.at.returns c).In-Ok).name
    (cleared_by a.work.now _ _ c.requires.0.room c.seek_entry.ensures.frame c.clear-2.ensures)
    (c.in-Ok.ensures.name _ refl old ∙ ap (λ (p : ℕ). name_place a.w p (body_in a.w a.file.now)) (c.in-Ok.ensures.place _ refl))
