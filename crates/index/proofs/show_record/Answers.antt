-- The proof that `show_record` meets its contract.
use Rattle.std.proofs.lemmas.Result.{err_from_is_err_and}
use Rattle.index.proofs.Views.{undo-refused}
use Rattle.index.proofs.Records.{Within, record-here, within, no-record-there, record-there, undo-shows}
use Rattle.index.proofs.show_record.Goals as goal
use Rattle.index.proofs.show_record.Goals.{In_ok-undo}

-- where the data are
inside : (c : In_ok-undo) → Within c.args.file.now c.in_ok-undo.undo
inside c = within _ c.args.k c.args.file.now c.in_ok-undo.undo c.requires.0.0 (rw c.in_ok-undo.ensures.0 at c.requires.0.1)

pub returns-in_err-undo : goal.returns-in_err-undo
returns-in_err-undo c =
    let a = c.args in
    let p = err_from_is_err_and c.from_residual.result c.from_residual.ensures.1 in
    let (is-fault, few) = c.in_err-undo.ensures in
    λ o at is placed. rw (p.1, p.2, is-fault) (undo-refused _ 18 0 a.file.now at _ (no-record-there _ a.k a.file.now a.undo o is few))

pub slice_bounds-data-count : goal.slice_bounds-data-count
slice_bounds-data-count c = (inside (goal.at.slice_bounds-data-count c).In_ok-undo).order

pub slice_bounds-data-end : goal.slice_bounds-data-end
slice_bounds-data-end c = (inside (goal.at.slice_bounds-data-end c).In_ok-undo).inside

pub returns-in_default : goal.returns-in_default
returns-in_default c =
    let a = c.args in
    λ o at is placed.
    record-here _ a.k a.file.now c.in_ok-undo.undo _ c.find_undo-place.ensures o (rw c.in_ok-undo.ensures.0 at is) c.in_ok-undo.ensures.1 λ u v h.
    absurd (record-there _ _ _ _ _ _ h (c.in_default.ensures.0 0))

pub returns : goal.returns
returns c =
    let a = c.args in
    λ o at is placed.
    record-here _ a.k a.file.now c.in_ok-undo.undo _ c.find_undo-place.ensures o (rw c.in_ok-undo.ensures.0 at is) c.in_ok-undo.ensures.1 λ u v h.
    undo-shows _ a.k a.file.now c.in_ok-undo.undo _ at _ u v h (rw c.in_ok-undo.ensures.0 at placed) _ (c.in-Some.ensures.0 0) c.in-Some.ensures.1 c.requires.1 c.requires.2
