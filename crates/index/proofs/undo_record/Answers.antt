-- The proof that `undo_record` meets its contract.
use native.Mathlib.Omega.{arith}
use Rattle.std.proofs.lemmas.Result.{err_from_is_err_and}
use Rattle.kinds.proofs.Laws.{width-most}
use Rattle.index.proofs.Views.{undo_is, undo-refused}
use Rattle.index.proofs.Places.{undo-place}
use Rattle.index.proofs.undo_record.Goals as goal

pub returns-in_err-found : goal.returns-in_err-found
returns-in_err-found c =
    let p = err_from_is_err_and c.from_residual.result c.from_residual.ensures.1 in
    (rw (p.1, p.2) (undo-refused _ _ _ c.args.file.now _ _ (undo_is _ c.args.k _ _ c.in_err-found.ensures.0)), c.read_cleared.ensures.1)

pub show_record-requires : goal.show_record-requires
show_record-requires c =
    let h = c.in_ok-found.ensures.0 in
    rw c.width_of.ensures.0 ((h.contents.records.resolve_undo, h.undo), omega arith, width-most _)

pub returns : goal.returns
returns c =
    let a = c.args in
    let h = c.in_ok-found.ensures.0 in
    (rw (undo_is a.work.now a.k _ _ h.read) (rw c.width_of.ensures.0 at c.show_record.ensures h.contents.records.resolve_undo _ h.undo (undo-place _ _ _ _ h a.k)), c.read_cleared.ensures.1)
