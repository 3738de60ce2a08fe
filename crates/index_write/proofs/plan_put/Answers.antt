-- The proof that `plan_put` meets its contract.
use mathlib.Core.Path.{sym}
use Prim.Native.Nat.{◌-◌}
use native.Mathlib.Omega.{arith}
use lib.ListN.{length}
use lib.Seq.{length-take-le}
use Rattle.std.proofs.lemmas.Result.{err_from_is_err_and}
use Rattle.format_laws.proofs.Refusals.{number-some}
use Rattle.fields.proofs.Workspace.{frame_same}
use Rattle.index_write.proofs.Files.{long-in, room_in, entries-in}
use Rattle.index_write.proofs.Plans.{plan-unsound, plan-mixed, plan-put}
use Rattle.index_write.proofs.plan_put.Goals as goal

pub returns-in_err-test_record : goal.returns-in_err-test_record
returns-in_err-test_record c =
    let error = err_from_is_err_and c.from_residual.result c.from_residual.ensures.1 in
    rw (error.1, error.2) (record { frame = frame_same _; is = plan-unsound _ _ _ _ c.requires _ _ _ c.in_err-test_record.ensures (number-some _) })

pub overflow_sub-n : goal.overflow_sub-n
overflow_sub-n c = omega (arith, long-in _ _ c.width_of-w.ensures.0 _ _ _ c.requires)

pub slice_bounds-find_place-end : goal.slice_bounds-find_place-end
slice_bounds-find_place-end c = let a = c.args in sym (length-take-le (length a.file.now - c.width_of-w.result) a.file.now (omega arith))

pub find_place-place-requires : goal.find_place-place-requires
find_place-place-requires c =
    let is = c.width_of-w.ensures.0 in
    (room_in _ _ is _ _ _ c.requires, entries-in _ _ is _ _ _ c.requires, c.width_of-w.ensures.2)

pub returns-then-place : goal.returns-then-place
returns-then-place c =
    let r = rw c.width_of-w.ensures.0 at c.find_place-place.ensures in
    record { frame = r.frame; is = plan-mixed _ _ _ _ c.requires _ _ _ _ r (sym c.in_ok-test_record.ensures) c.if-place.true }

pub returns : goal.returns
returns c =
    let r = rw c.width_of-w.ensures.0 at c.find_place-place.ensures in
    record { frame = r.frame; is = plan-put _ _ _ _ c.requires _ _ _ _ r (sym c.in_ok-test_record.ensures) c.if-place.false }
