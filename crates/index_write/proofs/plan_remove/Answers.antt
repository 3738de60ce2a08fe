-- The proof that `plan_remove` meets its contract.
use mathlib.Core.Path.{sym}
use Prim.Native.Nat.{◌-◌}
use native.Mathlib.Omega.{arith}
use lib.ListN.{length}
use lib.Seq.{length-take-le}
use Rattle.index_write.proofs.Files.{long-in, room_in, entries-in}
use Rattle.index_write.proofs.Plans.{plan-absent, plan-remove}
use Rattle.index_write.proofs.plan_remove.Goals as goal

pub overflow_sub-n : goal.overflow_sub-n
overflow_sub-n c = omega (arith, long-in _ _ c.width_of-w.ensures.0 _ _ _ c.requires)

pub slice_bounds-find_place-end : goal.slice_bounds-find_place-end
slice_bounds-find_place-end c = let a = c.args in sym (length-take-le (length a.file.now - c.width_of-w.result) a.file.now (omega arith))

pub find_place-place-requires : goal.find_place-place-requires
find_place-place-requires c =
    let is = c.width_of-w.ensures.0 in
    (room_in _ _ is _ _ _ c.requires, entries-in _ _ is _ _ _ c.requires, c.width_of-w.ensures.2)

pub returns-then-place : goal.returns-then-place
returns-then-place c = λ fields low.
    let r = rw c.width_of-w.ensures.0 at c.find_place-place.ensures in
    record { frame = r.frame; is = plan-remove _ _ _ _ c.requires _ fields _ _ _ r (λ i. omega (arith, c.type_inv.file i)) c.if-place.true low }

pub returns : goal.returns
returns c = λ fields low.
    let r = rw c.width_of-w.ensures.0 at c.find_place-place.ensures in
    record { frame = r.frame; is = plan-absent _ _ _ _ c.requires _ fields _ _ _ r c.if-place.false }
