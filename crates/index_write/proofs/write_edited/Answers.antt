-- The proof that `write_edited` meets its contract.
use mathlib.Core.Path.{sym}
use Prim.Native.Nat.{◌-◌}
use native.Mathlib.Omega.{arith}
use lib.ListN.{length}
use lib.Seq.{length-take-le}
use Rattle.index_write.proofs.Files.{long-in}
use Rattle.index_write.proofs.Answers.{edit-ready, edit-writes}
use Rattle.index_write.proofs.write_edited.Goals as goal

pub overflow_sub-n : goal.overflow_sub-n
overflow_sub-n c = omega (arith, long-in _ _ c.width_of-w.ensures.0 _ _ _ c.requires.opened)

pub slice_bounds-write-end : goal.slice_bounds-write-end
slice_bounds-write-end c = let a = c.args in sym (length-take-le (length a.file.now - c.width_of-w.result) a.file.now (omega arith))

pub write-written-requires : goal.write-written-requires
write-written-requires c =
    let is = c.width_of-w.ensures.0 in
    (rw is (edit-ready c.args.kind c.args.file.now c.args.work.now (λ i. omega (arith, c.type_inv.file i)) c.args.parts c.args.edit c.args.fields c.args.name.now c.requires), is, omega (arith, c.width_of-w.ensures.1), c.width_of-w.ensures.2)

pub returns : goal.returns
returns c =
    edit-writes c.args.kind c.args.file.now c.args.work.now (λ i. omega (arith, c.type_inv.file i)) c.args.parts c.args.edit c.args.fields c.args.name.now c.requires _ _ _ _ _ _
    (rw c.width_of-w.ensures.0 at c.write-written.ensures) c.clear.ensures
