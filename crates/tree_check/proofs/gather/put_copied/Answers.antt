-- The proof that `put_copied` meets its contract.
use mathlib.Core.Path.{sym}
use Prim.Native.Nat.{◌≤◌}
use native.Mathlib.Omega.{arith}
use lib.ListN.{length}
use lib.Seq.{length-take-le}
use Rattle.tree_check.proofs.gather.put_copied.Goals as goal

pub slice_bounds-copy_to-end-2 : goal.slice_bounds-copy_to-end-2
slice_bounds-copy_to-end-2 c =
    let i = c.requires.0.inside in
    let l : c.args.s.cursor.len ≤ length c.args.work.now = omega (arith, i.short, c.requires.1) in
    sym (length-take-le c.args.s.cursor.len c.args.work.now l)

pub copy_to-requires : goal.copy_to-requires
copy_to-requires c =
    let i = c.requires.0.inside in
    let l : c.args.s.cursor.len ≤ length c.args.work.now = omega (arith, i.short, c.requires.1) in
    omega (arith, length-take-le c.args.s.cursor.len c.args.work.now l, i.short)
