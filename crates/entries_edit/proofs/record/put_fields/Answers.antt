-- The proof that `put_fields` meets its contract.
use mathlib.Core.Path.{◌≡◌}
use native.Mathlib.Omega.{arith}
use native.Mathlib.Nat.{sub-zero}
use lib.ListN.{length, take}
use lib.Seq.{length-take-le}
use Rattle.entries_edit.proofs.Records.{fields-wrote}
use Rattle.entries_edit.proofs.record.put_fields.Goals as goal

pub put_part-requires : goal.put_part-requires
put_part-requires c =
    let long : 32 ≡ length c.args.fields.object = omega arith in
    (omega arith, omega arith, omega (arith, long, c.requires.1))

pub returns : goal.returns
returns c =
    let x = c.put_five-middle.ensures in
    let y = c.put_five-end.ensures in
    let o = c.args.fields.object in
    let long : 32 ≡ length o = omega arith in
    let n = c.args.w in
    let size : length (take n o) ≡ n = length-take-le n o (omega (arith, long, c.requires.1)) in
    let z = rw sub-zero at c.put_part.ensures in
    let end = z.end in
    (fields-wrote _ _ _ x.0 y.0 z, omega (arith, size))
