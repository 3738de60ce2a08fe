-- The proof that `append_checksum` meets its contract.
use mathlib.Core.Path.{◌≡◌, sym}
use native.Mathlib.Omega.{arith}
use native.Mathlib.Nat.{sub-zero}
use lib.ListN.{length}
use lib.Seq.{length-take-le}
use Rattle.file_write.proofs.append_checksum.Goals as goal

pub slice_bounds-digest_of-end-2 : goal.slice_bounds-digest_of-end-2
slice_bounds-digest_of-end-2 c = let a = c.args in sym (length-take-le a.n a.out.now c.requires.0)

pub put_part-requires : goal.put_part-requires
put_part-requires c =
    let long : 32 ≡ length c.digest_of-checksum.result = omega arith in
    (omega arith, omega arith, omega arith)

pub returns : goal.returns
returns c =
    rw (sub-zero, c.requires.2, c.digest_of-checksum.ensures) at c.put_part.ensures
