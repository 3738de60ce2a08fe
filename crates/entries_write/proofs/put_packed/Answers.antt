-- The proof that `put_packed` meets its contract.
use native.Mathlib.Omega.{arith}
use lib.ListN.{length-take}
use Rattle.entries_write.proofs.Names.{packed-wrote}
use Rattle.entries_write.proofs.put_packed.Goals as goal

pub put_byte-requires : goal.put_byte-requires
put_byte-requires c =
    let part = rw length-take at c.put_part-end.ensures.end in
    omega (arith, c.put_number-middle.ensures, c.requires)

pub returns : goal.returns
returns c =
    packed-wrote _ _ _ _ _ _ _ _ _ _ _ c.requires.1 c.put_number-middle.ensures c.put_part-end.ensures c.put_byte.ensures
