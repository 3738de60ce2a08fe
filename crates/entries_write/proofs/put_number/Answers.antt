-- The proof that `put_number` meets its contract.
use native.Mathlib.Omega.{arith}
use Rattle.entries_write.proofs.Names.{number-one, number-two}
use Rattle.entries_write.proofs.put_number.Goals as goal

pub returns-then-n-lt128 : goal.returns-then-n-lt128
returns-then-n-lt128 c = number-one _ _ _ _ _ (omega arith) c.put_byte.ensures

pub returns : goal.returns
returns c =
    number-two _ _ _ _ _ _ _ (omega arith) c.put_byte-middle.ensures c.put_byte-2.ensures
