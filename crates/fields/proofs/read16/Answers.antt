-- The proof that `read16` meets its contract.
use native.Mathlib.Omega.{arith}
use Rattle.format.specs.Bytes.{be16}
use Rattle.fields.proofs.read16.Goals as goal

pub returns : goal.returns
unfolding be16
returns c = omega arith
