-- The proof that `length_field` meets its contract.
use native.Mathlib.Omega.{arith}
use Rattle.format.specs.Names.{length_field}
use Rattle.fields.proofs.length_field.Goals as goal

pub returns : goal.returns
unfolding length_field
returns c = omega arith
