-- The proof that `entry_length` meets its contract.
use native.Mathlib.Omega.{arith}
use Rattle.format.specs.Layout.{entry_length}
use Rattle.entries.proofs.entry_length.Goals as goal

pub returns : goal.returns
unfolding entry_length
returns c = omega arith
