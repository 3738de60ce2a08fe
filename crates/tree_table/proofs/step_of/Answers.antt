-- The proof that `step_of` meets its contract.
use mathlib.Core.Path.{refl}
use native.Mathlib.Omega.{arith}
use Rattle.tree_table.specs.Keys.{step_of}
use Rattle.tree_table.proofs.step_of.Goals as goal

pub returns : goal.returns
unfolding step_of
returns c = (refl, omega arith)
