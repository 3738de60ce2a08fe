use native.Mathlib.Omega.{arith}
use Rattle.tree_table.specs.Keys.{fold, step_key}
use mathlib.Core.Path.{refl}
use Rattle.tree_table.proofs.step_key.Goals as goal

pub returns : goal.returns
unfolding step_key fold
returns c = (refl, omega arith, omega arith)
