-- The proof that `name_at` meets its contract.
use mathlib.Core.Path.{◌∙◌}
use Rattle.answers.specs.Answers.{name_told}
use Rattle.walk.proofs.Seeing.{shown-name, no-name-shown}
use Rattle.walk.proofs.name_at.Goals as goal

pub returns-in-Ok : goal.returns-in-Ok
unfolding name_told
returns-in-Ok c = c.part_of.ensures ∙ shown-name _ _ _ _ _ c.in-Ok.ensures

pub returns-in-Err : goal.returns-in-Err
returns-in-Err c = no-name-shown _ _ _ _ _ c.in-Err.ensures
