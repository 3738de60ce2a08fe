-- The proof that `name_of` meets its contract.
use Rattle.answers.specs.Answers.{name_in, name_told}
use Rattle.answers.proofs.name_of.Goals as goal

pub returns-in_default : goal.returns-in_default
unfolding name_told
returns-in_default c = rw c.in_default.is

pub returns-in-InFile : goal.returns-in-InFile
unfolding name_in name_told
returns-in-InFile c = rw (c.in-Ok.is, c.in-InFile.is) c.part.ensures

pub returns-in-InWorkspace : goal.returns-in-InWorkspace
unfolding name_in name_told
returns-in-InWorkspace c = rw (c.in-Ok.is, c.in-InWorkspace.is) c.part-in-InWorkspace.ensures
