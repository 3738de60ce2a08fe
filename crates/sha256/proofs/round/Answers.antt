-- `sha256::round` meets its contract: a step with the word of the schedule. Assumes nothing.
use Rattle.sha256.proofs.Schedule.{turned}
use Rattle.sha256.proofs.round.Goals as goal

pub returns : goal.returns
returns c = λ h m a. turned _ _ _ c.requires.1 a (c.word_of-x.ensures m a.sized a.holds) c.step.ensures
