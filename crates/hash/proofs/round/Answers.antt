-- `hash::round` meets its contract: a step with the word of the schedule. Assumes nothing.
use Rattle.hash.proofs.Schedule.{turned}
use Rattle.hash.proofs.round.Goals as goal

pub returns : goal.returns
returns c = λ h m a. turned _ _ a (c.word_of-x.ensures m a.sized a.holds) c.step.ensures
