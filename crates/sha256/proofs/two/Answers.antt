-- `sha256::two` meets its contract: what the first round ensures is what the second asks. Assumes nothing.
use Rattle.sha256.proofs.Schedule.{plus}
use Rattle.sha256.proofs.two.Goals as goal

pub returns : goal.returns
returns c = λ h m a.
    plus c.args.t 1 (c.round.ensures h m (c.round-s1.ensures h m a))
