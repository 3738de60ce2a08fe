-- `hash::five` meets its contract: what each round ensures is what the next asks. Assumes nothing.
use Rattle.hash.proofs.Schedule.{plus}
use Rattle.hash.proofs.five.Goals as goal

pub returns : goal.returns
returns c = λ h m a.
    let t = c.args.t in
    let a1 = c.round-s1.ensures h m a in
    let a2 = plus t 1 (c.round-s2.ensures h m a1) in
    let a3 = plus t 2 (c.round-s3.ensures h m a2) in
    let a4 = plus t 3 (c.round-s4.ensures h m a3) in
    plus t 4 (c.round.ensures h m a4)
