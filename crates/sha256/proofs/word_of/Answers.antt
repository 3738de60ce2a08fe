-- `sha256::word_of` meets its contract: before round 16 the word is in the window, from then on it is made of four words there. Assumes nothing.
use native.Mathlib.Omega.{arith}
use Rattle.hash_words.proofs.Schedule.{word_held}
use Rattle.sha256.proofs.Schedule.{word_made}
use Rattle.sha256.proofs.word_of.Goals as goal

pub returns-then-t-lt16 : goal.returns-then-t-lt16
returns-then-t-lt16 c = λ m l h.
    let z = c.args in
    word_held _ z.t z.w.now h (omega arith)

pub returns : goal.returns
returns c = λ m l h.
    let z = c.args in
    word_made m z.t z.w.now l h (omega arith) (omega arith) _
    (rw (c.small0.ensures, c.small1.ensures))
