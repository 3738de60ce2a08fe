-- The proof that `word_ok` meets its contract.
use borrow.Author.Tests.{lt-ltb, le-ltb}
use Rattle.format.specs.Reader.{ok_word}
use Rattle.entries.proofs.word_ok.Goals as goal

pub returns-then-x-lt32768 : goal.returns-then-x-lt32768
unfolding ok_word
returns-then-x-lt32768 c = rw (lt-ltb _ _ c.if-x-lt32768.true)

pub returns-else-x-lt32768 : goal.returns-else-x-lt32768
unfolding ok_word
returns-else-x-lt32768 c = rw (le-ltb _ _ c.if-x-lt32768.false)
