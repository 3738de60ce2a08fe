-- `hash_words::word` meets its contract. Assumes nothing.
use Rattle.std.proofs.Common.{arith}
use Rattle.hash_words.specs.Words.{be32}
use Rattle.hash_words.proofs.word.Goals as goal

pub returns : goal.returns
unfolding be32
returns c = omega (arith, c.from_be_bytes.ensures)
