-- `hash_words::block_hash::digest_of` meets its contract: the whole message is its last piece. Assumes nothing.
use Rattle.std.proofs.Common.{◌∙◌}
use Rattle.hash_words.proofs.Blocks.{finish-whole}
use Rattle.hash_words.proofs.block_hash.digest_of.Goals as goal

pub returns : goal.returns
returns g c = c.finish.ensures ∙ rw c.start.ensures (finish-whole _ _ _ _)
