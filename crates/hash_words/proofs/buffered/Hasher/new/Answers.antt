-- `hash_words::buffered::Hasher::new` meets its contract: the empty message has no byte. Assumes nothing.
use Rattle.std.proofs.Common.{refl}
use Rattle.hash_words.proofs.Buffers.{buffered-none}
use Rattle.hash_words.proofs.buffered.Hasher.new.Goals as goal

pub returns : goal.returns
returns g c = rw c.start.ensures (buffered-none g.S.BlockHash.block g.S.BlockHash.start _ refl)
