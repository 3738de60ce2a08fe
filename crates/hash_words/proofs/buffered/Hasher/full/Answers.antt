-- `hash_words::buffered::Hasher::full` meets its contract: the slice ends the block, which is hashed. Assumes nothing.
use Rattle.std.proofs.Common.{◌∙◌}
use Rattle.hash_words.proofs.Buffers.{buffered-filled}
use Rattle.hash_words.proofs.buffered.Hasher.full.Goals as goal

pub returns-clause-absorbed : goal.returns-clause-absorbed
returns-clause-absorbed g c = λ m a.
    let h = c.args.self.now in
    rw c.longer-self.ensures (buffered-filled g.S.BlockHash.block g.S.BlockHash.start m c.args.last.now h.block h.state h.length a c.requires _ _
    (c.fill.ensures ∙ rw c.kept-used.ensures) c.absorb-self.ensures)
