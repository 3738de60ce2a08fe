-- `hash_words::buffered::Hasher::keep` meets its contract: the slice is behind the bytes that are kept. Assumes nothing.
use Rattle.hash_words.proofs.Buffers.{buffered-kept}
use Rattle.hash_words.proofs.buffered.Hasher.keep.Goals as goal

pub returns : goal.returns
returns g c = λ m a.
    let h = c.args.self.now in
    rw (c.longer-self.ensures, c.fill.ensures, c.kept-used.ensures)
    (buffered-kept g.S.BlockHash.block g.S.BlockHash.start m c.args.bytes.now h.block h.state h.length a c.requires)
