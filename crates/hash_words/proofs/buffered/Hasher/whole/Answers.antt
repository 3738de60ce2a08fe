-- `hash_words::buffered::Hasher::whole` meets its contract: the whole blocks of the slice are hashed, the bytes after them kept. Assumes nothing.
use Rattle.std.proofs.Common.{◌≡◌, ℕ, ◌-◌, ◌*◌, ◌/◌, ◌%◌, length, ◌∙◌, arith}
use Rattle.hash_words.proofs.Buffers.{buffered-whole}
use Rattle.hash_words.proofs.Copying.{rest_of}
use Rattle.hash_words.proofs.buffered.Hasher.whole.Goals as goal

pub returns : goal.returns
returns g c = λ m e a.
    let h = c.args.self.now in
    let bytes = c.args.bytes.now in
    let n : ℕ = length bytes in
    let from : n - n % 64 ≡ n / 64 * 64 = omega arith in
    rw (c.longer-self.ensures, c.fill.ensures)
    (buffered-whole g.S.BlockHash.block g.S.BlockHash.start m bytes h.block h.state h.length a e _ _ c.absorb-self.ensures
    (rest_of bytes (n - n % 64) ∙ rw from))
