-- `hash_words::buffered::Hasher::finalize` meets its contract: the bytes that are kept end the message. Assumes nothing.
use Rattle.std.proofs.Common.{ap, ◌∙◌}
use Rattle.hash_words.proofs.Buffers.{buffered-ended}
use Rattle.hash_words.specs.Blocks.{finish, digest_of}
use Rattle.hash_words.proofs.buffered.Hasher.finalize.Goals as goal

pub returns : goal.returns
unfolding finish digest_of
returns g c = λ m a.
    let h = c.args.self in
    let s = g.S.BlockHash in
    c.finish.ensures ∙ rw c.kept-used.ensures (ap s.digest (buffered-ended s.block s.start m h.block h.state h.length a))
