-- `hash_words::block_hash::absorb` meets its contract. The loop's invariant: what is left, from the state so far, gives the state after all
-- of the piece. Assumes nothing.
use Rattle.std.proofs.Common.{◌≡◌, ◌/◌, length}
use Rattle.hash_words.specs.Blocks as B
use Rattle.hash_words.proofs.block_hash.absorb.Given as goal

abbrev pub invariant-loop-block : goal.invariant-loop-block
invariant-loop-block g l =
    let block = g.S.BlockHash.block in
    let rest = l.block-iterator.rest.now in
    (l.block-iterator.size ≡ 64) × (B.absorb block l.s rest (length rest / 64) ≡ B.absorb block l.initial.s l.bytes (length l.bytes / 64))
