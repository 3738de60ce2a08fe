-- `hash_words::block_hash::finish` meets its contract: the ending is the first 64 bytes of the tail, or all 128. Assumes nothing.
use Rattle.std.proofs.Common.{◌≡◌, length, take, ap, ◌∙◌, arith}
use Rattle.hash_words.proofs.Blocks.{ended-tail}
use Rattle.hash_words.proofs.Padding.{length-ending}
use Rattle.hash_words.specs.Padding.{ending}
use Rattle.hash_words.specs.Blocks.{finish}
use Rattle.hash_words.proofs.block_hash.finish.Goals as goal
use Rattle.hash_words.proofs.block_hash.finish.Goals.{else-rest-lt56, then-rest-lt56}

pub returns : goal.returns
unfolding finish
returns g c =
    let end = c.if-rest-lt56.end in
    let t = c.tail-t in
    let z = c.args in
    let m = z.rest.now in
    let le = length-ending z.length m in
    let e : end ≡ length (ending z.length m) = elim c.if-rest-lt56.branch [ then-rest-lt56 w ↦ omega arith | else-rest-lt56 w ↦ omega arith ] in
    let all = ended-tail g.S.BlockHash.block z.h _ _ m t.result (take end t.result) z.length c.absorb-g.ensures t.ensures (rw e)
    c.absorb.ensures in
    c.digest.ensures ∙ ap g.S.BlockHash.digest all
