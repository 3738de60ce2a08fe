use Rattle.std.proofs.Common.{◌∙◌, sym, arith}
use Rattle.hash_words.proofs.Blocks.{absorb-next, absorb-rest}
use Rattle.hash_words.proofs.block_hash.absorb.Goals as goal

pub loop-block-preserved : goal.loop-block-preserved
loop-block-preserved g c =
    let l = c.loop-block in
    let (kept, (cut, long), _) = c.in-Some.ensures.steps in
    (kept ∙ l.invariant.0, sym (absorb-next g.S.BlockHash.block l.s _ _ _ _ cut (long ∙ l.invariant.0) c.block-s.ensures) ∙ l.invariant.1)

pub returns : goal.returns
returns g c =
    let l = c.loop-block in
    let (_, (short, _), _) = c.in-None.ensures.steps in
    sym (absorb-rest g.S.BlockHash.block l.s _ (omega (arith, short, l.invariant.0))) ∙ l.invariant.1
