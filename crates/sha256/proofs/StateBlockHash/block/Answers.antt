-- `sha256::State::block` meets its contract: the rounds begin with the block itself as the window. Assumes nothing.
use mathlib.Core.Path.{refl, ap, ◌∙◌}
use Rattle.hash_words.proofs.Words.{length-words}
use Rattle.hash_words.specs.Words.{words}
use Rattle.sha256.specs.Sha256.{rounds, block, chain}
use Rattle.sha256.specs.Window.{At}
use Rattle.sha256.proofs.Schedule.{loaded}
use Rattle.sha256.proofs.StateBlockHash.block.Goals as goal

pub returns : goal.returns
unfolding rounds block
returns c =
    let h = c.args.self in
    let p = c.args.bytes.now in
    let m = words p 0 16 in
    let a : At h m 0 c.load-w.result h =
    record { sized = length-words p 0 16; holds = rw c.load-w.ensures (loaded p 0); vars = refl } in
    c.chain.ensures ∙ ap (chain h) (c.rounds-s.ensures m a).vars
