-- `hash::State::block` meets its contract: what each five rounds ensure is what the next ask, from the block itself as the window. Assumes nothing.
use mathlib.Core.Path.{refl, ap, ◌∙◌}
use Rattle.hash_words.proofs.Words.{length-words}
use Rattle.hash_words.specs.Words.{words}
use Rattle.hash.specs.Sha1.{rounds, block, chain}
use Rattle.hash.specs.Window.{At}
use Rattle.hash.proofs.Schedule.{loaded}
use Rattle.hash.proofs.StateBlockHash.block.Goals as goal

pub returns : goal.returns
unfolding rounds block
returns c =
    let h = c.args.self in
    let p = c.args.bytes.now in
    let m = words p 0 16 in
    let a0 : At h m 0 c.load-w.result h =
    record { sized = length-words p 0 16; holds = rw c.load-w.ensures (loaded p 0); vars = refl } in
    let a1 = c.five-s5.ensures h m a0 in
    let a2 = c.five-s10.ensures h m a1 in
    let a3 = c.five-s15.ensures h m a2 in
    let a4 = c.five-s20.ensures h m a3 in
    let a5 = c.five-s25.ensures h m a4 in
    let a6 = c.five-s30.ensures h m a5 in
    let a7 = c.five-s35.ensures h m a6 in
    let a8 = c.five-s40.ensures h m a7 in
    let a9 = c.five-s45.ensures h m a8 in
    let a10 = c.five-s50.ensures h m a9 in
    let a11 = c.five-s55.ensures h m a10 in
    let a12 = c.five-s60.ensures h m a11 in
    let a13 = c.five-s65.ensures h m a12 in
    let a14 = c.five-s70.ensures h m a13 in
    let a15 = c.five-s75.ensures h m a14 in
    let a16 = c.five-s80.ensures h m a15 in
    c.chain.ensures ∙ ap (chain h) a16.vars
