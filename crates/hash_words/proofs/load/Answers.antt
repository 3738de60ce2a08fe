use Rattle.std.proofs.Common.{◌≡◌, replicate, sym, refl, ◌∙◌, append-nil, arith}
use Rattle.hash_words.specs.Words.{words}
use Rattle.hash_words.proofs.Copying.{copy-next, copy_done}
use Rattle.hash_words.proofs.Words.{length-words, get_d_words}
use Rattle.hash_words.proofs.load.Goals as goal

pub loop-i-init : goal.loop-i-init
loop-i-init c = (omega arith, refl)

pub loop-i-preserved : goal.loop-i-preserved
loop-i-preserved c =
    let z = c.args in
    let l = c.loop-i in
    let s = words z.p.now z.at 16 in (
      omega arith,
      copy-next (replicate 16 0) s l.w l.i l.invariant.1 _ (c.word.ensures ∙ sym (get_d_words z.p.now z.at 16 l.i (omega arith)))
          (omega arith) (omega (arith, length-words z.p.now z.at 16)),
    )

pub returns : goal.returns
returns c =
    let z = c.args in
    let l = c.loop-i in
    let e : l.i ≡ 16 = omega arith in
    let s = words z.p.now z.at 16 in
    copy_done (replicate 16 0) s l.w l.i l.invariant.1 (omega (arith, length-words z.p.now z.at 16)) ∙ rw e (append-nil s)
