use Rattle.std.proofs.Common.{refl, ◌∙◌, arith, take_all, length-set}
use Rattle.hash_words.proofs.Copying.{sets-next}
use Rattle.hash_words.proofs.copy_over.Goals as goal

pub loop-i-init : goal.loop-i-init
loop-i-init c = (refl, refl)

pub loop-i-preserved : goal.loop-i-preserved
loop-i-preserved c =
    let l = c.loop-i in
    let z = c.args in
    (simp length-set l.invariant.0, rw l.invariant.1 (sets-next z.out.now z.bytes.now z.at l.i c.loop-i-test.true))

pub shape_of-out : goal.shape_of-out
shape_of-out c = c.loop-i.invariant.0

pub returns : goal.returns
returns c =
    let l = c.loop-i in
    let z = c.args in
    l.invariant.1 ∙ rw (take_all l.i z.bytes.now (omega arith))
