use mathlib.Core.Path.{◌≡◌, refl, ◌∙◌}
use Prim.Native.Nat.{◌+◌, ◌<◌}
use native.Mathlib.Omega.{arith}
use native.Mathlib.Numerals.{add-one}
use lib.ListN.{length, length-set}
use lib.Seq.{paste-zero, paste-suc}
use Rattle.fields.proofs.Laws.{copied}
use Rattle.fields.proofs.copy_to.Goals as goal

pub loop-i-init : goal.loop-i-init
loop-i-init c = (refl, paste-zero c.args.work.now c.args.at c.args.s.now)

pub loop-i-preserved : goal.loop-i-preserved
loop-i-preserved c =
    let a = c.args in
    let h : a.at + c.loop-i.i < length a.work.now = omega arith in (
      simp length-set c.loop-i.invariant.0,
      rw (c.loop-i.invariant.1, add-one c.loop-i.i) (paste-suc a.work.now a.at a.s.now c.loop-i.i 0 h c.loop-i-test.true),
    )

pub shape_of-work : goal.shape_of-work
shape_of-work c = c.loop-i.invariant.0

pub returns : goal.returns
returns c =
    let e : c.loop-i.i ≡ length c.args.s.now = omega arith in
    rw e at c.loop-i.invariant.1 ∙ copied c.args.work.now c.args.s.now c.args.at
