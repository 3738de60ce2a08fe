use Prim.Native.Nat.{◌≤◌, ◌<◌}
use native.Mathlib.Omega.{arith}
use lib.ListN.{length}
use Rattle.fields.proofs.Laws.{common-step, common-differ, common-out}
use Rattle.fields.proofs.common.Goals as goal

pub returns-then-s-i : goal.returns-then-s-i
returns-then-s-i c =
    let l = c.loop-i in
    let a = c.args in
    omega (arith, common-differ a.s.now a.t.now l.i (omega arith) (omega arith) c.if-s-i.true)

pub loop-i-preserved : goal.loop-i-preserved
loop-i-preserved c =
    let l = c.loop-i in
    let a = c.args in
    omega (arith, common-step a.s.now a.t.now l.i (omega arith) (omega arith) c.if-s-i.false)

pub returns : goal.returns
returns c =
    let l = c.loop-i in
    let a = c.args in
    let out : l.i < length a.s.now → length a.t.now ≤ l.i = λ h. omega arith in
    (omega (arith, common-out a.s.now a.t.now l.i out), omega arith, omega arith)
