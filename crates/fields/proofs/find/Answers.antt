-- The proof that `find` meets its contract.
use mathlib.Core.Path.{refl}
use Prim.Native.Nat.{◌≤◌, ◌<◌}
use native.Mathlib.Omega.{arith}
use lib.ListN.{length}
use Rattle.fields.proofs.Laws.{before-end, before_here, before-later}
use Rattle.fields.proofs.find.Goals as goal

pub loop-i-init : goal.loop-i-init
loop-i-init c = (refl, refl)

pub loop-i-preserved : goal.loop-i-preserved
loop-i-preserved c = let l = c.loop-i in (refl, omega (arith, before-later c.args.b c.args.s.now l.i (omega arith) c.if-s-i.false))

pub returns-after-loop-i : goal.returns-after-loop-i
returns-after-loop-i c = let l = c.loop-i in omega (arith, before-end c.args.b c.args.s.now l.i (omega arith))

pub returns-then-s-i : goal.returns-then-s-i
returns-then-s-i c = let l = c.loop-i in omega (arith, before_here c.args.b c.args.s.now l.i (omega arith) c.if-s-i.true)
