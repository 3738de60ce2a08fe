use mathlib.Core.Path.{◌≡◌, ◌∙◌}
use Prim.Native.Nat.{◌+◌, ◌-◌, ◌≤◌, ◌<◌}
use borrow.Author.Tests.{ltb-true, ltb-false}
use lib.Dec.{ltb}
use lib.ListN.{drop}
use Rattle.format.specs.Names.{ok_name}
use Rattle.format_laws.proofs.Tests.{by-test}
use native.Mathlib.Omega.{arith}
use Rattle.fields.proofs.Laws.{lacks-end, lacks-step, look-slash, look-part}
use Rattle.fields.proofs.look_from.Goals as goal

pub loop-i-init : goal.loop-i-init
loop-i-init c = (omega arith, lacks-end 47 c.args.s.now c.args.kept c.args.kept (omega arith))

pub returns-then-s-i-eq47 : goal.returns-then-s-i-eq47
returns-then-s-i-eq47 c = (omega arith, look-slash c.args.s.now c.args.kept (c.loop-i.i - 1) c.requires.0 c.requires.1 c.requires.2 (omega arith) (omega arith) c.if-s-i-eq47.true)

pub loop-i-preserved : goal.loop-i-preserved
loop-i-preserved c =
    let is : c.loop-i.i - 1 + 1 ≡ c.loop-i.i = omega arith in
    (omega arith, lacks-step 47 c.args.s.now (c.loop-i.i - 1) c.args.kept (omega arith) c.requires.0 c.if-s-i-eq47.false ∙ rw is c.loop-i.invariant.1)

pub returns : goal.returns
returns c =
    let a = c.args in
    let first = c.saturating_sub-first.result in
    let end : c.loop-i.i ≡ first = omega arith in
    let sound : ok_name (drop first a.s.now) ≡ ok_name a.s.now =
    by-test (ltb 4 a.kept)
    (λ t.
    let many : 4 < a.kept = ltb-true 4 a.kept t in
    look-part a.s.now a.kept first c.requires.0 c.requires.1 c.requires.2 (omega arith) (omega arith) (rw end at c.loop-i.invariant.1))
    (λ t.
    let few : a.kept ≤ 4 = ltb-false 4 a.kept t in
    let none : first ≡ 0 = omega arith in
    rw none)
    in
    (omega arith, sound)
