use mathlib.Core.Bool.{true, false}
use mathlib.Core.Path.{◌≡◌, sym, ◌∙◌}
use Prim.Native.Nat.{◌-◌}
use native.Mathlib.Omega.{arith}
use native.Mathlib.Nat.{sub_self}
use lib.ListN.{length, take, drop}
use Rattle.format.specs.Names.{ok_component}
use Rattle.format_laws.proofs.Lists.{part-more}
use Rattle.format_laws.proofs.Names.{ok_name-over}
use Rattle.fields.proofs.Laws.{ok_rest-end, ok_rest-nul, ok_rest-slash, ok_rest-other, ok_name-in}
use Rattle.fields.proofs.name_ok.Goals as goal
use Rattle.fields.proofs.name_ok.Goals.{then-x-eq47+then-component_ok, else-x-eq47}

pub returns-then-s-gt-LONGEST : goal.returns-then-s-gt-LONGEST
returns-then-s-gt-LONGEST c = sym (ok_name-over _ c.if-s-gt-LONGEST.true)

pub returns-then-x-eq0 : goal.returns-then-x-eq0
returns-then-x-eq0 c =
    let s = c.args.s.now in
    sym (ok_name-in s c.if-s-gt-LONGEST.false ∙ c.loop-e.invariant.1 ∙ ok_rest-nul _ s c.loop-e.e c.loop-e-test.true c.if-x-eq0.true)

pub returns-else-component_ok : goal.returns-else-component_ok
returns-else-component_ok c =
    let s = c.args.s.now in
    let bad : ok_component (take (c.loop-e.e - c.loop-e.at) (drop c.loop-e.at s)) ≡ false = sym c.component_ok.ensures ∙ c.if-component_ok.false in
    sym (ok_name-in s c.if-s-gt-LONGEST.false ∙ c.loop-e.invariant.1 ∙ rw (ok_rest-slash _ s c.loop-e.e c.loop-e-test.true c.if-x-eq47.true, bad))

pub loop-e-preserved : goal.loop-e-preserved
loop-e-preserved c =
    let s = c.args.s.now in
    let e = c.loop-e.e in
    elim c.if-x-eq47.branch [
      | then-x-eq47+then-component_ok w ↦
          let good : ok_component (take (e - c.loop-e.at) (drop c.loop-e.at s)) ≡ true = sym w.component_ok.ensures ∙ w.if-component_ok.true in (
            omega arith,
            rw (w.at-is, sub_self) (c.loop-e.invariant.1 ∙ rw (ok_rest-slash _ s e c.loop-e-test.true w.if-x-eq47.true, good)),
          )
      | else-x-eq47 w ↦ (
        omega arith,
        rw (w.at-is, part-more s c.loop-e.at e c.loop-e.invariant.0 c.loop-e-test.true)
            (c.loop-e.invariant.1 ∙ ok_rest-other _ s e c.loop-e-test.true c.if-x-eq0.false w.if-x-eq47.false),
      )
    ]

pub returns : goal.returns
returns c =
    let s = c.args.s.now in
    let end : c.loop-e.e ≡ length s = omega arith in
    sym (ok_name-in s c.if-s-gt-LONGEST.false ∙ rw end at c.loop-e.invariant.1 ∙ ok_rest-end _ s _ (omega arith) ∙ sym c.component_ok-2.ensures)
