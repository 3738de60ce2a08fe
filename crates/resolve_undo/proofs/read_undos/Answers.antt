use mathlib.Core.Path.{sym, ◌∙◌}
use Prim.Native.Nat.{zero-le}
use native.Mathlib.Omega.{arith}
use Rattle.resolve_undo.proofs.Laws.{record-bounds}
use Rattle.resolve_undo.proofs.Records.{from_start, from_end, from-bad, from-good, within}
use Rattle.resolve_undo.proofs.read_undos.Goals as goal

pub loop-at-init : goal.loop-at-init
loop-at-init c = (zero-le, zero-le, zero-le, λ p. from_start _ p c.args.d.now)

pub returns-in_err-r : goal.returns-in_err-r
returns-in_err-r c =
    λ p. c.from_residual.ensures ∙ sym (c.loop-at.invariant.3 p ∙ from-bad _ _ _ _ _ c.read_undo.ensures c.in_err-r.was p _ c.loop-at-test.true)

pub loop-at-smaller : goal.loop-at-smaller
loop-at-smaller c =
    let b = record-bounds _ _ _ _ c.read_undo.ensures.1 c.in_ok-r.was in
    omega arith

pub loop-at-preserved : goal.loop-at-preserved
loop-at-preserved c =
    let b = within _ _ _ _ _ c.read_undo.ensures _ c.in_ok-r.was c.requires.1 c.loop-at.invariant.0 in (
      b.1,
      b.2,
      omega arith,
      λ p. c.loop-at.invariant.3 p ∙ from-good _ _ _ _ _ c.read_undo.ensures _ c.in_ok-r.was p c.requires.1 c.loop-at-test.true c.loop-at.records,
    )

pub returns : goal.returns
returns c =
    let a = c.args in
    λ p. sym (c.loop-at.invariant.3 p ∙ from_end _ p c.loop-at.records c.loop-at.at _ a.d.now c.loop-at-test.false)
