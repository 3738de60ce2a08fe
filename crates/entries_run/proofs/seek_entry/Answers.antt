use mathlib.Core.List.{[]}
use mathlib.Core.Path.{refl}
use native.Mathlib.Omega.{arith}
use lib.ListN.{length-append}
use Rattle.std.proofs.lemmas.Result.{err_from_is_err_and}
use Rattle.entries_run.proofs.Mapped.{mapped-ok, mapped-err}
use Rattle.entries_run.proofs.Steps.{walking-first, walking-more, sought-bad, sought-good}
use Rattle.entries_run.proofs.seek_entry.Goals as goal

pub loop-init : goal.loop-init
loop-init c =
    let a = c.args in
    rw c.first-c.ensures ([], walking-first _ a.v a.b.now a.work.now c.requires.0, refl)

pub next_entry-requires : goal.next_entry-requires
next_entry-requires c = (c.loop.invariant.1.inside, omega arith, omega arith)

pub returns-in_err-st : goal.returns-in_err-st
returns-in_err-st c =
    let (es, h, sum) = c.loop.invariant in
    let error = err_from_is_err_and c.from_residual.result c.from_residual.ensures.1 in
    mapped-err _ c.next_entry.result c.map_err.result c.in_err-st.field-0.0 c.map_err.ensures.cases c.in_err-st.was λ e is learnt.
    rw (error.1, error.2) (sought-bad h (omega (arith, sum)) (rw is at c.next_entry.ensures))

pub loop-preserved : goal.loop-preserved
loop-preserved c =
    let (es, h, sum) = c.loop.invariant in
    let is = mapped-ok _ c.next_entry.result c.map_err.result c.in_ok-st.st c.map_err.ensures.cases c.in_ok-st.was in
    (_, walking-more h (rw is at c.next_entry.ensures), rw length-append (omega (arith, sum)))

pub next_entry-requires-2 : goal.next_entry-requires-2
next_entry-requires-2 c = (c.loop.invariant.1.inside, omega arith, omega arith)

pub returns-in_err-step : goal.returns-in_err-step
returns-in_err-step c =
    let (es, h, sum) = c.loop.invariant in
    let error = err_from_is_err_and c.from_residual-in_err-step.result c.from_residual-in_err-step.ensures.1 in
    mapped-err _ c.next_entry-2.result c.map_err-2.result c.in_err-step.field-0.0 c.map_err-2.ensures.cases c.in_err-step.was λ e is learnt.
    rw (error.1, error.2) (sought-bad h (omega (arith, sum)) (rw is at c.next_entry-2.ensures))

pub returns : goal.returns
returns c =
    let (es, h, sum) = c.loop.invariant in
    let is = mapped-ok _ c.next_entry-2.result c.map_err-2.result c.in_ok-step.step c.map_err-2.ensures.cases c.in_ok-step.was in
    sought-good h (omega (arith, sum, c.loop-test.false)) (rw is at c.next_entry-2.ensures)
