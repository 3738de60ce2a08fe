use mathlib.Core.Path.{refl}
use mathlib.Core.List.{[]}
use native.Mathlib.Omega.{arith}
use lib.ListN.{length-append}
use borrow.Author.Rules.{rules}
use Rattle.std.proofs.lemmas.Result.{err_from_is_err_and}
use Rattle.entries_run.proofs.Mapped.{mapped-ok, mapped-err}
use Rattle.entries_run.proofs.Steps.{begun_first, begun-next, walking-first, walking-more, ran-bad, ran-good}
use Rattle.entries_run.proofs.run_entries.Goals as goal

pub loop-init : goal.loop-init
loop-init c =
    let a = c.args in
    (([], walking-first _ a.v a.b.now a.work.now c.requires.0, refl), begun_first a.v a.b.now a.work.now)

pub entry_at-read-requires : goal.entry_at-read-requires
entry_at-read-requires c = let l = c.loop in (l.invariant.0.1.inside, omega arith, λ e. l.invariant.1, omega arith)

pub returns-in_err-st : goal.returns-in_err-st
returns-in_err-st c =
    let (es, h, sum) = c.loop.invariant.0 in
    let error = err_from_is_err_and c.from_residual.result c.from_residual.ensures.1 in
    mapped-err _ c.entry_at-read.result c.map_err.result c.in_err-st.field-0.0 c.map_err.ensures.cases c.in_err-st.was λ e is learnt.
    rw (error.1, error.2) (ran-bad h e _ (search rules) (search rules) (omega (arith, sum)) ((rw is at c.entry_at-read.ensures).first refl))

pub loop-preserved : goal.loop-preserved
loop-preserved c =
    let a = c.args in
    let (es, h, sum) = c.loop.invariant.0 in
    let is = mapped-ok _ c.entry_at-read.result c.map_err.result c.in_ok-st.st c.map_err.ensures.cases c.in_ok-st.was in
    let step = (rw is at c.entry_at-read.ensures).first refl in
    ((_, walking-more h step, rw length-append (omega (arith, sum))), begun-next _ a.v a.b.now c.loop.work _ _ _ step)

pub returns : goal.returns
returns c = let (es, h, sum) = c.loop.invariant.0 in ran-good h (omega (arith, sum))
