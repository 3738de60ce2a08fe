-- The proof that `entry_at` meets its contract.
use mathlib.Core.Path.{refl, sym, ◌∙◌}
use borrow.Author.Tests.{ne_eqb}
use Rattle.format_laws.proofs.Tests.{false-true}
use Rattle.std.specs.Prelude.{Ok}
use Rattle.std.proofs.lemmas.Result.{err_from_is_err_and}
use Rattle.entries_run.specs.Steps.{cursor_of, HeadAt, HeadRead}
use Rattle.entries_run.proofs.Names.{name_at-work, name_at-plain}
use Rattle.entries_run.proofs.Rests.{headed-as, tested, tested-by, step-refused, step-on, step-four, pass-refused, pass_on, pass-four}
use Rattle.entries_run.proofs.entry_at.Goals as goal
use Rattle.entries_run.proofs.entry_at.Goals.{In_ok-h}

-- what is known once the bytes before the name are read
read :
    (c : In_ok-h) →
    let a = c.args in
    HeadRead a.w a.again a.v a.b.now a.at (Ok c.in_ok-h.h)
read c = c.in_ok-h.ensures

there :
    (c : In_ok-h) →
    let a = c.args in
    HeadAt a.b.now (cursor_of a.at a.start a.len a.stage) c.in_ok-h.h
there c =
    let t = read c in
    headed-as _ c.args.b.now _ _ c.requires.0 c.requires.3 (t.sized _ refl) t.there

pub packed-requires : goal.packed-requires
packed-requires c =
    let a = c.args in
    (there (goal.at.packed-requires c).In_ok-h, c.requires.1, λ e. rw (name_at-work a.v a.b.now a.work.now a.start a.len c.if-v-eq4.true) (c.requires.2 e))

pub returns-then-v-eq4 : goal.returns-then-v-eq4
returns-then-v-eq4 c =
    let a = c.args in
    tested-by _ a.again _ _ _ _ _ _ _
    (λ e. step-four _ a.v a.b.now a.work.now _ _ _ _ ((read (goal.at.returns-then-v-eq4 c).In_ok-h).first e) c.if-v-eq4.true ((c.packed.ensures a.w ((read (goal.at.returns-then-v-eq4 c).In_ok-h).sized _ refl)).first e))
    (λ e. pass-four _ a.v a.b.now a.work.now _ _ _ _ ((read (goal.at.returns-then-v-eq4 c).In_ok-h).later e) c.if-v-eq4.true (c.packed.ensures a.w ((read (goal.at.returns-then-v-eq4 c).In_ok-h).sized _ refl)).later)

pub pass_plain-requires : goal.pass_plain-requires
pass_plain-requires c = there (goal.at.pass_plain-requires c).In_ok-h

pub returns-then-again : goal.returns-then-again
returns-then-again c =
    let a = c.args in
    tested-by _ a.again _ _ _ _ _ _ _
    (λ e. false-true (sym e ∙ c.if-again.true))
    (λ e. pass_on _ a.v a.b.now a.work.now _ _ _ _ ((read (goal.at.returns-then-again c).In_ok-h).later e) (c.pass_plain.ensures a.w a.v a.work.now ((read (goal.at.returns-then-again c).In_ok-h).sized _ refl) (ne_eqb _ _ c.if-v-eq4.false)))

pub plain-requires : goal.plain-requires
plain-requires c =
    let a = c.args in
    (there (goal.at.plain-requires c).In_ok-h, λ e. rw (name_at-plain a.v a.b.now a.work.now a.start a.len (ne_eqb _ _ c.if-v-eq4.false)) at (c.requires.2 e))

pub returns-in_err-h : goal.returns-in_err-h
returns-in_err-h c =
    let a = c.args in
    let t = c.in_err-h.ensures in
    let error = err_from_is_err_and c.from_residual.result c.from_residual.ensures.1 in
    rw (error.1, error.2)
    (tested-by _ a.again _ _ _ _ _ _ _
    (λ e. step-refused _ a.v a.b.now a.work.now _ _ (t.first e))
    (λ e. pass-refused _ a.v a.b.now a.work.now _ _ (t.later e)))

pub returns : goal.returns
returns c =
    let a = c.args in
    tested _ _ _ _ _ _ _ _
    (step-on _ a.v a.b.now a.work.now _ _ _ _ ((read (goal.at.returns c).In_ok-h).first c.if-again.false) (c.plain.ensures a.w a.v a.work.now ((read (goal.at.returns c).In_ok-h).sized _ refl) (ne_eqb _ _ c.if-v-eq4.false)))
    _
