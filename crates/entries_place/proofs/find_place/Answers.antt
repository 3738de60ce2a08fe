use mathlib.Core.Path.{◌≡◌, refl}
use mathlib.Core.List.{List}
use Prim.Native.Nat.{ℕ}
use native.Mathlib.Omega.{arith}
use Rattle.std.specs.Prelude.{Result}
use Rattle.std.proofs.lemmas.Bool.{not-false, not-true}
use Rattle.format.specs.declared.Refusal.{Refusal}
use Rattle.entries_run.specs.declared.Step.{Step}
use Rattle.entries_run.specs.Steps.{EntryStepped, EntryPassed}
use Rattle.entries_run.proofs.Steps.{readable-again, readable-never}
use Rattle.entries_place.proofs.Finding.{search-first, search-left, search-more, search-end, search-stop}
use Rattle.entries_place.proofs.find_place.Goals as goal
use Rattle.entries_place.proofs.find_place.Goals.{After-pass_entry}

pub loop-before-init : goal.loop-before-init
loop-before-init c =
    let a = c.args in
    rw c.first-c.ensures (search-first _ a.v a.b.now a.work.now _ c.requires.0)

pub pass_entry-requires : goal.pass_entry-requires
pass_entry-requires c = (c.loop-before.invariant.walking.inside, omega arith, omega arith)

-- the entries were read before
again : (e : After-pass_entry) → let a = e.args in
    (work' : List ℕ) (r : Result Step Refusal) → EntryPassed a.w a.v a.b.now e.loop-before.work e.loop-before.c work' r → EntryStepped a.w a.v a.b.now e.loop-before.work e.loop-before.c work' r
again e work' r =
    readable-again (search-left e.loop-before.invariant (omega (arith, e.loop-before-test.true)) e.requires.1) (omega (arith, e.loop-before-test.true)) r

pub returns-in_default : goal.returns-in_default
returns-in_default c =
    let left = search-left c.loop-before.invariant (omega arith) c.requires.1 in
    readable-never left (omega (arith, c.loop-before-test.true)) _ c.in_default.ensures

pub order_at-d-requires : goal.order_at-d-requires
order_at-d-requires c =
    let t = again (goal.at.order_at-d-requires c).After-pass_entry _ _ c.in-Ok.ensures in
    ((t.found _ refl).next, omega (arith, t.frame, c.loop-before.invariant.walking.frame, c.requires.0.room))

pub loop-before-preserved : goal.loop-before-preserved
loop-before-preserved c =
    let t = again (goal.at.loop-before-preserved c).After-pass_entry _ _ c.in-Ok.ensures in
    search-more c.loop-before.invariant c.loop-before-test.true t c.order_at-d.ensures (not-false _ c.if-not-d.false)

pub returns-then-not-d : goal.returns-then-not-d
returns-then-not-d c =
    let t = again (goal.at.returns-then-not-d c).After-pass_entry _ _ c.in-Ok.ensures in
    search-stop c.loop-before.invariant c.loop-before-test.true t c.order_at-d.ensures (not-true _ c.if-not-d.true)

pub shape_of-work : goal.shape_of-work
shape_of-work c = c.loop-before.invariant.walking.frame.long

pub returns : goal.returns
returns c =
    let all : c.loop-before.before ≡ c.args.count = omega arith in
    rw all at (search-end c.loop-before.invariant all)
