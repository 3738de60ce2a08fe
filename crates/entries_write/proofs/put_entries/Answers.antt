use mathlib.Core.Path.{◌≡◌}
use mathlib.Core.List.{List}
use Prim.Native.Nat.{ℕ, ◌+◌, ◌-◌, ◌≤◌, ◌<◌}
use native.Mathlib.Omega.{arith}
use lib.ListN.{length}
use Rattle.fields.proofs.Workspace.{frame_then}
use Rattle.std.specs.Prelude.{Result}
use Rattle.format.specs.declared.Refusal.{Refusal}
use Rattle.entries_run.specs.declared.Step.{Step}
use Rattle.entries_run.specs.Steps.{EntryStepped, EntryPassed}
use Rattle.entries_run.proofs.Steps.{readable-again, readable-never}
use Rattle.entries_write.proofs.Runs.{writing_start, writing-left, writing_more, writing-end}
use Rattle.entries_write.proofs.Stepping.{step-read, step_kept}
use Rattle.entries_write.proofs.put_entries.Goals as goal
use Rattle.entries_write.proofs.put_entries.Goals.{After-pass_entry}

pub loop-init : goal.loop-init
loop-init c =
    let all : c.args.n - 0 ≡ c.args.n = omega arith in
    rw all (writing_start _ _ _ _ _ _ _ _ _ c.requires.0)

pub pass_entry-requires : goal.pass_entry-requires
pass_entry-requires c = (c.loop.invariant.inside, omega arith, omega arith)

-- the entries were read before
again : (e : After-pass_entry) → let a = e.args in
    (work' : List ℕ) (r : Result Step Refusal) → EntryPassed a.w a.v a.b.now e.loop.work e.loop.cursor work' r → EntryStepped a.w a.v a.b.now e.loop.work e.loop.cursor work' r
again e work' r =
    readable-again (writing-left e.loop.invariant e.requires.3) (omega (arith, e.loop-test.true)) r

pub shape_of-work-in_default : goal.shape_of-work-in_default
shape_of-work-in_default c =
    let t = c.pass_entry.ensures in
    (frame_then c.loop.invariant.frame t.frame).long

pub shape_of-out-in_default : goal.shape_of-out-in_default
shape_of-out-in_default c = c.loop.invariant.wrote.long

pub returns-in_default : goal.returns-in_default
returns-in_default c =
    readable-never (writing-left c.loop.invariant c.requires.3) (omega (arith, c.loop-test.true)) _ c.in_default.ensures

pub put_read-end-requires : goal.put_read-end-requires
put_read-end-requires c =
    let t = again (goal.at.put_read-end-requires c).After-pass_entry _ _ c.in-Ok.ensures in
    let long = t.frame in
    let same = c.loop.invariant.frame in
    let near = c.loop.invariant.near in
    let sum = c.loop.invariant.count in
    let room : 8192 ≤ length c.loop.work = omega arith in (
      omega arith,
      step-read t,
      omega arith,
      step_kept t room c.loop.invariant.inside,
      omega arith,
    )

pub loop-preserved : goal.loop-preserved
loop-preserved c =
    let more : 0 < c.args.n - c.loop.counter = omega (arith, c.loop-test.true) in
    let fewer : c.args.n - c.loop.counter - 1 ≡ c.args.n - (c.loop.counter + 1) = omega arith in
    let t = again (goal.at.loop-preserved c).After-pass_entry _ _ c.in-Ok.ensures in
    let same = c.loop.invariant.frame in
    let room : 8192 ≤ length c.loop.work = omega arith in
    rw fewer at (writing_more c.loop.invariant more t room c.put_read-end.ensures c.either-extended.ensures)

pub shape_of-work : goal.shape_of-work
shape_of-work c = c.loop.invariant.frame.long

pub shape_of-out : goal.shape_of-out
shape_of-out c = c.loop.invariant.wrote.long

pub returns : goal.returns
returns c =
    writing-end c.loop.invariant (omega (arith, c.loop-test.false))
