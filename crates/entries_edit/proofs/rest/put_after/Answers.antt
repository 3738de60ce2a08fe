-- The proof that `put_after` meets its contract.
use Prim.Native.Nat.{◌<◌}
use native.Mathlib.Omega.{arith}
use Rattle.entries_edit.proofs.Rests.{after_none, after_kept, after-written}
use Rattle.entries_run.proofs.Steps.{readable-again, readable-never, readable-next}
use Rattle.entries_write.proofs.Stepping.{step-found, step_room}
use Rattle.entries_edit.proofs.rest.put_after.Goals as goal
use Rattle.entries_edit.proofs.rest.put_after.Goals.{After-pass_entry}

pub returns-then-n-eq0 : goal.returns-then-n-eq0
returns-then-n-eq0 c =
    let a = c.args in
    after_none _ _ _ _ _ a.n a.version a.out.now a.at c.if-n-eq0.true _

-- there is an entry, and it was read before
some : (e : After-pass_entry) → 0 < e.args.n
some e = omega (arith, e.if-n-eq0.false)

pub common_at-kept-requires : goal.common_at-kept-requires
common_at-kept-requires c =
    let t = readable-again c.requires.4 (some (goal.at.common_at-kept-requires c).After-pass_entry) _ c.in-Ok.ensures in
    ((step-found t).next, step_room t c.requires.2)

pub put_stepped-requires : goal.put_stepped-requires
put_stepped-requires c =
    let a = c.args in
    let t = readable-again c.requires.4 (some (goal.at.put_stepped-requires c).After-pass_entry) _ c.in-Ok.ensures in
    let kept = after_kept t c.requires.2 a.name.now c.requires.3 c.common_at-kept.ensures in
    (omega arith, omega (arith, (step-found t).least, (step-found t).ahead, (step-found t).next.inside), (step-found t).next, step_room t c.requires.2, kept, readable-next c.requires.4 (some (goal.at.put_stepped-requires c).After-pass_entry) t, omega arith)

pub returns-in_default : goal.returns-in_default
returns-in_default c =
    readable-never c.requires.4 (some (goal.at.returns-in_default c).After-pass_entry) _ c.in_default.ensures

pub returns : goal.returns
returns c =
    let a = c.args in
    let t = readable-again c.requires.4 (some (goal.at.returns c).After-pass_entry) _ c.in-Ok.ensures in
    after-written a.n a.version a.out.now a.at (some (goal.at.returns c).After-pass_entry) t a.name.now c.common_at-kept.ensures c.put_stepped.ensures
