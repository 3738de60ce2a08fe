-- The proof that `put_past` meets its contract.
use Prim.Native.Nat.{◌<◌}
use native.Mathlib.Omega.{arith}
use Rattle.entries_edit.proofs.Rests.{past-none, past-kept, past-written}
use Rattle.entries_run.proofs.Steps.{readable-again, readable-never, readable-next}
use Rattle.entries_write.proofs.Stepping.{step-found, step_room}
use Rattle.entries_edit.proofs.rest.put_past.Goals as goal
use Rattle.entries_edit.proofs.rest.put_past.Goals.{After-pass_entry}

pub returns-then-n-eq0 : goal.returns-then-n-eq0
returns-then-n-eq0 c =
    let a = c.args in
    past-none _ _ _ _ _ a.n a.version a.out.now a.at c.if-n-eq0.true _ _

-- there is an entry, and it was read before
some : (e : After-pass_entry) → 0 < e.args.n
some e = omega (arith, e.if-n-eq0.false)

pub put_stepped-requires : goal.put_stepped-requires
put_stepped-requires c =
    let a = c.args in
    let t = readable-again c.requires.5 (some (goal.at.put_stepped-requires c).After-pass_entry) _ c.in-Ok.ensures in
    let kept = past-kept t c.requires.2 a.previous a.kept c.requires.1 c.requires.3 c.requires.4 c.min.ensures in
    (omega arith, omega (arith, (step-found t).least, (step-found t).ahead, (step-found t).next.inside), (step-found t).next, step_room t c.requires.2, kept, readable-next c.requires.5 (some (goal.at.put_stepped-requires c).After-pass_entry) t, omega arith)

pub returns-in_default : goal.returns-in_default
returns-in_default c =
    readable-never c.requires.5 (some (goal.at.returns-in_default c).After-pass_entry) _ c.in_default.ensures

pub returns : goal.returns
returns c =
    let a = c.args in
    let t = readable-again c.requires.5 (some (goal.at.returns c).After-pass_entry) _ c.in-Ok.ensures in
    past-written a.n a.version a.out.now a.at (some (goal.at.returns c).After-pass_entry) t a.previous a.kept c.min.ensures c.put_stepped.ensures
