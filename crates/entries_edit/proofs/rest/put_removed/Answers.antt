-- The proof that `put_removed` meets its contract.
use native.Mathlib.Omega.{arith}
use Rattle.entries_edit.proofs.Rests.{removed-written}
use Rattle.entries_run.proofs.Steps.{readable-again, readable-never, readable-next}
use Rattle.entries_write.proofs.Stepping.{step-found, step_room, step-common}
use Rattle.entries_edit.proofs.rest.put_removed.Goals as goal

pub put_past-requires : goal.put_past-requires
put_past-requires c =
    let t = readable-again c.requires.4 c.requires.3 _ c.in-Ok.ensures in
    let fits = (step-common t c.requires.2 c.requires.1).0 in
    (omega arith, (step-found t).next, step_room t c.requires.2, c.requires.1.short, fits, readable-next c.requires.4 c.requires.3 t, omega arith)

pub returns-in_default : goal.returns-in_default
returns-in_default c =
    readable-never c.requires.4 c.requires.3 _ c.in_default.ensures

pub returns : goal.returns
returns c =
    let a = c.args in
    let t = readable-again c.requires.4 c.requires.3 _ c.in-Ok.ensures in
    removed-written a.n a.version a.out.now a.at (omega arith) t c.requires.2 c.requires.1 c.put_past.ensures
