-- The proof that `put_replaced` meets its contract.
use native.Mathlib.Omega.{arith}
use Rattle.entries_edit.proofs.Rests.{replaced-written}
use Rattle.entries_run.proofs.Steps.{readable-again, readable-never, readable-next}
use Rattle.entries_write.proofs.Stepping.{step-found, step_room}
use Rattle.entries_edit.proofs.rest.put_replaced.Goals as goal

pub put_entries-rest-requires : goal.put_entries-rest-requires
put_entries-rest-requires c =
    let t = readable-again c.requires.4 c.requires.3 _ c.in-Ok.ensures in
    ((step-found t).next, step_room t c.requires.2, omega arith, readable-next c.requires.4 c.requires.3 t, omega arith)

pub returns-in_default : goal.returns-in_default
returns-in_default c =
    readable-never c.requires.4 c.requires.3 _ c.in_default.ensures

pub returns : goal.returns
returns c =
    let a = c.args in
    let t = readable-again c.requires.4 c.requires.3 _ c.in-Ok.ensures in
    replaced-written a.n a.version a.out.now a.at (omega arith) t c.put_entries-rest.ensures
