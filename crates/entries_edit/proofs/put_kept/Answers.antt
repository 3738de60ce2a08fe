-- The proof that `put_kept` meets its contract.
use native.Mathlib.Omega.{arith}
use Rattle.entries_run.proofs.Steps.{inside-first, readable-first}
use Rattle.entries_edit.proofs.Edits.{kept-written}
use Rattle.entries_edit.proofs.put_kept.Goals as goal

pub put_entries-all-requires : goal.put_entries-all-requires
put_entries-all-requires c =
    let a = c.args in
    rw c.first-start.ensures (inside-first a.b.now a.work.now c.requires.0, omega arith, omega arith, readable-first _ _ a.count _ a.b.now _ (omega arith) c.requires.2, omega arith)

pub returns : goal.returns
returns c =
    kept-written (rw c.first-start.ensures at c.put_entries-all.ensures)
