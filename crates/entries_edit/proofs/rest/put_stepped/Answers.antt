-- The proof that `put_stepped` meets its contract.
use native.Mathlib.Omega.{arith}
use Rattle.entries_edit.proofs.Rests.{step-written}
use Rattle.entries_edit.proofs.rest.put_stepped.Goals as goal

pub returns : goal.returns
returns c =
    let a = c.args in
    step-written _ a.v a.b.now a.work.now a.from a.st c.put_step-middle.ensures c.put_entries-rest.ensures c.either.ensures (omega arith)
