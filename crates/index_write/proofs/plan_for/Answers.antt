-- The proof that `plan_for` meets its contract.
use Rattle.fields.proofs.Workspace.{frame_same}
use Rattle.index_write.proofs.Plans.{plan-keep}
use Rattle.index_write.proofs.plan_for.Goals as goal

pub returns-in-Rewrite : goal.returns-in-Rewrite
returns-in-Rewrite c =
    let fits = rw c.in-Rewrite.is at c.requires.1 in
    rw c.in-Rewrite.is (record { frame = frame_same _; is = plan-keep _ _ _ _ c.requires.0 _ _ fits.0 fits.1 })

pub returns-in-Put : goal.returns-in-Put
returns-in-Put c = rw c.in-Put.is c.plan_put.ensures

pub returns-in-Remove : goal.returns-in-Remove
returns-in-Remove c =
    let fits = rw c.in-Remove.is at c.requires.1 in
    rw c.in-Remove.is (c.plan_remove.ensures _ fits)
