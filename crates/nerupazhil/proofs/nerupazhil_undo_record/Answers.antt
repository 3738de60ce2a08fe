-- The proof that `nerupazhil_undo_record` meets its contract.
use mathlib.Core.Path.{refl}
use Rattle.kinds.proofs.Laws.{width-most}
use Rattle.nerupazhil.proofs.Laws.{undo-replies}
use Rattle.nerupazhil.proofs.nerupazhil_undo_record.Goals as goal

pub returns-in-Ok : goal.returns-in-Ok
returns-in-Ok c =
    let q = c.undo_record-answer.ensures in
    (undo-replies _ _ (width-most _) _ _ _ _ _ _ _ q.0 c.undo_reply.ensures (rw c.in-Ok.is (refl, refl, refl)), q.1)

pub returns-in-Err : goal.returns-in-Err
returns-in-Err c =
    let q = c.undo_record-answer.ensures in
    (undo-replies _ _ (width-most _) _ _ _ _ _ _ _ q.0 c.undo_reply.ensures (rw c.in-Err.is (refl, refl, refl)), q.1)
