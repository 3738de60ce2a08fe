-- The proof that `nerupazhil_remove` meets its contract.
use Rattle.nerupazhil.proofs.Laws.{write-replies}
use Rattle.nerupazhil.proofs.nerupazhil_remove.Goals as goal

pub returns : goal.returns
returns c = write-replies _ _ _ _ _ _ _ _ _ _ _ c.remove.ensures c.write_reply.ensures
