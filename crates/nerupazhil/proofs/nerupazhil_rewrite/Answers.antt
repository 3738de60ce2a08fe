-- The proof that `nerupazhil_rewrite` meets its contract.
use Rattle.nerupazhil.proofs.Laws.{write-replies}
use Rattle.nerupazhil.proofs.nerupazhil_rewrite.Goals as goal

pub returns : goal.returns
returns c = write-replies _ _ _ _ _ _ _ _ _ _ _ c.rewrite.ensures c.write_reply.ensures
