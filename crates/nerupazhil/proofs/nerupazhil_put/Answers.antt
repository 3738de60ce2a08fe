-- The proof that `nerupazhil_put` meets its contract.
use Rattle.nerupazhil.proofs.Laws.{write-replies}
use Rattle.nerupazhil.proofs.nerupazhil_put.Goals as goal

pub returns : goal.returns
returns c =
    rw c.given_fields-given.ensures at (write-replies _ _ _ _ _ _ _ _ _ _ _ c.put.ensures c.write_reply.ensures)
