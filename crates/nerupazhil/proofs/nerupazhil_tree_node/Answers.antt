-- The proof that `nerupazhil_tree_node` meets its contract.
use mathlib.Core.Path.{refl}
use Rattle.kinds.proofs.Laws.{width-most}
use Rattle.nerupazhil.proofs.Laws.{node-replies}
use Rattle.nerupazhil.proofs.nerupazhil_tree_node.Goals as goal

pub returns-in-Ok : goal.returns-in-Ok
returns-in-Ok c =
    let q = c.tree_node-answer.ensures in
    (node-replies _ _ (width-most _) _ _ _ _ _ q.0 c.node_reply.ensures (rw c.in-Ok.is refl), q.1)

pub returns-in-Err : goal.returns-in-Err
returns-in-Err c =
    let q = c.tree_node-answer.ensures in
    (node-replies _ _ (width-most _) _ _ _ _ _ q.0 c.node_reply.ensures (rw c.in-Err.is refl), q.1)
