-- The proof that `begin` meets its contract.
use Rattle.tree_search.proofs.Tables.{begun}
use Rattle.tree_search.proofs.table.begin.Goals as goal

pub returns : goal.returns
returns c =
    begun _ _ _ _ _ _ _ _ c.list.ensures.0 c.first_slot.ensures.0 c.slots.ensures.0 c.seed_tables.ensures c.set_list.ensures c.clear.ensures.0 c.clear.ensures.2
