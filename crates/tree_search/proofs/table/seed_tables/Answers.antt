-- The proof that `seed_tables` meets its contract.
use Rattle.tree_search.proofs.Tables.{seed-known}
use Rattle.tree_search.proofs.table.seed_tables.Goals as goal

pub returns : goal.returns
returns c =
    rw (c.set_list-2.ensures, c.set_list.ensures)
    (seed-known _ _ _ c.make_seed.ensures c.requires)
