-- The proof that `find_by_table` meets its contract.
use Rattle.tree_check.proofs.look.find_by_table.Goals as goal

pub put_places-requires : goal.put_places-requires
put_places-requires c =
    let put = c.gather.ensures in
    (c.requires.0, c.requires.1, put.vacant, put.known _ _ c.begin.ensures.0)
