-- The proof that `set_cursor` meets its contract.
use Rattle.tree_search.proofs.Rows.{cursor-set}
use Rattle.tree_search.proofs.cursors.set_cursor.Goals as goal

pub returns-then-t-i-eq0 : goal.returns-then-t-i-eq0
returns-then-t-i-eq0 c = λ w at k cursor row.
    rw c.set_list.ensures (cursor-set _ at k _ _ row _ c.cursor_for.ensures _ c.cell_of-i.ensures _ _ cursor)
