-- The proof that `find_by_cursor` meets its contract.
use Rattle.tree_search.proofs.Telling.{told-unknown}
use Rattle.tree_search.proofs.Rows.{cursor-at, cursor-set}
use Rattle.tree_search.proofs.cursors.find_by_cursor.Goals as goal

pub returns-then-count-eq0 : goal.returns-then-count-eq0
returns-then-count-eq0 c = λ at k row. (told-unknown _ at k _ row.inside, row)

pub find_ahead-ahead-requires : goal.find_ahead-ahead-requires
find_ahead-ahead-requires c =
    let cursor = cursor-at _ _ _ _ _ c.requires.2 _ c.requires.0 _ c.cell_of-i.ensures c.if-count-eq0.false _ c.place_of-from.ensures in
    (cursor.most, c.requires.1)

pub returns-then-ahead : goal.returns-then-ahead
returns-then-ahead c =
    λ at k row.
    let few = c.requires.0 in
    let moved = c.find_ahead-ahead.ensures.1 at k (cursor-at _ at k _ _ row _ few _ c.cell_of-i.ensures c.if-count-eq0.false _ c.place_of-from.ensures) in
    (moved.told c.if-ahead.true, rw c.set_list.ensures (cursor-set _ at k _ _ row _ few _ c.cell_of-i.ensures _ _ moved.cursor))

pub returns : goal.returns
returns c =
    λ at k row.
    let few = c.requires.0 in
    let moved = c.find_ahead-ahead.ensures.1 at k (cursor-at _ at k _ _ row _ few _ c.cell_of-i.ensures c.if-count-eq0.false _ c.place_of-from.ensures) in
    (told-unknown _ at k _ row.inside, rw c.set_list.ensures (cursor-set _ at k _ _ row _ few _ c.cell_of-i.ensures _ _ moved.cursor))
