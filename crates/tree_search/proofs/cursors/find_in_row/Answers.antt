-- The proof that `find_in_row` meets its contract.
use native.Mathlib.Omega.{arith}
use Rattle.tree_search.proofs.Rows.{row-own}
use Rattle.tree_search.proofs.cursors.find_in_row.Goals as goal

pub find_by_cursor-told-requires : goal.find_by_cursor-told-requires
find_by_cursor-told-requires c = let p = c.requires in (c.cursor_for-c.ensures, p.0, row-own _ _ _ _ _ p.1)

pub returns-then-is_some : goal.returns-then-is_some
returns-then-is_some c = let r = c.find_by_cursor-told.ensures _ _ c.requires.1 in (r.0, r.1.known)

pub find_by_cursor-requires : goal.find_by_cursor-requires
find_by_cursor-requires c = let p = c.requires in (omega arith, p.0, row-own _ _ _ _ _ (c.find_by_cursor-told.ensures _ _ p.1).1)

pub returns-then-t-list_of-eq1 : goal.returns-then-t-list_of-eq1
returns-then-t-list_of-eq1 c = let r = c.find_by_cursor.ensures _ _ (c.find_by_cursor-told.ensures _ _ c.requires.1).1 in (r.0, r.1.known)

pub find_by_cursor-next-requires : goal.find_by_cursor-next-requires
find_by_cursor-next-requires c = let p = c.requires in (omega arith, p.0, row-own _ _ _ _ _ p.1)

pub returns-then-is_some-2 : goal.returns-then-is_some-2
returns-then-is_some-2 c = let r = c.find_by_cursor-next.ensures _ _ c.requires.1 in (r.0, r.1.known)

pub set_cursors-requires : goal.set_cursors-requires
set_cursors-requires c = let p = c.requires in (p.0, (c.find_by_cursor-next.ensures _ _ p.1).1)

pub find_by_cursor-requires-2 : goal.find_by_cursor-requires-2
find_by_cursor-requires-2 c = (c.cursor_for-c.ensures, c.requires.0, row-own _ _ _ _ _ c.set_cursors.ensures)

pub returns : goal.returns
returns c = let r = c.find_by_cursor-2.ensures _ _ c.set_cursors.ensures in (r.0, r.1.known)
