-- The proof that `find_in_order` meets its contract.
use native.Mathlib.Omega.{arith}
use Rattle.tree_search.proofs.Telling.{scan-start, scan-end}
use Rattle.tree_search.proofs.cursors.find_in_order.Goals as goal

pub returns-then-k-eq0 : goal.returns-then-k-eq0
returns-then-k-eq0 c = let p = c.requires in (scan-end _ _ _ _ _ _ (scan-start _ _ _ _ p.0) (omega (arith, c.if-k-eq0.true)), p.2)

pub find_in_row-requires : goal.find_in_row-requires
find_in_row-requires c = let p = c.requires in (p.1, c.open_row.ensures _ _ p.0 p.2)
