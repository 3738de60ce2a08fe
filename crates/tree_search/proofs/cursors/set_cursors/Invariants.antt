-- The proof that `set_cursors` meets its contract. The loop keeps that a cursor over the siblings has gone on to the place, and the row.
use Prim.Native.Nat.{◌-◌}
use Rattle.tree_search.specs.Siblings.{Cursor}
use Rattle.tree_search.specs.Rows.{RowOf}
use Rattle.tree_search.proofs.cursors.set_cursors.Given as goal

abbrev pub invariant-loop-passed : goal.invariant-loop-passed
invariant-loop-passed l = Cursor l.w l.d l.at l.k l.place (l.k - l.passed) × RowOf l.w l.d l.at l.k l.level l.t
