-- The proof that `find_ahead` meets its contract. The loop keeps that a cursor from which it began has gone on to the place.
use Prim.Native.Nat.{ℕ, ◌-◌, ◌≤◌}
use lib.ListN.{length}
use Rattle.tree_search.specs.Siblings.{Cursor}
use Rattle.tree_search.proofs.cursors.find_ahead.Given as goal

abbrev pub invariant-loop-passed : goal.invariant-loop-passed
invariant-loop-passed l = (l.place ≤ length l.d) × ((at k : ℕ) → Cursor l.w l.d at k l.from l.count → Cursor l.w l.d at k l.place (l.count - l.passed))
