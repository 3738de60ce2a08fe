-- The proof that `is_longer` meets its contract.
use Prim.Native.Nat.{◌-◌}
use lib.ListN.{length}
use Rattle.tree_nodes.proofs.Flat.{FlatPass}
use Rattle.tree_search.proofs.child.is_longer.Given as goal

abbrev pub invariant-loop-pending : goal.invariant-loop-pending
invariant-loop-pending l = FlatPass l.d l.at l.k l.place l.pending

abbrev pub decreases-loop-pending : goal.decreases-loop-pending
decreases-loop-pending l = length l.d - l.place
