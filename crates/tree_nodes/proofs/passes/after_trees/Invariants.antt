-- The proof that `after_trees` meets its contract. The loop keeps the place after the trees.
use mathlib.Core.Path.{◌≡◌}
use Prim.Native.Nat.{◌+◌, ◌-◌}
use lib.ListN.{length, drop}
use Rattle.tree_nodes.specs.Flat.{trees_length}
use Rattle.tree_nodes.proofs.Flat.{FlatPass}
use Rattle.tree_nodes.proofs.passes.after_trees.Given as goal

abbrev pub invariant-loop-pending : goal.invariant-loop-pending
invariant-loop-pending l = FlatPass l.d l.at l.k l.place l.pending × (l.at + trees_length l.w l.k (drop l.at l.d) ≡ l.place + trees_length l.w l.pending (drop l.place l.d))

abbrev pub decreases-loop-pending : goal.decreases-loop-pending
decreases-loop-pending l = length l.d - l.place
