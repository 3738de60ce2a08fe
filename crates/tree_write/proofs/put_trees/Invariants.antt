-- The proof that `put_trees` meets its contract. The loop keeps the trees that are still to write as one list of siblings.
use mathlib.Core.Path.{◌≡◌}
use Prim.Native.Nat.{ℕ, ◌+◌, ◌-◌, ◌≤◌}
use lib.ListN.{length, drop}
use Rattle.format.specs.Records.{Forest}
use Rattle.format.specs.Writer.{write_forest}
use Rattle.tree_nodes.specs.Flat.{trees_length, Reads}
use Rattle.tree_nodes.proofs.Flat.{FlatPass}
use Rattle.tree_write.proofs.Trees.{TreesToWrite}
use Rattle.tree_write.proofs.put_trees.Given as goal

abbrev pub invariant-loop-pending : goal.invariant-loop-pending
invariant-loop-pending l = FlatPass l.d l.start l.n l.place l.pending × (l.end + l.start ≤ l.at + l.place) × (length l.out ≡ length l.initial.out)
    × (l.start + trees_length l.w l.n (drop l.start l.d) ≡ l.place + trees_length l.w l.pending (drop l.place l.d))
    × ((f : Forest) (m : ℕ) → Reads l.w (drop l.start l.d) f l.n m → TreesToWrite l.w l.d l.initial.out l.at (write_forest f) l.place l.pending l.out l.end)

abbrev pub decreases-loop-pending : goal.decreases-loop-pending
decreases-loop-pending l = length l.d - l.place
