-- The proof that `survey_trees` meets its contract. The loop keeps the trees that are still to pass as one list of siblings.
use Prim.Native.Nat.{ℕ, ◌-◌, ◌≤◌}
use lib.ListN.{length, drop}
use Rattle.format.specs.Records.{Forest}
use Rattle.tree_nodes.specs.Flat.{Reads}
use Rattle.tree_nodes.proofs.Flat.{FlatPass}
use Rattle.tree_check.proofs.Surveys.{Surveying}
use Rattle.tree_check.proofs.survey.survey_trees.Given as goal

abbrev pub invariant-loop-pending : goal.invariant-loop-pending
invariant-loop-pending l = FlatPass l.d l.at l.k l.place l.pending × (l.strict ≤ l.pending) × (l.nodes ≤ l.place - l.at)
    × ((f : Forest) (m : ℕ) → Reads l.w (drop l.at l.d) f l.k m → Surveying l.w l.d l.valid f l.place l.pending l.strict l.nodes)

abbrev pub decreases-loop-pending : goal.decreases-loop-pending
decreases-loop-pending l = length l.d - l.place
