-- The proof that `put_path` meets its contract. The loop keeps what is still to write.
use mathlib.Core.Path.{◌≡◌}
use Prim.Native.Nat.{ℕ, ◌+◌, ◌*◌, ◌-◌, ◌≤◌}
use lib.ListN.{length, drop}
use Rattle.format.specs.Records.{Forest}
use Rattle.format.specs.Writer.{write_forest}
use Rattle.format.specs.Requests.{invalid_path}
use Rattle.tree_counts.specs.Counts.{SoundForest}
use Rattle.tree_nodes.specs.Flat.{Reads}
use Rattle.tree_write.specs.Steps.{StepBounds}
use Rattle.tree_write.proofs.Steps.{Going}
use Rattle.tree_write.proofs.put_path.Given as goal

abbrev pub invariant-loop-way : goal.invariant-loop-way
invariant-loop-way l = StepBounds l.w l.d l.name l.way × (l.way.at + l.start ≤ l.at + l.way.place) × (length l.out ≡ length l.initial.out)
    × ((f : Forest) (m : ℕ) → SoundForest f → Reads l.w (drop l.start l.d) f l.k m → Going l.w l.d l.name l.initial.out l.at (write_forest (invalid_path l.w l.name f)) l.out l.way)

abbrev pub decreases-loop-way : goal.decreases-loop-way
decreases-loop-way l = (length l.d - l.way.place) * 4294967296 + l.way.left
