-- The proof that `read_extensions` meets its contract. The loop keeps that some extensions lie behind, which with those left are all.
use mathlib.Core.List.{List}
use Prim.Native.Nat.{ℕ, ◌-◌, ◌≤◌}
use lib.ListN.{length}
use Rattle.format.specs.Records.{Entry}
use Rattle.format.specs.Layout.{names}
use Rattle.fields.specs.Workspace.{Frame}
use Rattle.entries_run.specs.Steps.{EntriesRead}
use Rattle.extensions.proofs.Runs.{Behind}
use Rattle.extensions.proofs.read_extensions.Given as goal

abbrev pub invariant-loop-place : goal.invariant-loop-place
invariant-loop-place l = (l.place ≤ length l.b) × Frame l.initial.work l.work × ((es : List Entry) (m : ℕ) → EntriesRead l.w l.v l.count l.b es m → Behind l.w l.b (names es) l.at l.place l.found)

abbrev pub decreases-loop-place : goal.decreases-loop-place
decreases-loop-place l = length l.b - l.place
