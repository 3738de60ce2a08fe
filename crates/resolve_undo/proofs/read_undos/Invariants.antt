-- The proof that `read_undos` meets its contract. The loop keeps the answer that what is left of the data gives.
use mathlib.Core.Path.{◌≡◌}
use mathlib.Core.List.{[]}
use Prim.Native.Nat.{ℕ, ◌+◌, ◌≤◌, ◌-◌}
use lib.ListN.{length, take, drop}
use Rattle.format.specs.Reader.{read_undos}
use Rattle.resolve_undo.specs.Answers.{records_read}
use Rattle.resolve_undo.proofs.Records.{answer_from}
use Rattle.resolve_undo.proofs.read_undos.Given as goal

abbrev pub invariant-loop-at : goal.invariant-loop-at
invariant-loop-at l = (l.at ≤ length l.d) × (l.prior + l.size ≤ length l.d) × (l.records ≤ l.at)
    × ((p : ℕ) → records_read (read_undos l.w p (length l.d) [] l.d) ≡ answer_from l.w p l.records l.at (take l.size (drop l.prior l.d)) l.d)

abbrev pub decreases-loop-at : goal.decreases-loop-at
decreases-loop-at l = length l.d - l.at
