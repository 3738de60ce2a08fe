-- The proof that `find_undo` meets its contract. The loop keeps where the record begins.
use mathlib.Core.Path.{◌≡◌}
use mathlib.Core.List.{[]}
use Prim.Native.Nat.{◌+◌, ◌-◌, ◌≤◌}
use lib.ListN.{length, take, drop}
use Rattle.format.specs.Places.{undo_start}
use Rattle.resolve_undo.proofs.find_undo.Given as goal

abbrev pub invariant-loop-i : goal.invariant-loop-i
invariant-loop-i l = (l.at ≤ length l.d) × (l.prior + l.size ≤ length l.d) × (undo_start l.w 0 l.k [] l.d ≡ l.at + undo_start l.w 0 (l.k - l._i) (take l.size (drop l.prior l.d)) (drop l.at l.d))
