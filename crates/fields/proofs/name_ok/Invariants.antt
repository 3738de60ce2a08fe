-- The proof that `name_ok` meets its contract. The loop keeps whether the rest of the name is sound, given what was read of its component.
use mathlib.Core.Path.{◌≡◌}
use mathlib.Core.List.{[]}
use Prim.Native.Nat.{◌≤◌, ◌-◌}
use lib.ListN.{take, drop}
use Rattle.fields.proofs.Laws.{ok_rest}
use Rattle.fields.proofs.name_ok.Given as goal

abbrev pub invariant-loop-e : goal.invariant-loop-e
invariant-loop-e l = (l.at ≤ l.e) × (ok_rest [] l.s ≡ ok_rest (take (l.e - l.at) (drop l.at l.s)) (drop l.e l.s))
