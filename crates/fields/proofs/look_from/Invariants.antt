-- The proof that `look_from` meets its contract. The loop keeps that none of the bytes that it has passed is a slash.
use mathlib.Core.Bool.{true}
use mathlib.Core.Path.{◌≡◌}
use Prim.Native.Nat.{◌-◌, ◌≤◌}
use lib.ListN.{take, drop}
use Rattle.format.specs.Bytes.{lacks}
use Rattle.fields.proofs.look_from.Given as goal

abbrev pub invariant-loop-i : goal.invariant-loop-i
invariant-loop-i l = (l.first ≤ l.i) × (lacks 47 (take (l.kept - l.i) (drop l.i l.s)) ≡ true)
