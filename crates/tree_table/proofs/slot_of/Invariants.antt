use Rattle.tree_table.specs.Keys.{probe}
use Prim.Native.Nat.{◌-◌, ◌%◌, ◌<◌}
use mathlib.Core.Path.{◌≡◌}
use Rattle.tree_table.proofs.slot_of.Given as goal

abbrev pub invariant-loop : goal.invariant-loop
invariant-loop l = (l.i < l.slots) × (probe l.from l.slots l.t l.key (l.slots - 1) (l.key % l.slots) ≡ probe l.from l.slots l.t l.key (l.slots - l.counter) l.i)
