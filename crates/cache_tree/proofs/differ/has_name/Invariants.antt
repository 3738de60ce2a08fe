-- The proof that `has_name` meets its contract. The loop keeps the answer for all the names.
use mathlib.Core.Path.{◌≡◌}
use Prim.Native.Nat.{◌-◌, ◌≤◌}
use lib.ListN.{length, drop}
use Rattle.tree_nodes.specs.Flat.{name_of, names_of, has_name}
use Rattle.cache_tree.proofs.differ.has_name.Given as goal

abbrev pub invariant-loop : goal.invariant-loop
invariant-loop l = (l.y ≤ length l.d) × (has_name (name_of (drop l.a l.d)) (names_of l.w l.k (drop l.b l.d)) ≡ has_name (name_of (drop l.a l.d)) (names_of l.w (l.k - l.counter) (drop l.y l.d)))
