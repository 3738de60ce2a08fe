-- The proof that `against` meets its contract.
use Rattle.cache_tree.specs.Chunks.{apart}
use Rattle.tree_nodes.specs.Flat.{names_of}
use lib.ListN.{length, drop}
use Prim.Native.Nat.{◌-◌, ◌≤◌}
use mathlib.Core.Path.{◌≡◌}
use Rattle.cache_tree.proofs.differ.against.Given as goal

abbrev pub invariant-loop : goal.invariant-loop
invariant-loop l = (l.y ≤ length l.d) × (apart (names_of l.w l.n (drop l.a l.d)) (names_of l.w l.k (drop l.b l.d)) ≡ apart (names_of l.w l.n (drop l.a l.d)) (names_of l.w (l.k - l.counter) (drop l.y l.d)))
