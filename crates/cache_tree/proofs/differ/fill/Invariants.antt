-- The proof that `fill` meets its contract.
use Rattle.cache_tree.specs.Chunks.{all_held, rest_after}
use Rattle.tree_nodes.specs.Flat.{names_of, names_differ}
use lib.ListN.{length, drop}
use Prim.Native.Nat.{◌≤◌}
use mathlib.Core.Bool.{true}
use mathlib.Core.Path.{◌≡◌}
use Rattle.cache_tree.proofs.differ.fill.Given as goal

abbrev pub invariant-loop-n : goal.invariant-loop-n
invariant-loop-n l = (l.y ≤ length l.d)
    × (drop l.y l.d ≡ rest_after l.w l.n (drop l.a l.d))
    × (names_differ (names_of l.w l.n (drop l.a l.d)) ≡ true)
    × (all_held l.t (names_of l.w l.n (drop l.a l.d)) ≡ true)
    × (length l.t ≡ 3126)
