use Rattle.tree_nodes.specs.Flat.{names_of, names_differ}
use lib.ListN.{length, drop}
use Prim.Native.Nat.{◌≤◌}
use mathlib.Core.Path.{◌≡◌}
use Rattle.cache_tree.proofs.differ.differ.Given as goal

abbrev pub invariant-loop-left : goal.invariant-loop-left
invariant-loop-left l = (l.x ≤ length l.d) × (length l.t ≡ 3126) × (names_differ (names_of l.w l.k (drop l.a l.d)) ≡ names_differ (names_of l.w l.left (drop l.x l.d)))

abbrev pub decreases-loop-left : goal.decreases-loop-left
decreases-loop-left l = l.left
