-- The proof that `find_node` meets its contract. The loop keeps where the node begins, and that the array says what is still to come of any
-- tree that the data may be.
use mathlib.Core.Path.{◌≡◌}
use Prim.Native.Nat.{suc, ◌+◌, ◌-◌, ◌≤◌, ◌<◌}
use lib.ListN.{length, drop}
use Rattle.format.specs.Places.{node_start}
use Rattle.tree_nodes.specs.Levels.{stack_of}
use Rattle.tree_nodes.proofs.Levels.{Passing}
use Rattle.tree_nodes.proofs.passes.find_node.Given as goal

abbrev pub invariant-loop : goal.invariant-loop
invariant-loop l =
    (l.place ≤ length l.d)
    × (node_start l.w l.k l.d ≡ l.place + node_start l.w (l.k - l.counter) (drop l.place l.d))
    × (length l.remaining ≡ 128)
    × (l.depth < 128)
    × Passing l.w l.d l.k l.place (l.k - l.counter) (stack_of l.remaining (suc l.depth))
