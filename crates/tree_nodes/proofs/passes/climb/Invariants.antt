-- The proof that `climb` meets its contract. The loop keeps where the climb ends.
use mathlib.Core.Path.{◌≡◌}
use Prim.Native.Nat.{suc, ◌<◌}
use Rattle.tree_nodes.specs.Levels.{stack_of, climbed}
use Rattle.tree_nodes.proofs.passes.climb.Given as goal

abbrev pub invariant-loop-at : goal.invariant-loop-at
invariant-loop-at l = (l.at < 128) × (climbed (stack_of l.remaining (suc l.depth)) ≡ climbed (stack_of l.remaining (suc l.at)))
