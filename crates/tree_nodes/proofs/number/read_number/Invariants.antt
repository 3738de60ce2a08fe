-- The proof that `read_number` meets its contract. The loop keeps the number that the whole text says.
use mathlib.Core.Path.{◌≡◌}
use Prim.Native.Nat.{◌≤◌}
use lib.ListN.{drop}
use Rattle.tree_nodes.specs.Answers.{number_in, number_from}
use Rattle.tree_nodes.proofs.number.read_number.Given as goal

abbrev pub invariant-loop-digit : goal.invariant-loop-digit
invariant-loop-digit l = (l.v ≤ l.limit) × (number_in l.limit l.t ≡ number_from l.limit l.v (drop l.digit-index l.t))
