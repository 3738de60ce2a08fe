-- The proof that `find` meets its contract. The loop keeps the place that the search answers.
use mathlib.Core.Path.{◌≡◌}
use Prim.Native.Nat.{◌+◌}
use lib.ListN.{drop}
use Rattle.format.specs.Bytes.{before}
use Rattle.fields.proofs.find.Given as goal

abbrev pub invariant-loop-i : goal.invariant-loop-i
invariant-loop-i l = (l.end ≡ l.i) × (l.at + before l.b (drop l.at l.s) ≡ l.i + before l.b (drop l.i l.s))
