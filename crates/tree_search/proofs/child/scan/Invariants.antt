-- The proof that `scan` meets its contract. The loop keeps that the name is none of those passed, and that the last siblings are from the place on.
use Prim.Native.Nat.{◌-◌}
use Rattle.tree_search.proofs.Telling.{Scanning}
use Rattle.tree_search.proofs.child.scan.Given as goal

abbrev pub invariant-loop : goal.invariant-loop
invariant-loop l = Scanning l.w l.d l.at l.k l.name l.place (l.k - l.counter)
