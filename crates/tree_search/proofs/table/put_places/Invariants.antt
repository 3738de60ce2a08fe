-- The proof that `put_places` meets its contract. The loop keeps that all siblings but the last are put down.
use Prim.Native.Nat.{◌-◌}
use Rattle.tree_search.proofs.Tables.{Filling}
use Rattle.tree_search.proofs.table.put_places.Given as goal

abbrev pub invariant-loop : goal.invariant-loop
invariant-loop l = Filling l.w l.region l.d l.at l.k l.t l.place (l.k - l.counter)
