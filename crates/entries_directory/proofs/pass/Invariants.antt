-- The proof that `pass` meets its contract. The loop keeps that the names in the directory are passed in part.
use mathlib.Core.Path.{◌≡◌}
use mathlib.Core.List.{List}
use mathlib.Core.Bool.{true}
use Prim.Native.Nat.{ℕ}
use lib.ListN.{length}
use Rattle.directories.specs.Names.{begins}
use Rattle.entries_directory.specs.Ahead.{After}
use Rattle.entries_directory.proofs.Ahead.{Going, Passing}
use Rattle.entries_directory.proofs.pass.Given as goal

abbrev pub invariant-loop-work : goal.invariant-loop-work
invariant-loop-work l = Going l.b l.initial.work l.initial.front l.work l.front
    × ((last : List ℕ) (xs : List (List ℕ)) (p : List ℕ) → After l.w l.v l.b l.initial.work l.initial.front last xs → begins p last ≡ true → length p ≡ l.q → Passing l.w l.v l.b l.work l.front p xs)

abbrev pub decreases-loop-work : goal.decreases-loop-work
decreases-loop-work l = l.front.ahead
