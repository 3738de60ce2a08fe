-- The proof that `pass_files` meets its contract. The loop keeps that the names passed are files.
use mathlib.Core.Path.{◌≡◌}
use mathlib.Core.List.{List, ◌∷◌}
use Prim.Native.Nat.{ℕ}
use lib.ListN.{length}
use Rattle.entries_directory.specs.Ahead.{After, File, FilesPassed}
use Rattle.entries_directory.proofs.Ahead.{Going}
use Rattle.entries_directory.proofs.pass_files.Given as goal

abbrev pub invariant-loop-work : goal.invariant-loop-work
invariant-loop-work l = Going l.b l.initial.work l.initial.front l.work l.front
    × ((p x : List ℕ) (xs : List (List ℕ)) → After l.w l.v l.b l.initial.work l.initial.front x xs → File p x → length p ≡ l.q → FilesPassed l.w l.v l.b l.work l.front p (x ∷ xs))

abbrev pub decreases-loop-work : goal.decreases-loop-work
decreases-loop-work l = l.front.ahead
