-- The proof that `walk_directories` meets its contract. The loop keeps bounds, whatever the entries and the tree are; and, where they were read, what was
-- passed in the directory of each level, with the sums up to there.
use mathlib.Core.Path.{◌≡◌}
use mathlib.Core.List.{List, ◌∷◌}
use Prim.Native.Nat.{ℕ}
use lib.ListN.{drop}
use Rattle.format.specs.Records.{Forest}
use Rattle.format.specs.Reading.{good}
use Rattle.format.specs.Reader.{read_forest}
use Rattle.tree_counts.specs.Counts.{SoundForest}
use Rattle.entries_directory.specs.Ahead.{Ahead}
use Rattle.tree_search.specs.Table.{Known}
use Rattle.tree_check.proofs.Turns.{turns}
use Rattle.tree_check.proofs.Walks.{Walk}
use Rattle.tree_check.proofs.Loops.{Looping}
use Rattle.tree_check.proofs.walk.walk_directories.Given as goal

abbrev pub invariant-loop-ok : goal.invariant-loop-ok
invariant-loop-ok l = Known l.w l.d l.t × Looping l.d l.b l.initial.work l.above l.work l.level l.dir l.front l.found
    × ((f : Forest) (n : ℕ) → SoundForest f → read_forest l.w 0 127 l.initial.dir.k (drop l.initial.dir.at l.d) ≡ good f n → (x : List ℕ) (xs : List (List ℕ)) → Ahead l.w l.v l.b l.initial.work l.initial.front x xs
    → Walk l.w l.d l.above l.b l.v l.initial.dir f (x ∷ xs) l.work l.level l.dir l.front l.ok l.found)

abbrev pub decreases-loop-ok : goal.decreases-loop-ok
decreases-loop-ok l = turns l.front.ahead l.dir.ahead l.level
