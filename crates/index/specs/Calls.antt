-- What the calls leave behind: what is shown, the answer whole, with the number of a refusal. w is the width of an object name. A name that is shown
-- from the file is at the place at.
use Rattle.std.specs.Prelude.{◌≡◌, List, ℕ, replicate, None, Result, Ok, Err}
use Rattle.format.specs.Records as F
use Rattle.format.specs.Refusals.{Numbered}
use Rattle.answers.specs.declared.EntryAnswer.{EntryAnswer}
use Rattle.answers.specs.declared.NodeAnswer.{NodeAnswer}
use Rattle.answers.specs.declared.UndoAnswer.{UndoAnswer}
use Rattle.answers.specs.Answers.{View, work_after, EntryShown, NodeShown, UndoShown}

-- the answer r shows v. work' is the workspace after it, work the one before
pub record EntryShows (w : ℕ) (at : ℕ) (v : View F.Entry) (f work work' : List ℕ) (r : Result EntryAnswer Numbered) : Type 0 where
  pub shows : EntryShown w at v f work' r
  pub after : work' ≡ work_after v work

-- an invalid node has zeros for its object name
abbrev pub NodeZeros : Result NodeAnswer Numbered → Type 0
NodeZeros (Err x) = Unit
NodeZeros (Ok a) = a.count ≡ None → a.object ≡ replicate 32 0

-- the names of nodes and records are parts of the file: the workspace does not matter
pub record NodeShows (w : ℕ) (at : ℕ) (v : View F.Item) (f : List ℕ) (r : Result NodeAnswer Numbered) : Type 0 where
  pub shows : (work : List ℕ) → NodeShown w at v f work r
  pub zeros : NodeZeros r

-- a missing stage has zeros for its object name
abbrev pub UndoZeros : Result UndoAnswer Numbered → Type 0
UndoZeros (Err x) = Unit
UndoZeros (Ok a) =
    (a.first_mode ≡ 0 → a.first ≡ replicate 32 0)
    × (a.second_mode ≡ 0 → a.second ≡ replicate 32 0)
    × (a.third_mode ≡ 0 → a.third ≡ replicate 32 0)

pub record UndoShows (w : ℕ) (at : ℕ) (v : View F.Undo) (f : List ℕ) (r : Result UndoAnswer Numbered) : Type 0 where
  pub shows : (work : List ℕ) → UndoShown w at v f work r
  pub zeros : UndoZeros r
