-- A row of cursors at work. w is the width of an object name.
use Rattle.std.specs.Prelude.{◌≡◌, List, Bool, true, ℕ, ◌+◌, ◌*◌, ◌≤◌, ◌<◌, length, get_or, Some}
use Rattle.tree_search.specs.Siblings.{Cursor, AnswerHolds}
use Rattle.tree_search.specs.Table.{Known}

-- a cursor over the k siblings at a place that went on after a look for a name: a name that was found is at it
pub record Moved (w : ℕ) (d : List ℕ) (at k : ℕ) (name : List ℕ) (found : Bool) (place left : ℕ) : Type 0 where
  pub cursor : Cursor w d at k place left
  pub told : found ≡ true → AnswerHolds w d at k name (Some (Some place))

-- the row of a level is of the k siblings at a place in the data, and there are some
pub record RowOf (w : ℕ) (d : List ℕ) (at k level : ℕ) (t : List ℕ) : Type 0 where
  pub known : Known w d t
  pub upper : level < 16
  pub inside : at ≤ length d
  pub place : get_or t (3078 + level * 3) 0 ≡ at
  pub number : get_or t (3078 + level * 3 + 1) 0 ≡ k
  pub some : 1 ≤ k
