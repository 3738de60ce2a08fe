-- Siblings in the data of a cache tree. w is the width of an object name.
use Rattle.std.specs.Prelude.{◌≡◌, List, true, ℕ, ◌≤◌, length, drop, Option, Some, None}
use Rattle.std.proofs.Math.Option.{none, some}
use Rattle.format.specs.Records.{Forest, Tree}
use Rattle.format.specs.Layout.{distinct}
use Rattle.tree_counts.specs.Counts.{child}
use Rattle.tree_nodes.specs.Flat.{Reads, TreeAt}

-- the last of the siblings f, left in number, are from a place on
pub record Last (w : ℕ) (d : List ℕ) (f : Forest) (place left : ℕ) : Type 0 where
  pub siblings : Forest
  pub taken : ℕ
  pub reads : Reads w (drop place d) siblings left taken
  pub differ : distinct siblings ≡ true
  pub part : (name : List ℕ) (t : Tree) → child name siblings ≡ some t → child name f ≡ some t

-- the tree of the one of the siblings f that has the name is at a place
pub record FoundAt (w : ℕ) (d : List ℕ) (f : Forest) (name : List ℕ) (place : ℕ) : Type 0 where
  pub found : Tree
  pub is : child name f ≡ some found
  pub tree : TreeAt w d place found

-- none of the siblings f has the name, or the one that has it was found
abbrev pub Sought : ℕ → List ℕ → Forest → List ℕ → Option ℕ → Type 0
Sought w d f name None = child name f ≡ none
Sought w d f name (Some place) = FoundAt w d f name place

-- the place of what was found; the end where nothing was
abbrev pub place_in : ℕ → Option ℕ → ℕ
place_in end None = end
place_in end (Some place) = place

-- the same of what can be told at once
abbrev pub AnswerFits : ℕ → List ℕ → Forest → List ℕ → Option (Option ℕ) → Type 0
AnswerFits w d f name None = Unit {0}
AnswerFits w d f name (Some c) = Sought w d f name c

abbrev pub place_of_answer : ℕ → Option (Option ℕ) → ℕ
place_of_answer end None = end
place_of_answer end (Some c) = place_in end c

-- a cursor over the k siblings at a place: the last of them, left in number, are from another place on, in the data
pub record Cursor (w : ℕ) (d : List ℕ) (at k place left : ℕ) : Type 0 where
  pub least : at ≤ place
  pub most : place ≤ length d
  pub last : (f : Forest) (m : ℕ) → distinct f ≡ true → Reads w (drop at d) f k m → Last w d f place left

-- what is told of a name among the k siblings at a place is so, and lies in the data, from that place on
pub record AnswerHolds (w : ℕ) (d : List ℕ) (at k : ℕ) (name : List ℕ) (r : Option (Option ℕ)) : Type 0 where
  pub least : at ≤ place_of_answer (length d) r
  pub most : place_of_answer (length d) r ≤ length d
  pub is : (f : Forest) (m : ℕ) → distinct f ≡ true → Reads w (drop at d) f k m → AnswerFits w d f name r

abbrev pub Finds : ℕ → List ℕ → ℕ → ℕ → List ℕ → Option ℕ → Type 0
Finds w d at k name r = AnswerHolds w d at k name (Some r)
