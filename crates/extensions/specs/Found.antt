-- What was found of a cache tree and of a resolve-undo list, against what the reader reads. b is the body.
use Rattle.std.specs.Prelude as Code
use Rattle.std.specs.Prelude.{◌≡◌, List, ℕ, ◌≤◌, length, is_some, Some, None}
use Rattle.std.proofs.Math.Option.{Option, none, some}
use Rattle.format.specs.Records.{Tree, tree_items, Undo}
use Rattle.format.specs.Reading.{good}
use Rattle.format.specs.Reader.{Seen, read_nodes}
use Rattle.format.specs.Places.{data_in}
use Rattle.extensions.specs.declared.Place.{Place}
use Rattle.extensions.specs.declared.Found.{Found}
use Rattle.extensions.specs.Heads.{part, undos_in}

-- ---- the cache tree

-- the tree t
pub record TreeIs (w : ℕ) (b : List ℕ) (t : Tree) (f : Place) : Type 0 where
  pub order : f.at ≤ f.end
  pub inside : f.end ≤ length b
  pub sized : part b f.at f.end ≡ data_in f.at b
  pub reads : read_nodes w 0 (part b f.at f.end) ≡ good t (length (part b f.at f.end))
  pub nodes : f.count ≡ length (tree_items t)

abbrev pub TreeFound : ℕ → List ℕ → Option Tree → Code.Option Place → Type 0
TreeFound w b none None = Unit
TreeFound w b none (Some f) = ⊥
TreeFound w b (some t) None = ⊥
TreeFound w b (some t) (Some f) = TreeIs w b t f

-- ---- resolve undo

-- the records us
pub record UndoIs (w : ℕ) (b : List ℕ) (us : List Undo) (f : Place) : Type 0 where
  pub order : f.at ≤ f.end
  pub inside : f.end ≤ length b
  pub sized : part b f.at f.end ≡ data_in f.at b
  pub reads : undos_in w 0 (part b f.at f.end) ≡ good us (length (part b f.at f.end))
  pub records : f.count ≡ length us

abbrev pub UndoFound : ℕ → List ℕ → Option (List Undo) → Code.Option Place → Type 0
UndoFound w b none None = Unit
UndoFound w b none (Some f) = ⊥
UndoFound w b (some us) None = ⊥
UndoFound w b (some us) (Some f) = UndoIs w b us f

-- ---- both

-- which have been read
abbrev pub seen_of : Found → Seen
seen_of f = record { cache_tree = is_some f.tree; resolve_undo = is_some f.undo }
