-- One extension and all of them: what the code answers, against what the reader answers. b is the body, work the workspace.
use Rattle.std.specs.Prelude.{◌≡◌, List, ℕ, ◌+◌, ◌-◌, length, drop, Result, Ok, Err, None, IfSome}
use Rattle.format.specs.Records.{Entry}
use Rattle.format.specs.Layout.{Extension, cache_tree, resolve_undo, other, TREE, REUC, trees, undos, names}
use Rattle.format.specs.Reading.{Read, bad, good}
use Rattle.format.specs.Reader.{none_seen, read_extensions, first}
use Rattle.format.specs.Places.{data_place}
use Rattle.fields.specs.Workspace.{Frame}
use Rattle.entries_run.specs.Steps.{EntriesRead}
use Rattle.format.specs.declared.Refusal.{Refusal}
use Rattle.format.specs.declared.Fault.{Fault}
use Rattle.format.specs.Refusals.{number_of}
use Rattle.std.proofs.Math.Option.{some}
use Rattle.extensions.specs.declared.Found.{Found}
use Rattle.extensions.specs.Heads.{Inside}
use Rattle.extensions.specs.Found.{TreeFound, UndoFound}

-- ---- one extension

-- f is what was found, and the extension at a place besides
abbrev pub Added : ℕ → List ℕ → ℕ → Found → Found → Extension → Type 0
Added w b at found f (cache_tree t) = (found.tree ≡ None) × TreeFound w b (some t) f.tree × IfSome f.tree (λ p. p.at ≡ at + 8) × (f.undo ≡ found.undo)
Added w b at found f (resolve_undo us) = (found.undo ≡ None) × UndoFound w b (some us) f.undo × IfSome f.undo (λ p. p.at ≡ at + 8) × (f.tree ≡ found.tree)
Added w b at found f (other s d) = f ≡ found

-- the reading x of the extension at a place, answered
abbrev pub OneAnswered : ℕ → List ℕ → ℕ → Found → Read Extension → Result (ℕ × Found) Refusal → Type 0
OneAnswered w b at found x (Err e) = x ≡ bad (number_of e) at
OneAnswered w b at found x (Ok (next, f)) = (e : Extension) × (x ≡ good e (next - at)) × Added w b at found f e

-- the place after it is in the body
abbrev pub OneInside : List ℕ → ℕ → Result (ℕ × Found) Refusal → Type 0
OneInside b at (Err e) = Unit
OneInside b at (Ok (next, f)) = Inside b at next

-- what a function leaves behind that reads the extension at a place as read does of the entries' names
pub record ExtensionPassed (w : ℕ) (read : List (List ℕ) → Read Extension) (v count : ℕ) (b work : List ℕ) (at : ℕ) (found : Found) (work' : List ℕ) (r : Result (ℕ × Found) Refusal) : Type 0 where
  pub answered : (es : List Entry) (m : ℕ) → EntriesRead w v count b es m → OneAnswered w b at found (read (names es)) r
  pub inside : OneInside b at r
  pub frame : Frame work work'

-- ---- all extensions

-- the list was read from a place to the end of the body; what was found is in the first extension with its signature
pub record Whole (w : ℕ) (b : List ℕ) (at : ℕ) (x : Read (List Extension)) (f : Found) : Type 0 where
  pub list : List Extension
  pub reads : x ≡ good list (length b - at)
  pub tree : TreeFound w b (first (trees list)) f.tree
  pub undo : UndoFound w b (first (undos list)) f.undo
  pub tree_at : IfSome f.tree (λ p. p.at ≡ data_place TREE at b)
  pub undo_at : IfSome f.undo (λ p. p.at ≡ data_place REUC at b)

abbrev pub AllAnswered : ℕ → List ℕ → ℕ → Read (List Extension) → Result Found Fault → Type 0
AllAnswered w b at x (Err e) = x ≡ bad (number_of e.refusal) e.place
AllAnswered w b at x (Ok f) = Whole w b at x f

-- what the reading of all extensions from a place on leaves behind
pub record ExtensionsPassed (w : ℕ) (v count : ℕ) (b work : List ℕ) (at : ℕ) (work' : List ℕ) (r : Result Found Fault) : Type 0 where
  pub answered : (es : List Entry) (m : ℕ) → EntriesRead w v count b es m
      → AllAnswered w b at (read_extensions w (names es) (length (drop at b)) none_seen at (drop at b)) r
  pub frame : Frame work work'
