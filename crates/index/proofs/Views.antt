-- Laws of parts of lists, of the answers' views, and of refusals.
use mathlib.Core.Path.{◌≡◌, refl, sym, ap}
use mathlib.Core.List.{List, [], ◌∷◌}
use mathlib.Core.Bool.{Bool, true, false}
use mathlib.Core.Option.{Option, none, some}
use Prim.Native.Nat.{ℕ, zero, suc, ◌-◌, ◌≤◌, ◌<◌}
use native.Mathlib.Omega.{arith}
use lib.ListN.{length, get_or, get_elem?, length-take}
use Rattle.format.specs.Records as F
use Rattle.format.specs.Reading.{Read}
use Rattle.format.specs.Reader.{Contents}
use Rattle.format.specs.Places.{body_in}
use Rattle.format.specs.Refusals.{denied}
use Rattle.answers.specs.Answers.{in_room, View, refused, in_file, in_workspace, pick, cleared, checked_of, check_answer, entry_of, entry_answer, node_of, node_answer, undo_of, undo_answer, entry_said, node_said, undo_said}
use Rattle.answers.proofs.Laws.{part-within}
use Rattle.extensions.specs.Heads.{part}
use Rattle.index.specs.Calls.{EntryShows, NodeShows, UndoShows}

-- ---- lists

-- data in the body are data in the file
pub part-of-body : (w : ℕ) (f : List ℕ) (a e : ℕ) → a ≤ e → e ≤ length (body_in w f) → part (body_in w f) a e ≡ part f a e
part-of-body w f a e order inside =
    let b : length (body_in w f) ≤ length f - w = simp length-take (omega arith) in
    part-within (length f - w) a (e - a) f (omega arith)

module _ {A : Type 0} where
  pub item-some : (l : List A) (k : ℕ) (z : A) → k < length l → get_elem? l k ≡ some (get_or l k z)
  item-some [] k z h = absurd (omega arith)
  item-some (a ∷ l) zero z h = refl
  item-some (a ∷ l) (suc k) z h = item-some l k z (omega arith)

-- ---- views

module _ {A : Type 0} where
  pub pick-none : (t : Bool) (o : Option A) → o ≡ none → pick t o ≡ refused 18 0
  pick-none true o e = rw e
  pick-none false o e = rw e

  pub pick-file : (t : Bool) (o : Option A) (a : A) → t ≡ false → o ≡ some a → pick t o ≡ in_file a
  pick-file t o a f e = rw (f, e)

  pub pick-work : (t : Bool) (o : Option A) (a : A) → t ≡ true → o ≡ some a → pick t o ≡ in_workspace a
  pick-work t o a f e = rw (f, e)

-- the answers, from the reading with a workspace that may be too small
module _ (work : List ℕ) (k : ℕ) (x y : Read Contents) (e : in_room work x ≡ y) where
  pub check-is : check_answer work x ≡ checked_of y
  unfolding check_answer
  check-is = ap checked_of e

  pub entry_is : entry_answer work k x ≡ entry_of k y
  unfolding entry_answer
  entry_is = ap (entry_of k) e

  pub node-is : node_answer work k x ≡ node_of k y
  unfolding node_answer
  node-is = ap (node_of k) e

  pub undo_is : undo_answer work k x ≡ undo_of k y
  unfolding undo_answer
  undo_is = ap (undo_of k) e

-- ---- refusals

module _ (w n p : ℕ) (f : List ℕ) (at : ℕ) where
  pub entry-refused : (v : View F.Entry) (work work' : List ℕ) → v ≡ refused n p → work' ≡ cleared work → EntryShows w at v f work work' (denied n p)
  unfolding entry_said
  entry-refused v work work' e after = record { shows = record { whole = rw e refl; said = sym e; inside = tt }; after = rw e after }

  pub node-refused : (v : View F.Item) → v ≡ refused n p → NodeShows w at v f (denied n p)
  unfolding node_said
  node-refused v e = record { shows = λ work. record { whole = rw e refl; said = sym e; inside = tt }; zeros = tt }

  pub undo-refused : (v : View F.Undo) → v ≡ refused n p → UndoShows w at v f (denied n p)
  unfolding undo_said
  undo-refused v e = record { shows = λ work. record { whole = rw e refl; said = sym e; inside = tt }; zeros = tt }
