-- Laws of replies as lists of numbers: their parts.
use mathlib.Core.Path.{◌≡◌, refl}
use mathlib.Core.List.{List, [], ◌∷◌, ◌++◌}
use Prim.Native.Nat.{ℕ}
use native.Mathlib.Omega.{arith}
use Rattle.std.proofs.Common.{Result, Ok, Err}
use Rattle.format.specs.Refusals.{Numbered}
use Rattle.answers.specs.declared.Shown.{Shown}
use Rattle.answers.specs.declared.Shown.TheVariants as S
use Rattle.answers.specs.declared.EntryAnswer.{EntryAnswer}
use Rattle.answers.specs.declared.NodeAnswer.{NodeAnswer}
use Rattle.answers.specs.declared.UndoAnswer.{UndoAnswer}
use Rattle.answers.specs.Answers.{Inside}
use Rattle.answers.specs.Answers as A
use Rattle.walk.specs.declared.Place.{Place}
use Rattle.replies.specs.Arrays.{name_reply, entry_reply, node_reply, undo_reply, shown_in, step_reply, buffer_in, NameInside}

-- the first five numbers of a reply that shows something, where they are all
pub shown-alone : (s : Shown) → name_reply s ≡ name_reply s ++ []
shown-alone (S.InFile at n) = refl
shown-alone (S.InWorkspace n) = refl

-- ---- a name that lies in its buffer

shown-inside : (s : Shown) (more f work : List ℕ) → Inside s f work → NameInside (name_reply s ++ more) f work
unfolding buffer_in
shown-inside (S.InFile at n) more f work h = h
shown-inside (S.InWorkspace n) more f work h = omega arith

-- a refusal has none
denied-inside : (n p : ℕ) (more f work : List ℕ) → NameInside (n ∷ p ∷ 0 ∷ 0 ∷ 0 ∷ more) f work
denied-inside n p more f work = omega arith

module _ (f work : List ℕ) where
  pub entry-inside : (r : Result EntryAnswer Numbered) → A.NameInside (λ a. a.shown) r f work → NameInside (entry_reply r) f work
  entry-inside (Err x) h = denied-inside x.number x.place _ f work
  entry-inside (Ok a) h = rw (shown-alone a.shown) (shown-inside a.shown [] f work h)

  pub node-inside : (r : Result NodeAnswer Numbered) → A.NameInside (λ a. a.shown) r f work → NameInside (node_reply r) f work
  node-inside (Err x) h = denied-inside x.number x.place _ f work
  node-inside (Ok a) h = shown-inside a.shown _ f work h

  pub undo-inside : (r : Result UndoAnswer Numbered) → A.NameInside (λ a. a.shown) r f work → NameInside (undo_reply r) f work
  undo-inside (Err x) h = denied-inside x.number x.place _ f work
  undo-inside (Ok a) h = shown-inside a.shown _ f work h

  pub step-inside : (r : Result EntryAnswer Numbered) (next : Place) → A.NameInside (λ a. a.shown) r f work → NameInside (step_reply (shown_in r) next) f work
  step-inside (Err x) next h = denied-inside x.number x.place _ f work
  step-inside (Ok a) next h = shown-inside a.shown _ f work h
