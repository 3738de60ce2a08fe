-- Laws of the parts that readers are made of.
use mathlib.Core.Path.{◌≡◌}
use mathlib.Core.List.{List}
use mathlib.Core.Bool.{Bool, true, false, cond}
use Prim.Native.Nat.{ℕ, ◌-◌, ◌≤◌, ◌<◌}
use lib.ListN.{length, drop, length-drop}
use lib.Dec.{leb}
use borrow.Author.Tests.{le-leb, lt-leb}
use Rattle.format.specs.Reading.{Read, bad, need}

-- an answer r that can be had again from what the code says of it
pub record AnswerKept {A X : Type 0} (say : Read A → X) (again : X → Read A) (r : Read A) : Type 0 where
  pub same : r ≡ again (say r)

module _ {A X : Type 0} {say : Read A → X} {again : X → Read A} where
  pub kept-need : (t : Bool) {n p : ℕ} {r : Read A} → AnswerKept say again (bad n p) → AnswerKept say again r → AnswerKept say again (need t n p r)
  unfolding need
  kept-need true e h = h
  kept-need false e h = e

  pub kept-cond : (t : Bool) {r q : Read A} → AnswerKept say again r → AnswerKept say again q → AnswerKept say again (cond t r q)
  kept-cond true e h = e
  kept-cond false e h = h

-- two answers of which the code says the same
pub record SameAnswer {A X : Type 0} (say : Read A → X) (r q : Read A) : Type 0 where
  pub same : say r ≡ say q

module _ {A X : Type 0} {say : Read A → X} where
  pub alike-need : (t : Bool) {n p m q : ℕ} {r s : Read A} → SameAnswer say (bad n p) (bad m q) → SameAnswer say r s → SameAnswer say (need t n p r) (need t m q s)
  unfolding need
  alike-need true e h = h
  alike-need false e h = e

  pub alike-cond : (t : Bool) {r q r' q' : Read A} → SameAnswer say r r' → SameAnswer say q q' → SameAnswer say (cond t r q) (cond t r' q')
  alike-cond true e h = e
  alike-cond false e h = h

-- whether n bytes are there from the place at on
module _ (b : List ℕ) (at n : ℕ) where
  pub enough : n ≤ length b - at → leb n (length (drop at b)) ≡ true
  enough h = let l : n ≤ length (drop at b) = simp length-drop h in le-leb _ _ l

  pub cut : length b - at < n → leb n (length (drop at b)) ≡ false
  cut h = let l : length (drop at b) < n = simp length-drop h in lt-leb _ _ l
