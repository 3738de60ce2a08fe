-- A reader of a list that has fuel.
use mathlib.Core.Path.{◌≡◌, refl, sym, ◌∙◌}
use mathlib.Core.List.{List, [], ◌∷◌}
use Prim.Native.Nat.{ℕ, zero, suc, ◌≤◌}
use native.Mathlib.Omega.{arith}
use lib.ListN.{length, drop, length-drop}
use Rattle.format.specs.Reading.{Read, good, bind}
use Rattle.format_laws.proofs.Readings.{bind-same}

-- read reads a list by the reader one, each element of which takes at least a byte; q is what an element is told of those before
module _ {A Q : Type 0} (one : Q → List ℕ → Read A) (next : Q → A → ℕ → Q) (read : ℕ → Q → List ℕ → Read (List A))
    (end : (fuel : ℕ) (q : Q) → read fuel q [] ≡ good [] 0)
    (step : (fuel : ℕ) (q : Q) (s : List ℕ) → 1 ≤ length s
    → read (suc fuel) q s ≡ bind (one q s) (λ a m. bind (read fuel (next q a m) (drop m s)) (λ rest n. good (a ∷ rest) 0)))
    (takes : (q : Q) (s : List ℕ) (a : A) (m : ℕ) → one q s ≡ good a m → 1 ≤ m) where
  -- any fuel that is as long as what is left gives the same
  pub same-fuel : (f g : ℕ) (q : Q) (s : List ℕ) → length s ≤ f → length s ≤ g → read f q s ≡ read g q s
  same-fuel zero g q [] hf hg = end 0 q ∙ sym (end g q)
  same-fuel zero g q (x ∷ s) hf hg = absurd (omega arith)
  same-fuel (suc f) g q [] hf hg = end (suc f) q ∙ sym (end g q)
  same-fuel (suc f) zero q (x ∷ s) hf hg = absurd (omega arith)
  same-fuel (suc f) (suc g) q (x ∷ s) hf hg =
      step f q (x ∷ s) (omega arith)
      ∙ bind-same (one q (x ∷ s)) _ _ (λ a m e.
      let takes_one = takes q (x ∷ s) a m e in
      let l = length-drop m (x ∷ s) in
      rw (same-fuel f g (next q a m) (drop m (x ∷ s)) (omega arith) (omega arith)) refl)
      ∙ sym (step g q (x ∷ s) (omega arith))

  -- with the number of bytes left for fuel
  pub fuel-step : (q : Q) (s : List ℕ) → 1 ≤ length s
      → read (length s) q s
      ≡ bind (one q s) (λ a m. bind (read (length (drop m s)) (next q a m) (drop m s)) (λ rest n. good (a ∷ rest) 0))
  fuel-step q s h =
      same-fuel (length s) (suc (length s)) q s (omega arith) (omega arith)
      ∙ step (length s) q s h
      ∙ bind-same (one q s) _ _ λ a m e.
      let takes_one = takes q s a m e in
      let l = length-drop m s in
      rw (same-fuel (length s) (length (drop m s)) (next q a m) (drop m s) (omega arith) (omega arith)) refl
