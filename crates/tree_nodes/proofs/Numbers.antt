-- Laws of decimals: what the first bytes of a text say of the whole.
use mathlib.Core.Path.{◌≡◌, refl}
use mathlib.Core.List.{List, [], ◌∷◌}
use mathlib.Core.Bool.{and-false}
use Prim.Native.Nat.{ℕ, ◌+◌, ◌*◌, ◌-◌, ◌≤◌, ◌<◌}
use native.Mathlib.Numerals.{add-one}
use native.Mathlib.Omega.{arith}
use lib.ListN.{length, get_or, drop, drop_of_length-le}
use lib.Seq.{drop-cons}
use borrow.Author.Tests.{ne_eqb, le-leb, lt-leb}
use Rattle.format.specs.Bytes.{digits, decimal, value_from, value}
use Rattle.std.specs.Prelude.{Some, None}
use Rattle.std.proofs.lemmas.Bool.Decides.{nat_tests}
use Rattle.std.specs.Char.{IsNotAsciiDigit}
use Rattle.tree_nodes.specs.Answers.{number_in, number_from}

-- ---- the beginning of a decimal

pub number-none : (limit : ℕ) (t : List ℕ) → length t ≡ 0 → number_in limit t ≡ None
unfolding number_in decimal
number-none limit [] h = refl
number-none limit (x ∷ t) h = absurd (omega arith)

pub number-zero : (limit : ℕ) (t : List ℕ) → length t ≡ 1 → get_or t 0 0 ≡ 48 → number_in limit t ≡ Some 0
unfolding number_in decimal digits value value_from
number-zero limit [] h e = absurd (omega arith)
number-zero limit (x ∷ []) h e = let z : 0 ≤ limit = omega arith in rw (e, le-leb 0 limit z)
number-zero limit (x ∷ y ∷ t) h e = absurd (omega arith)

pub number-zeros : (limit : ℕ) (t : List ℕ) → (length t ≡ 0 → ⊥) → (length t ≡ 1 → ⊥) → get_or t 0 0 ≡ 48 → number_in limit t ≡ None
unfolding number_in decimal
number-zeros limit [] n h e = absurd (n refl)
number-zeros limit (x ∷ []) n h e = absurd (h (omega arith))
number-zeros limit (x ∷ y ∷ t) n h e = rw e

pub number_digits : (limit : ℕ) (t : List ℕ) → (length t ≡ 0 → ⊥) → (get_or t 0 0 ≡ 48 → ⊥) → number_in limit t ≡ number_from limit 0 t
unfolding number_in number_from decimal value
number_digits limit [] n h = absurd (n refl)
number_digits limit (x ∷ []) n h = refl
number_digits limit (x ∷ y ∷ t) n h = rw (ne_eqb x 48 h)

-- ---- digit by digit

grows : (v : ℕ) (t : List ℕ) → v ≤ value_from v t
unfolding value_from
grows v [] = omega arith
grows v (d ∷ t) = omega (arith, grows (v * 10 + (d - 48)) t)

pub over : (limit v : ℕ) (t : List ℕ) → limit < v → number_from limit v t ≡ None
unfolding number_from
over limit v t h = let g : limit < value_from v t = omega (arith, grows v t) in rw (lt-leb _ _ g, and-false (digits t))

module _ (limit v : ℕ) (t : List ℕ) (i : ℕ) where
  pub from_end : length t ≤ i → v ≤ limit → number_from limit v (drop i t) ≡ Some v
  unfolding number_from digits value_from
  from_end h l = rw (drop_of_length-le t h, le-leb _ _ l)

  module _ (inside : i < length t) where
    pub from_other : IsNotAsciiDigit (get_or t i 0) → number_from limit v (drop i t) ≡ None
    unfolding number_from digits
    from_other h = rw (drop-cons t i 0 inside) (grind (arith, nat_tests))

    pub from_step : 48 ≤ get_or t i 0 → get_or t i 0 ≤ 57 → number_from limit v (drop i t) ≡ number_from limit (v * 10 + (get_or t i 0 - 48)) (drop (i + 1) t)
    unfolding number_from digits value_from
    from_step l h = rw (drop-cons t i 0 inside, le-leb _ _ l, le-leb _ _ h, add-one)
