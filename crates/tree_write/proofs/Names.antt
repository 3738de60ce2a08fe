-- Whether a name is in a directory, by how much they have in common.
use mathlib.Core.Path.{◌≡◌, refl, ap, ◌∙◌}
use mathlib.Core.List.{List, [], ◌∷◌}
use mathlib.Core.Bool.{true, false}
use Prim.Native.Nat.{ℕ, suc, ◌+◌, ◌-◌, ◌≤◌, ◌<◌}
use native.Mathlib.Omega.{arith}
use lib.ListN.{length, get_or, take, drop, length-drop}
use lib.Seq.{get_or-drop, take_all, length-take-le}
use lib.Dec.{eqb, ltb}
use borrow.Author.Tests.{ltb-true, ltb-false}
use Rattle.format.specs.Names.{common}
use Rattle.format.specs.Layout.{under}
use Rattle.format_laws.proofs.Tests.{by-test, clash}

pub under-shorter : (c s : List ℕ) → common c s < length c → under c s ≡ false
unfolding common under
under-shorter [] s l = absurd (omega arith)
under-shorter (x ∷ c) [] l = refl
under-shorter (x ∷ c) (y ∷ s) l =
    by-test (eqb x y)
    (λ e. let i : suc (common c s) < length (x ∷ c) = rw e at l in rw e (under-shorter c s (omega arith)))
    (λ e. rw e)

pub under-ends : (c s : List ℕ) → length s ≤ length c → under c s ≡ false
unfolding under
under-ends [] [] l = refl
under-ends [] (y ∷ s) l = absurd (omega arith)
under-ends (x ∷ c) [] l = refl
under-ends (x ∷ c) (y ∷ s) l = by-test (eqb x y) (λ e. rw e (under-ends c s (omega arith))) (λ e. rw e)

pub under_at : (c s : List ℕ) → length c ≤ common c s → length c < length s → under c s ≡ eqb (get_or s (length c) 0) 47
unfolding common under
under_at [] [] h l = absurd (omega arith)
under_at [] (y ∷ s) h l = refl
under_at (x ∷ c) [] h l = absurd (omega arith)
under_at (x ∷ c) (y ∷ s) h l =
    by-test (eqb x y)
    (λ e. let i : length (x ∷ c) ≤ suc (common c s) = rw e at h in rw e (under_at c s (omega arith) (omega arith)))
    (λ e. let i : length (x ∷ c) ≤ 0 = rw e at h in absurd (omega arith))

under-longer : (c s : List ℕ) → under c s ≡ true → length c < length s
under-longer c s e = by-test (ltb (length c) (length s)) (λ l. ltb-true _ _ l) (λ l. clash e (under-ends c s (ltb-false _ _ l)))

-- a name in the data, from a place to its NUL, and one in a slice, from a byte on
module _ (d : List ℕ) (place nul : ℕ) (name : List ℕ) (from : ℕ) (named : place ≤ nul) (within : nul ≤ length d) (inside : from ≤ length name) where
  rest-length : length (drop from name) ≡ length name - from
  rest-length = length-drop from name

  part_length : length (take (nul - place) (drop place d)) ≡ nul - place
  part_length = length-take-le (nul - place) (drop place d) (let l : length (drop place d) ≡ length d - place = length-drop place d in omega arith)

  pub name-after : under (take (nul - place) (drop place d)) (drop from name) ≡ true → from + (nul - place) + 1 ≤ length name
  name-after e =
      let i = part_length in
      let j = rest-length in
      let l = under-longer (take (nul - place) (drop place d)) (drop from name) e in
      omega arith

  module _ (n : ℕ) (is : n ≡ common (take (nul - place) (drop place d)) (take (length name - from) (drop from name))) where
    is-common : n ≡ common (take (nul - place) (drop place d)) (drop from name)
    is-common = is ∙ ap (common (take (nul - place) (drop place d))) (take_all (length name - from) (drop from name) (let l = rest-length in omega arith))

    pub name-differs : n < nul - place → under (take (nul - place) (drop place d)) (drop from name) ≡ false
    name-differs l = under-shorter _ _ (let e = is-common in let i = part_length in omega arith)

    pub name-ends : n ≤ nul - place → length name - from ≤ n → under (take (nul - place) (drop place d)) (drop from name) ≡ false
    name-ends m l = under-ends _ _ (let e = rest-length in let i = part_length in omega arith)

    pub name-goes-on : nul - place ≤ n → n ≤ nul - place → n < length name - from → under (take (nul - place) (drop place d)) (drop from name) ≡ eqb (get_or name (from + n) 0) 47
    name-goes-on m k l =
        let e = is-common in
        let i = part_length in
        let j = rest-length in
        let at : length (take (nul - place) (drop place d)) ≡ n = omega arith in
        under_at (take (nul - place) (drop place d)) (drop from name) (omega arith) (omega arith)
        ∙ rw (at, get_or-drop from name n 0)
