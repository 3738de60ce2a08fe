-- A number is written in one decimal text, which says it; and a decimal text is the one that is written of what it says.
use mathlib.Core.Path.{◌≡◌, refl, sym, ◌∙◌}
use mathlib.Core.List.{List, [], ◌∷◌, ◌++◌, append-nil}
use mathlib.Core.Bool.{true, not}
use Prim.Native.Nat.{ℕ, zero, suc, ◌+◌, ◌-◌, ◌*◌, ◌/◌, ◌%◌, ◌≤◌, ◌<◌}
use native.Mathlib.Omega.{arith}
use lib.Dec.{eqb, leb, ltb}
use borrow.Author.Tests.{ltb-true, ltb-false, lt-ltb, le-ltb, leb-true, le-leb, eqb-true, eqb-false, ne_eqb, not-true}
use Rattle.format.specs.Bytes.{digits, decimal, value_from, value}
use Rattle.format.specs.Writer.{digits_of, decimal_of}
use Rattle.format_laws.proofs.Tests.{false-true, and-inv, by-test, by_cond}

-- ---- the digits of n in front of others

digits_of-one : (fuel n : ℕ) (after : List ℕ) → n < 10 → digits_of (suc fuel) n after ≡ (48 + n) ∷ after
unfolding digits_of
digits_of-one fuel n after small = rw (lt-ltb n 10 small)

digits_of-more : (fuel n : ℕ) (after : List ℕ) → 10 ≤ n → digits_of (suc fuel) n after ≡ digits_of fuel (n / 10) ((48 + n % 10) ∷ after)
unfolding digits_of
digits_of-more fuel n after large = rw (le-ltb n 10 large)

-- by the two ways that they are written
digits_of-by {ℓ} : (P : List ℕ → Type ℓ) (fuel n : ℕ) (after : List ℕ) → (n < 10 → P ((48 + n) ∷ after))
    → (10 ≤ n → P (digits_of fuel (n / 10) ((48 + n % 10) ∷ after))) → P (digits_of (suc fuel) n after)
unfolding digits_of
digits_of-by P fuel n after one more = by_cond P (ltb n 10) _ _ (λ e. one (ltb-true n 10 e)) (λ e. more (ltb-false n 10 e))

-- any fuel above n gives the same
same_digits : (f g n : ℕ) (after : List ℕ) → n < f → n < g → digits_of f n after ≡ digits_of g n after
same_digits zero g n after hf hg = absurd (omega arith)
same_digits (suc f) zero n after hf hg = absurd (omega arith)
same_digits (suc f) (suc g) n after hf hg =
    digits_of-by (λ s. s ≡ digits_of (suc g) n after) f n after
    (λ small. sym (digits_of-one g n after small))
    (λ large. same_digits f g (n / 10) ((48 + n % 10) ∷ after) (omega arith) (omega arith) ∙ sym (digits_of-more g n after large))

-- ---- what is written says n

value-digits : (fuel n : ℕ) (after : List ℕ) → n < fuel → value_from 0 (digits_of fuel n after) ≡ value_from n after
unfolding value_from
value-digits zero n after h = absurd (omega arith)
value-digits (suc fuel) n after h =
    digits_of-by (λ s. value_from 0 s ≡ value_from n after) fuel n after
    (λ small. let e : 0 * 10 + (48 + n - 48) ≡ n = omega arith in rw e refl)
    (λ large.
    let e : n / 10 * 10 + (48 + n % 10 - 48) ≡ n = omega arith in
    value-digits fuel (n / 10) ((48 + n % 10) ∷ after) (omega arith) ∙ rw e refl)

pub value-decimal_of : (n : ℕ) → value (decimal_of n) ≡ n
unfolding value decimal_of value_from
value-decimal_of n = value-digits (suc n) n [] (omega arith)

-- ---- what is written is a decimal

-- digits, of which the first is no zero
abbrev Leading : List ℕ → Type 0
Leading s = (d : ℕ) × (t : List ℕ) × (s ≡ d ∷ t) × (48 < d) × (digits s ≡ true)

digits-cons : (d : ℕ) (s : List ℕ) → 48 ≤ d → d ≤ 57 → digits s ≡ true → digits (d ∷ s) ≡ true
unfolding digits
digits-cons d s low high h = rw (le-leb 48 d low, le-leb d 57 high) h

leading-digits : (fuel n : ℕ) (after : List ℕ) → n < fuel → 0 < n → digits after ≡ true → Leading (digits_of fuel n after)
leading-digits zero n after h pos are = absurd (omega arith)
leading-digits (suc fuel) n after h pos are =
    digits_of-by Leading fuel n after
    (λ small. (48 + n, after, refl, omega arith, digits-cons (48 + n) after (omega arith) (omega arith) are))
    (λ large.
    leading-digits fuel (n / 10) ((48 + n % 10) ∷ after) (omega arith) (omega arith) (digits-cons (48 + n % 10) after (omega arith) (omega arith) are))

leading-decimal : (s : List ℕ) → Leading s → decimal s ≡ true
unfolding decimal
leading-decimal [] h = let (d, t, e, lt, are) = h in let z : ◌≡◌ {A = ℕ} 0 1 = cc in absurd (omega arith)
leading-decimal (d ∷ []) h = h.4
leading-decimal (d ∷ e ∷ s) h =
    let (d₁, t, is, lt, are) = h in
    let same : d ≡ d₁ = cc in
    rw (ne_eqb d 48 (λ z. omega arith)) are

pub decimal-decimal_of : (n : ℕ) → decimal (decimal_of n) ≡ true
decimal-decimal_of zero = unfold decimal_of digits_of decimal digits in refl
decimal-decimal_of (suc n) =
    unfold decimal_of in leading-decimal (decimal_of (suc n)) (leading-digits (suc (suc n)) (suc n) [] (omega arith) (omega arith) (unfold digits in refl))

-- ---- a decimal is what is written of its number

digits-inv {ℓ} : {X : Type ℓ} (d : ℕ) (s : List ℕ) → digits (d ∷ s) ≡ true → (48 ≤ d → d ≤ 57 → digits s ≡ true → X) → X
unfolding digits
digits-inv d s h f =
    let a = and-inv (leb 48 d) _ h in
    let b = and-inv (leb d 57) _ a.1 in
    f (leb-true 48 d a.0) (leb-true d 57 b.0) b.1

-- digits s after those of v are written as they are
digits-back : (f g v : ℕ) (s after : List ℕ) → 0 < v → digits s ≡ true → value_from v s < f → v < g → digits_of f (value_from v s) after ≡ digits_of g v (s ++ after)
unfolding value_from
digits-back f g v [] after pos h hf hg = same_digits f g v after hf hg
digits-back f g v (d ∷ s) after pos h hf hg =
    digits-inv d s h λ low high are.
    let v₁ : ℕ = v * 10 + (d - 48) in
    let up : v₁ / 10 ≡ v = omega arith in
    let last : 48 + v₁ % 10 ≡ d = omega arith in
    digits-back f (suc v₁) v₁ s after (omega arith) are hf (omega arith)
    ∙ digits_of-more v₁ v₁ (s ++ after) (omega arith)
    ∙ rw (up, last) (same_digits v₁ g v (d ∷ (s ++ after)) (omega arith) hg)

decimal_of-leading : (d : ℕ) (s : List ℕ) → 48 < d → digits (d ∷ s) ≡ true → decimal_of (value (d ∷ s)) ≡ d ∷ s
unfolding decimal_of value value_from
decimal_of-leading d s pos h =
    digits-inv d s h λ low high are.
    let v : ℕ = 0 * 10 + (d - 48) in
    let first : 48 + v ≡ d = omega arith in
    digits-back (suc (value_from v s)) (suc v) v s [] (omega arith) are (omega arith) (omega arith)
    ∙ digits_of-one v v (s ++ []) (omega arith)
    ∙ rw (first, append-nil) refl

decimal_of-zero : decimal_of (value (48 ∷ [])) ≡ 48 ∷ []
unfolding decimal_of value value_from digits_of
decimal_of-zero = refl

pub decimal_of-value : (t : List ℕ) → decimal t ≡ true → decimal_of (value t) ≡ t
unfolding decimal
decimal_of-value [] h = false-true h
decimal_of-value (d ∷ []) h =
    digits-inv d [] h λ low high are.
    by-test (eqb d 48)
    (λ e. let zeroth : d ≡ 48 = eqb-true d 48 e in rw zeroth decimal_of-zero)
    (λ e. let other : d ≡ 48 → ⊥ = eqb-false d 48 e in decimal_of-leading d [] (omega arith) h)
decimal_of-value (d ∷ x ∷ s) h =
    let a = and-inv (not (eqb d 48)) _ h in
    let other : d ≡ 48 → ⊥ = eqb-false d 48 (not-true _ a.0) in
    digits-inv d (x ∷ s) a.1 λ low high are. decimal_of-leading d (x ∷ s) (omega arith) a.1
