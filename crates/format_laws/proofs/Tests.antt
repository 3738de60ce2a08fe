-- Laws of tests and of what is chosen by them.
use mathlib.Core.Path.{◌≡◌, refl, sym, ◌∙◌}
use mathlib.Core.Bool.{Bool, true, false, cond, ◌&&◌, ◌||◌, true≢false, and-false}
use Prim.Native.Nat.{ℕ}
use lib.Dec.{eqb}
use borrow.Author.Tests.{eqb-true, eqb-false, eq-eqb, ne_eqb}

-- no test both passes and fails
pub false-true {ℓ} : {X : Type ℓ} → false ≡ true → X
false-true e = absurd (true≢false (sym e))

pub clash {ℓ} : {X : Type ℓ} {t : Bool} → t ≡ true → t ≡ false → X
clash p q = absurd (true≢false (sym p ∙ q))

-- the two cases of a test
pub by-test {ℓ} : {X : Type ℓ} (t : Bool) → (t ≡ true → X) → (t ≡ false → X) → X
by-test true f g = f refl
by-test false f g = g refl

-- ---- "and", "or"

pub and-inv : (a b : Bool) → (a && b) ≡ true → (a ≡ true) × (b ≡ true)
and-inv true b e = (refl, e)
and-inv false b e = false-true e

pub and-inv₃ : (a b c : Bool) → (a && (b && c)) ≡ true → (a ≡ true) × (b ≡ true) × (c ≡ true)
and-inv₃ true true c e = (refl, refl, e)
and-inv₃ true false c e = false-true e
and-inv₃ false b c e = false-true e

pub and_both : (a b : Bool) → a ≡ true → b ≡ true → (a && b) ≡ true
and_both true b p q = q
and_both false b p q = p

pub and-left-comm : (a b c : Bool) → (a && (b && c)) ≡ (b && (a && c))
and-left-comm true b c = refl
and-left-comm false b c = sym (and-false b)

pub or-inv {ℓ} : {X : Type ℓ} (a b : Bool) → (a || b) ≡ true → (a ≡ true → X) → (b ≡ true → X) → X
or-inv true b e f g = f refl
or-inv false b e f g = g e

pub or-none : (a b : Bool) → (a || b) ≡ false → (a ≡ false) × (b ≡ false)
or-none true b e = false-true (sym e)
or-none false b e = (refl, e)

-- ---- a choice by a test

-- which branch was taken
pub cond-inv {ℓ κ} : {A : Type κ} {X : Type ℓ} (t : Bool) (x y z : A) → cond t x y ≡ z → (t ≡ true → x ≡ z → X) → (t ≡ false → y ≡ z → X) → X
cond-inv true x y z e f g = f refl e
cond-inv false x y z e f g = g refl e

-- the branch that can pass was taken, and passed
pub then-inv : (a b : Bool) → cond a b false ≡ true → (a ≡ true) × (b ≡ true)
then-inv true b e = (refl, e)
then-inv false b e = false-true e

-- equal heads
pub head-inv : (x y : ℕ) (b : Bool) → cond (eqb x y) b false ≡ true → (x ≡ y) × (b ≡ true)
head-inv x y b e = let i = then-inv (eqb x y) b e in (eqb-true x y i.0, i.1)

pub else-inv : (a b : Bool) → cond a false b ≡ true → (a ≡ false) × (b ≡ true)
else-inv true b e = false-true e
else-inv false b e = (refl, e)

-- what holds of both branches holds of the one that is taken
pub by_cond {ℓ κ} : {A : Type κ} (P : A → Type ℓ) (t : Bool) (x y : A) → (t ≡ true → P x) → (t ≡ false → P y) → P (cond t x y)
by_cond P true x y f g = f refl
by_cond P false x y f g = g refl

-- ---- equal numbers

pub eqb_swap : (x y : ℕ) → eqb x y ≡ eqb y x
eqb_swap x y = by-test (eqb x y) (λ e. e ∙ sym (eq-eqb y x (sym (eqb-true x y e)))) (λ e. e ∙ sym (ne_eqb y x (λ h. eqb-false x y e (sym h))))
