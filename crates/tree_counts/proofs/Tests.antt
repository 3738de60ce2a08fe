-- More laws of tests.
use mathlib.Core.Path.{◌≡◌, refl, sym, ◌∙◌}
use mathlib.Core.Bool.{Bool, true, false, cond, ◌&&◌, true≢false, and-false}
use Prim.Native.Nat.{ℕ, ◌+◌, ◌≤◌}
use native.Mathlib.Omega.{arith}
use lib.Dec.{eqb}
use borrow.Author.Tests.{eqb-true, eqb-false, eq-eqb, ne_eqb}
use Rattle.format_laws.proofs.Tests.{by-test}

pub or-false-inv : (a b : Bool) → cond a true b ≡ false → (a ≡ false) × (b ≡ false)
or-false-inv true b e = absurd (true≢false e)
or-false-inv false b e = (refl, e)

-- a first test may be replaced by what it is where the second passes
pub and-when : (a a' b : Bool) → (b ≡ true → a ≡ a') → (a && b) ≡ (a' && b)
and-when a a' true h = rw (h refl)
and-when a a' false h = and-false a ∙ sym (and-false a')

-- two sums, part by part at most: equal where their parts are
pub sums-equal : (a b c d : ℕ) → a ≤ c → b ≤ d → eqb (a + b) (c + d) ≡ (eqb a c && eqb b d)
sums-equal a b c d h k = by-test (eqb a c) (λ p. by-test (eqb b d) (yes p) (no p)) other
  where
    yes : eqb a c ≡ true → eqb b d ≡ true → eqb (a + b) (c + d) ≡ (eqb a c && eqb b d)
    yes p q = rw (p, q) (eq-eqb (a + b) (c + d) (omega (arith, eqb-true a c p, eqb-true b d q)))

    no : eqb a c ≡ true → eqb b d ≡ false → eqb (a + b) (c + d) ≡ (eqb a c && eqb b d)
    no p q = rw (p, q) (ne_eqb (a + b) (c + d) (λ e. eqb-false b d q (omega (arith, eqb-true a c p))))

    other : eqb a c ≡ false → eqb (a + b) (c + d) ≡ (eqb a c && eqb b d)
    other p = rw p (ne_eqb (a + b) (c + d) (λ e. eqb-false a c p (omega arith)))
