-- Laws of the order of names.
use mathlib.Core.Path.{◌≡◌, refl, sym, ◌∙◌}
use mathlib.Core.List.{List, [], ◌∷◌}
use mathlib.Core.Bool.{Bool, true, false, cond}
use Prim.Native.Nat.{ℕ, suc, ◌≤◌, ◌<◌, min}
use native.Mathlib.Omega.{arith}
use lib.Dec.{ltb}
use borrow.Author.Tests.{ltb-true, ltb-false, lt-ltb, le-ltb, eq-eqb, ne_eqb}
use Rattle.std.specs.declared.cmp.Ordering.{Ordering}
use Rattle.std.proofs.Common.{Less, Equal, Greater}
use Rattle.format.specs.Names.{compare, common}
use Rattle.format_laws.proofs.Tests.{by-test}

-- ---- two names, by their first bytes

pub by_order {ℓ} : {X : Type ℓ} (x y : ℕ) → (x < y → X) → (x ≡ y → X) → (y < x → X) → X
by_order x y less same more =
    by-test (ltb x y)
    (λ p. less (ltb-true x y p))
    (λ p. by-test (ltb y x) (λ q. more (ltb-true y x q)) (λ q. same (omega (arith, ltb-false x y p, ltb-false y x q))))

module _ (x y : ℕ) (s t : List ℕ) where
  pub compare-less : x < y → compare (x ∷ s) (y ∷ t) ≡ Less
  unfolding compare
  compare-less h = rw (lt-ltb x y h)

  pub compare-more : y < x → compare (x ∷ s) (y ∷ t) ≡ Greater
  unfolding compare
  compare-more h = let l : y ≤ x = omega arith in rw (le-ltb x y l, lt-ltb y x h)

  pub compare-next : x ≡ y → compare (x ∷ s) (y ∷ t) ≡ compare s t
  unfolding compare
  compare-next e =
      let l : x ≤ y = omega arith in
      let g : y ≤ x = omega arith in
      rw (le-ltb x y g, le-ltb y x l)

  common-none : (x ≡ y → ⊥) → common (x ∷ s) (y ∷ t) ≡ 0
  unfolding common
  common-none h = rw (ne_eqb x y h)

  common-next : x ≡ y → common (x ∷ s) (y ∷ t) ≡ suc (common s t)
  unfolding common
  common-next e = rw (eq-eqb x y e)

pub compare_self : (s : List ℕ) → compare s s ≡ Equal
unfolding compare
compare_self [] = refl
compare_self (x ∷ s) = compare-next x x s s refl ∙ compare_self s

pub other-orders {ℓ} : {X : Type ℓ} {o : Ordering} → o ≡ Less → o ≡ Equal → X
other-orders p q = let z : ◌≡◌ {A = ℕ} 0 1 = cc in absurd (omega arith)

pub compare_same : (s t : List ℕ) → compare s t ≡ Equal → s ≡ t
unfolding compare
compare_same [] [] e = refl
compare_same [] (y ∷ t) e = other-orders refl e
compare_same (x ∷ s) [] e = let z : ◌≡◌ {A = ℕ} 0 1 = cc in absurd (omega arith)
compare_same (x ∷ s) (y ∷ t) e =
    by_order x y
    (λ h. other-orders (compare-less x y s t h) e)
    (λ h. let tail : s ≡ t = compare_same s t (sym (compare-next x y s t h) ∙ e) in cc)
    (λ h. let z : ◌≡◌ {A = ℕ} 0 1 = cc (compare-more x y s t h) in absurd (omega arith))

-- ---- three names

-- how the first compares to the third, from how it compares to the second and the second to the third, neither being above
unfoldable pub through : Ordering → Ordering → Ordering
through Less o = Less
through Equal o = o
through Greater o = o

through-below : (o : Ordering) → through o Less ≡ Less
unfolding through
through-below Less = refl
through-below Equal = refl
through-below Greater = refl

pub record Through (a b c : List ℕ) : Type 0 where
  pub order : compare a c ≡ through (compare a b) (compare b c)
  pub shared : common a c ≡ min (common a b) (common b c)

module _ (x y z : ℕ) (a b c : List ℕ) where
  first-rises : x < y → x < z → Through (x ∷ a) (y ∷ b) (z ∷ c)
  unfolding through
  first-rises p q =
      let none : common (x ∷ a) (z ∷ c) ≡ 0 = common-none x z a c (λ e. omega arith) in
      let also : common (x ∷ a) (y ∷ b) ≡ 0 = common-none x y a b (λ e. omega arith) in
      record { order = rw (compare-less x z a c q, compare-less x y a b p); shared = omega arith }

  then-rises : x ≡ y → y < z → Through (x ∷ a) (y ∷ b) (z ∷ c)
  then-rises p q =
      let none : common (x ∷ a) (z ∷ c) ≡ 0 = common-none x z a c (λ e. omega arith) in
      let also : common (y ∷ b) (z ∷ c) ≡ 0 = common-none y z b c (λ e. omega arith) in
      record { order = rw (compare-less x z a c (omega arith), compare-less y z b c q) (sym (through-below _)); shared = omega arith }

  stays : x ≡ y → y ≡ z → Through a b c → Through (x ∷ a) (y ∷ b) (z ∷ c)
  stays p q h =
      record {
        order = rw (compare-next x z a c (p ∙ q), compare-next x y a b p, compare-next y z b c q) h.order;
        shared = rw (common-next x z a c (p ∙ q), common-next x y a b p, common-next y z b c q) (omega arith);
      }

pub names-through : (a b c : List ℕ) → (compare a b ≡ Greater → ⊥) → (compare b c ≡ Greater → ⊥) → Through a b c
unfolding compare common through
names-through [] [] c h k = record { order = refl; shared = omega arith }
names-through [] (y ∷ b) [] h k = absurd (k refl)
names-through [] (y ∷ b) (z ∷ c) h k = record { order = refl; shared = omega arith }
names-through (x ∷ a) [] c h k = absurd (h refl)
names-through (x ∷ a) (y ∷ b) [] h k = absurd (k refl)
names-through (x ∷ a) (y ∷ b) (z ∷ c) h k =
    by_order x y
    (λ p.
    by_order y z
    (λ q. first-rises x y z a b c p (omega arith))
    (λ q. first-rises x y z a b c p (omega arith))
    (λ q. absurd (k (compare-more y z b c q))))
    (λ p.
    by_order y z
    (λ q. then-rises x y z a b c p q)
    (λ q. stays x y z a b c p q (names-through a b c (λ e. h (compare-next x y a b p ∙ e)) (λ e. k (compare-next y z b c q ∙ e))))
    (λ q. absurd (k (compare-more y z b c q))))
    (λ p. absurd (h (compare-more x y a b p)))

-- what the first and the third have in common, where none is above the next
pub common-through : (a b c : List ℕ) → (compare a b ≡ Greater → ⊥) → (compare b c ≡ Greater → ⊥) → common a c ≡ min (common a b) (common b c)
common-through a b c h k = (names-through a b c h k).shared

-- ---- two names, the other way round

-- how t compares to s, where s compares so to t
abbrev pub opposite : Ordering → Ordering
opposite Less = Greater
opposite Equal = Equal
opposite Greater = Less

opposite-by : (a b : Bool) (o p : Ordering) → (a ≡ true → b ≡ true → ⊥) → p ≡ opposite o → cond b Less (cond a Greater p) ≡ opposite (cond a Less (cond b Greater o))
opposite-by true true o p h e = absurd (h refl refl)
opposite-by true false o p h e = refl
opposite-by false true o p h e = refl
opposite-by false false o p h e = e

pub compare-opposite : (s t : List ℕ) → compare t s ≡ opposite (compare s t)
unfolding compare
compare-opposite [] [] = refl
compare-opposite [] (y ∷ t) = refl
compare-opposite (x ∷ s) [] = refl
compare-opposite (x ∷ s) (y ∷ t) =
    opposite-by (ltb x y) (ltb y x) (compare s t) (compare t s) (λ p q. omega (arith, ltb-true x y p, ltb-true y x q)) (compare-opposite s t)
