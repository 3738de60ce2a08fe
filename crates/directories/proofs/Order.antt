-- In a list of names that rises, those that begin alike are together.
use mathlib.Core.Path.{◌≡◌, refl, sym, ap, ◌∙◌}
use mathlib.Core.List.{List, [], ◌∷◌, ◌++◌}
use mathlib.Core.Bool.{Bool, true, false, cond, not}
use Prim.Native.Nat.{ℕ, ◌<◌}
use native.Mathlib.Omega.{arith}
use lib.ListN.{length}
use lib.Dec.{eqb, ltb, leb, leb-zero, leb-suc-zero, leb-suc-suc}
use borrow.Author.Tests.{ltb-true, ltb-false, eq-eqb, not-true}
use Rattle.std.specs.declared.cmp.Ordering.{Ordering}
use Rattle.std.proofs.Common.{Less, Equal, Greater}
use Rattle.format.specs.Names.{compare, common}
use Rattle.format.specs.Layout.{under}
use Rattle.format_laws.proofs.Tests.{false-true, clash, by-test, and-inv, eqb_swap, head-inv}
use Rattle.format_laws.proofs.Orders.{through, names-through}
use Rattle.directories.specs.Names.{not_above, sorted_from, begins, trails, never}

-- ---- the order of names

-- the first bytes decide, or are the same
order-inv {ℓ} : {X : Type ℓ} (x y : ℕ) (o : Ordering) → not_above (cond (ltb x y) Less (cond (ltb y x) Greater o)) ≡ true
    → (x < y → X) → (x ≡ y → not_above o ≡ true → X) → X
order-inv x y o e less same =
    by-test (ltb x y)
    (λ p. less (ltb-true x y p))
    (λ p.
    by-test (ltb y x)
    (λ q. false-true (rw (p, q) at e))
    (λ q. same (omega (arith, ltb-false x y p, ltb-false y x q)) (rw (p, q) at e)))

not-above : (o : Ordering) → not_above o ≡ true → o ≡ Greater → ⊥
not-above o h e = clash h (ap not_above e)

through-most : (o p : Ordering) → not_above p ≡ true → not_above (through o p) ≡ true
unfolding through
through-most Less p h = refl
through-most Equal p h = h
through-most Greater p h = h

order_trans : (s t u : List ℕ) → not_above (compare s t) ≡ true → not_above (compare t u) ≡ true → not_above (compare s u) ≡ true
order_trans s t u h k =
    ap not_above (names-through s t u (not-above (compare s t) h) (not-above (compare t u) k)).order ∙ through-most (compare s t) (compare t u) k

-- a name between two that begin with q begins with q
pub between : (q s t u : List ℕ) → begins q s ≡ true → begins q u ≡ true → not_above (compare s t) ≡ true → not_above (compare t u) ≡ true → begins q t ≡ true
unfolding begins compare
between [] s t u p r h k = refl
between (x ∷ q) [] t u p r h k = false-true p
between (x ∷ q) (a ∷ s) t [] p r h k = false-true r
between (x ∷ q) (a ∷ s) [] (b ∷ u) p r h k = false-true h
between (x ∷ q) (a ∷ s) (y ∷ t) (b ∷ u) p r h k =
    let i = head-inv x a (begins q s) p in
    let j = head-inv x b (begins q u) r in
    order-inv a y (compare s t) h
    (λ l. order-inv y b (compare t u) k (λ m. absurd (omega arith)) (λ m g. absurd (omega arith)))
    (λ l f. order-inv y b (compare t u) k (λ m. absurd (omega arith))
    (λ m g. rw (eq-eqb x y (i.0 ∙ l)) (between q s t u i.1 j.1 f g)))

-- ---- the bytes that two names have in common

-- where s begins with q, t does exactly where the two have at least as many bytes in common
pub begins-common : (q s t : List ℕ) → begins q s ≡ true → begins q t ≡ leb (length q) (common s t)
unfolding begins common
begins-common [] s t p = sym (leb-zero (common s t))
begins-common (x ∷ q) [] t p = false-true p
begins-common (x ∷ q) (y ∷ s) [] p = sym (leb-suc-zero (length q))
begins-common (x ∷ q) (y ∷ s) (z ∷ t) p =
    let i = head-inv x y (begins q s) p in
    rw i.0
    (by-test (eqb y z)
    (λ e. rw (e, leb-suc-suc (length q) (common s t)) (begins-common q s t i.1))
    (λ e. rw (e, leb-suc-zero (length q))))

-- a name under d begins with d and "/"
pub under-begins : (d s : List ℕ) → under d s ≡ begins (d ++ (47 ∷ [])) s
unfolding under begins
under-begins [] [] = refl
under-begins [] (y ∷ s) = rw (eqb_swap y 47) (by-test (eqb 47 y) (λ e. rw e) (λ e. rw e))
under-begins (x ∷ d) [] = refl
under-begins (x ∷ d) (y ∷ s) = rw (under-begins d s)

-- ---- names that rise

sorted-at : (a : List ℕ) (done : List (List ℕ)) (s : List ℕ) (ss : List (List ℕ)) → sorted_from a (done ++ (s ∷ ss)) ≡ true
    → (not_above (compare a s) ≡ true) × (sorted_from s ss ≡ true)
unfolding sorted_from
sorted-at a [] s ss h = and-inv (not_above (compare a s)) (sorted_from s ss) h
sorted-at a (d ∷ done) s ss h =
    let i = and-inv (not_above (compare a d)) (sorted_from d (done ++ (s ∷ ss))) h in
    let j = sorted-at d done s ss i.1 in
    (order_trans a d s i.0 j.0, j.1)

-- a test that passes between any two names that pass
abbrev pub Convex : (List ℕ → Bool) → Type 0
Convex p = (s t u : List ℕ) → p s ≡ true → p u ≡ true → not_above (compare s t) ≡ true → not_above (compare t u) ≡ true → p t ≡ true

pub under-convex : (d : List ℕ) → Convex (under d)
under-convex d s t u p r h k =
    under-begins d t ∙ between (d ++ (47 ∷ [])) s t u (sym (under-begins d s) ∙ p) (sym (under-begins d u) ∙ r) h k

module _ (p : List ℕ → Bool) (convex : Convex p) where
  -- where one that passes follows one that fails, none before passes
  pub done-clear : (a : List ℕ) (done : List (List ℕ)) (t : List ℕ) (ss : List (List ℕ)) → sorted_from a (done ++ (t ∷ ss)) ≡ true
      → trails p done ≡ false → p t ≡ true → never p done ≡ true
  unfolding sorted_from trails never
  done-clear a [] t ss h n y = refl
  done-clear a (d ∷ []) t ss h n y = rw n
  done-clear a (d ∷ e ∷ done) t ss h n y =
      let i = and-inv (not_above (compare a d)) (sorted_from d (e ∷ (done ++ (t ∷ ss)))) h in
      let j = and-inv (not_above (compare d e)) (sorted_from e (done ++ (t ∷ ss))) i.1 in
      let later = done-clear d (e ∷ done) t ss i.1 n y in
      by-test (p d)
      (λ q. clash (convex d e t q y j.0 (sorted-at e done t ss j.1).0) (not-true (p e) (and-inv (not (p e)) (never p done) later).0))
      (λ q. rw q later)
