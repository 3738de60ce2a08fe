-- Laws of the two orders of names: each is transitive, and what is below is not equal.
use mathlib.Core.Path.{◌≡◌, refl, sym, ap, ap₂, ◌∙◌}
use mathlib.Core.List.{List, [], ◌∷◌, ◌++◌, append_assoc}
use mathlib.Core.Bool.{Bool, true, false, cond, true≢false}
use mathlib.Core.Logic.{◌⊎◌, inl, inr, ⊎_elim}
use Prim.Native.Nat.{ℕ, suc, ◌≤◌, ◌<◌}
use native.Mathlib.Omega.{arith}
use lib.ListN.{length, get_or, take, drop, take-append-drop, drop_of_length-le}
use lib.Seq.{drop-cons}
use lib.Dec.{leb, ltb}
use borrow.Author.Tests.{lt-ltb, le-ltb, ltb-true, ltb-false, le-leb, lt-leb}
use Rattle.std.specs.declared.cmp.Ordering.{Ordering}
use Rattle.std.proofs.Common.{Less, Equal, Greater}
use Rattle.format.specs.Bytes.{eq_list}
use Rattle.format.specs.Names.{compare, common, is_below}
use Rattle.format_laws.proofs.Tests.{then-inv}
use Rattle.format_laws.proofs.Lists.{eq_list-true}
use Rattle.format_laws.proofs.Names.{compare-append, common-take, common-ends}
use Rattle.format_laws.proofs.Orders.{through, names-through, compare_self}
use Rattle.tree_nodes.specs.Flat.{has_name, names_differ}
use Rattle.cache_tree.specs.Orders.{first_below, slash_below, length_below, name_below, rises_from}

-- ---- by number, then by what follows

module _ (a b : ℕ) (v : Bool) where
  first_by : (s t : Bool) → ltb a b ≡ s → ltb b a ≡ t → cond s true (cond t false v) ≡ true → (a < b) ⊎ ((a ≡ b) × (v ≡ true))
  first_by true t p q h = inl (ltb-true a b p)
  first_by false true p q h = absurd (true≢false (sym h))
  first_by false false p q h = inr (omega (arith, ltb-false a b p, ltb-false b a q), h)

  pub first-inv : first_below a b v ≡ true → (a < b) ⊎ ((a ≡ b) × (v ≡ true))
  unfolding first_below
  first-inv h = first_by (ltb a b) (ltb b a) refl refl h

  pub first-less : a < b → first_below a b v ≡ true
  unfolding first_below
  first-less h = rw (lt-ltb a b h)

  pub first_more : b < a → first_below a b v ≡ false
  unfolding first_below
  first_more h = let l : b ≤ a = omega arith in rw (le-ltb a b l, lt-ltb b a h)

  pub first-same : a ≡ b → first_below a b v ≡ v
  unfolding first_below
  first-same h =
      let l : b ≤ a = omega arith in
      let g : a ≤ b = omega arith in
      rw (le-ltb a b l, le-ltb b a g)

  -- by the three ways two numbers compare
  first-is : (r : Bool) → (a < b → r ≡ true) → (b < a → r ≡ false) → (a ≡ b → r ≡ v) → first_below a b v ≡ r
  unfolding first_below
  first-is r f g k = is-by (ltb a b) (ltb b a) refl refl
    where
      is-by : (s t : Bool) → ltb a b ≡ s → ltb b a ≡ t → cond s true (cond t false v) ≡ r
      is-by true t p q = sym (f (ltb-true a b p))
      is-by false true p q = sym (g (ltb-true b a q))
      is-by false false p q = sym (k (omega (arith, ltb-false a b p, ltb-false b a q)))

  first-leb : v ≡ true → first_below a b v ≡ leb a b
  first-leb e = first-is (leb a b) (λ (h : a < b). le-leb a b (omega arith)) (λ (h : b < a). lt-leb a b h) (λ (h : a ≡ b). le-leb a b (omega arith) ∙ sym e)

  first-ltb : (a ≡ b → v ≡ false) → first_below a b v ≡ ltb a b
  first-ltb f = first-is (ltb a b) (λ (h : a < b). lt-ltb a b h) (λ (h : b < a). le-ltb a b (omega arith)) (λ (h : a ≡ b). le-ltb a b (omega arith) ∙ sym (f h))

first-trans : (a b c : ℕ) (u v x : Bool) → (u ≡ true → v ≡ true → x ≡ true) → first_below a b u ≡ true → first_below b c v ≡ true → first_below a c x ≡ true
first-trans a b c u v x f h k =
    ⊎_elim
    (λ (l : a < b). ⊎_elim (λ (m : b < c). first-less a c x (omega arith)) (λ (m : (b ≡ c) × (v ≡ true)). first-less a c x (omega arith)) (first-inv b c v k))
    (λ (l : (a ≡ b) × (u ≡ true)). ⊎_elim (λ (m : b < c). first-less a c x (omega arith)) (λ (m : (b ≡ c) × (v ≡ true)). first-same a c x (omega arith) ∙ f l.1 m.1) (first-inv b c v k))
    (first-inv a b u h)

-- ---- bytes

below_by : (s t : Bool) (o : Ordering) → is_below (cond s Less (cond t Greater o)) ≡ cond s true (cond t false (is_below o))
below_by true t o = refl
below_by false true o = refl
below_by false false o = refl

compare-first : (x y : ℕ) (s t : List ℕ) → is_below (compare (x ∷ s) (y ∷ t)) ≡ first_below x y (is_below (compare s t))
unfolding compare first_below
compare-first x y s t = below_by (ltb x y) (ltb y x) (compare s t)

compare-ended : (s : List ℕ) → is_below (compare s []) ≡ false
unfolding compare
compare-ended [] = refl
compare-ended (x ∷ s) = refl

compare-begun : (z : ℕ) (u : List ℕ) → is_below (compare [] (z ∷ u)) ≡ true
unfolding compare
compare-begun z u = refl

compare-ending : (s : List ℕ) → is_below (compare [] (s ++ (47 ∷ []))) ≡ true
compare-ending [] = compare-begun 47 []
compare-ending (x ∷ s) = compare-begun x (s ++ (47 ∷ []))

not-above : (o : Ordering) → is_below o ≡ true → o ≡ Greater → ⊥
not-above o h e = true≢false (sym h ∙ ap is_below e)

through-below : (o p : Ordering) → is_below p ≡ true → is_below (through o p) ≡ true
unfolding through
through-below Less p h = refl
through-below Equal p h = h
through-below Greater p h = h

compare-trans : (s t u : List ℕ) → is_below (compare s t) ≡ true → is_below (compare t u) ≡ true → is_below (compare s u) ≡ true
compare-trans s t u h k =
    ap is_below (names-through s t u (not-above (compare s t) h) (not-above (compare t u) k)).order ∙ through-below (compare s t) (compare t u) k

-- ---- both orders

below-trans : (b : Bool) (s t u : List ℕ) → name_below b s t ≡ true → name_below b t u ≡ true → name_below b s u ≡ true
unfolding slash_below length_below
below-trans true s t u h k = first-trans (length s) (length t) (length u) _ _ _ (compare-trans s t u) h k
below-trans false s t u h k = compare-trans (s ++ (47 ∷ [])) (t ++ (47 ∷ [])) (u ++ (47 ∷ [])) h k

below_self : (b : Bool) (s : List ℕ) → name_below b s s ≡ false
unfolding slash_below length_below
below_self true s = rw (compare_self s) (first-same (length s) (length s) false refl)
below_self false s = rw (compare_self (s ++ (47 ∷ [])))

below_other : (b : Bool) (s t : List ℕ) → name_below b s t ≡ true → eq_list s t ≡ false
below_other b s t h = by (eq_list s t) refl
  where
    by : (e : Bool) → eq_list s t ≡ e → e ≡ false
    by true e = absurd (true≢false (sym h ∙ ap (name_below b s) (sym (eq_list-true s t e)) ∙ below_self b s))
    by false e = refl

-- ---- siblings that rise

module _ (b : Bool) where
  rises-has : (x y : List ℕ) (l : List (List ℕ)) → name_below b x y ≡ true → rises_from b y l ≡ true → has_name x l ≡ false
  unfolding rises_from has_name
  rises-has x y [] h k = refl
  rises-has x y (z ∷ l) h k =
      let i = then-inv (name_below b y z) (rises_from b z l) k in
      let t : name_below b x z ≡ true = below-trans b x y z h i.0 in
      rw (below_other b x z t) (rises-has x z l t i.1)

  pub rises-differ : (x : List ℕ) (l : List (List ℕ)) → rises_from b x l ≡ true → names_differ (x ∷ l) ≡ true
  unfolding rises_from has_name names_differ
  rises-differ x [] k = refl
  rises-differ x (y ∷ l) k =
      let i = then-inv (name_below b x y) (rises_from b y l) k in
      rw (below_other b x y i.0, rises-has x y l i.0 i.1) (rises-differ y l i.1)

-- ---- names in the order of the index: what follows the common beginning decides

module _ (s t : List ℕ) (n : ℕ) (is : n ≡ common s t) where
  rest_of : (r : List ℕ) → take n r ≡ take n s → r ++ (47 ∷ []) ≡ take n s ++ (drop n r ++ (47 ∷ []))
  rest_of r e = ap (λ (q : List ℕ). q ++ (47 ∷ [])) (sym (take-append-drop n r) ∙ ap (λ (q : List ℕ). q ++ drop n r) e) ∙ append_assoc (take n s) (drop n r) (47 ∷ [])

  slash-rest : slash_below s t ≡ is_below (compare (drop n s ++ (47 ∷ [])) (drop n t ++ (47 ∷ [])))
  unfolding slash_below
  slash-rest =
      let e : take n t ≡ take n s = rw is (sym (common-take s t)) in
      ap₂ (λ (x y : List ℕ). is_below (compare x y)) (rest_of s refl) (rest_of t e) ∙ ap is_below (compare-append (take n s) (drop n s ++ (47 ∷ [])) (drop n t ++ (47 ∷ [])))

  pub slash-same : length s ≤ n → length t ≤ n → slash_below s t ≡ false
  slash-same h l = slash-rest ∙ rw (drop_of_length-le s h, drop_of_length-le t l, compare_self (47 ∷ []))

  pub slash-long : length s ≤ n → n < length t → slash_below s t ≡ leb 47 (get_or t n 0)
  slash-long h l = slash-rest ∙ rw (drop_of_length-le s h, drop-cons t n 0 l) (compare-first 47 (get_or t n 0) [] (drop (suc n) t ++ (47 ∷ []))
      ∙ first-leb 47 (get_or t n 0) _ (compare-ending (drop (suc n) t)))

  pub slash-short : n < length s → length t ≤ n → slash_below s t ≡ ltb (get_or s n 0) 47
  slash-short h l = slash-rest ∙ rw (drop_of_length-le t l, drop-cons s n 0 h) (compare-first (get_or s n 0) 47 (drop (suc n) s ++ (47 ∷ [])) []
      ∙ first-ltb (get_or s n 0) 47 _ (λ e. compare-ended (drop (suc n) s ++ (47 ∷ []))))

  pub slash-other : n ≤ length s → n < length s → n < length t → slash_below s t ≡ ltb (get_or s n 0) (get_or t n 0)
  slash-other few h l = slash-rest ∙ rw (drop-cons t n 0 l, drop-cons s n 0 h) (compare-first (get_or s n 0) (get_or t n 0) (drop (suc n) s ++ (47 ∷ [])) (drop (suc n) t ++ (47 ∷ []))
      ∙ first-ltb (get_or s n 0) (get_or t n 0) _ (λ e. absurd (common-ends s t n is few h l e)))

-- ---- names by length

module _ (s t : List ℕ) where
  pub length-less : length s < length t → length_below s t ≡ true
  unfolding length_below
  length-less h = first-less (length s) (length t) _ h

  pub length_more : length t < length s → length_below s t ≡ false
  unfolding length_below
  length_more h = first_more (length s) (length t) _ h

  -- names of one length: what follows the common beginning decides
  module _ (n : ℕ) (is : n ≡ common s t) (same : length s ≡ length t) where
    length_rest : length_below s t ≡ is_below (compare (drop n s) (drop n t))
    unfolding length_below
    length_rest =
        let e : take n t ≡ take n s = rw is (sym (common-take s t)) in
        first-same (length s) (length t) _ same
        ∙ ap₂ (λ (x y : List ℕ). is_below (compare x y)) (sym (take-append-drop n s)) (sym (take-append-drop n t) ∙ ap (λ (q : List ℕ). q ++ drop n t) e)
        ∙ ap is_below (compare-append (take n s) (drop n s) (drop n t))

    pub length-equal : length s ≤ n → length_below s t ≡ false
    length-equal h = length_rest ∙ rw (drop_of_length-le s h) (let l : length t ≤ n = omega arith in rw (drop_of_length-le t l, compare_self []))

    pub length-other : n ≤ length s → n < length s → length_below s t ≡ ltb (get_or s n 0) (get_or t n 0)
    length-other few h =
        let l : n < length t = omega arith in
        length_rest ∙ rw (drop-cons t n 0 l, drop-cons s n 0 h) (compare-first (get_or s n 0) (get_or t n 0) (drop (suc n) s) (drop (suc n) t)
        ∙ first-ltb (get_or s n 0) (get_or t n 0) _ (λ e. absurd (common-ends s t n is few h l e)))
