-- Laws of names: a common beginning, and the limits of a sound name.
use mathlib.Core.Path.{◌≡◌, refl, sym, ap, ◌∙◌}
use mathlib.Core.List.{List, [], ◌∷◌, ◌++◌}
use mathlib.Core.Bool.{Bool, true, false, cond, ◌&&◌}
use Prim.Native.Nat.{ℕ, suc, ◌+◌, ◌≤◌, ◌<◌}
use native.Mathlib.Omega.{arith}
use lib.ListN.{length, get_or, take, drop, take-append-drop}
use lib.Seq.{length-take-le, drop-cons}
use lib.Dec.{eqb, leb}
use borrow.Author.Tests.{eq-eqb, eqb-true, leb-true, le-leb, lt-leb, le-ltb}
use Rattle.format.specs.Bytes.{lacks}
use Rattle.format.specs.Names.{components, ok_components, ok_name, compare, common}
use Rattle.format_laws.proofs.Tests.{and-inv}

-- ---- a common beginning

compare-head : (x : ℕ) (s t : List ℕ) → compare (x ∷ s) (x ∷ t) ≡ compare s t
unfolding compare
compare-head x s t = let h : x ≤ x = omega arith in rw (le-ltb x x h)

common-head : (x : ℕ) (s t : List ℕ) → common (x ∷ s) (x ∷ t) ≡ suc (common s t)
unfolding common
common-head x s t = rw (eq-eqb x x refl)

-- it does not count for the order
pub compare-append : (q s t : List ℕ) → compare (q ++ s) (q ++ t) ≡ compare s t
compare-append [] s t = refl
compare-append (x ∷ q) s t = compare-head x (q ++ s) (q ++ t) ∙ compare-append q s t

pub common-append : (q s t : List ℕ) → common (q ++ s) (q ++ t) ≡ length q + common s t
common-append [] s t = omega arith
common-append (x ∷ q) s t = common-head x (q ++ s) (q ++ t) ∙ omega (arith, common-append q s t)

-- it is within both
common-within : (s t : List ℕ) (b : Bool) (n : ℕ) → n ≤ length s → n ≤ length t → (cond b (suc n) 0 ≤ suc (length s)) × (cond b (suc n) 0 ≤ suc (length t))
common-within s t true n h l = omega arith
common-within s t false n h l = omega arith

pub common-le : (s t : List ℕ) → (common s t ≤ length s) × (common s t ≤ length t)
unfolding common
common-le [] t = omega arith
common-le (x ∷ s) [] = omega arith
common-le (x ∷ s) (y ∷ t) = let (h, l) = common-le s t in common-within s t (eqb x y) (common s t) h l

-- the first bytes of s and t, as many as they have in common
common-by : (x y : ℕ) (s t : List ℕ) (b : Bool) → eqb x y ≡ b → take (common s t) s ≡ take (common s t) t
    → take (cond b (suc (common s t)) 0) (x ∷ s) ≡ take (cond b (suc (common s t)) 0) (y ∷ t)
common-by x y s t true e h = rw (eqb-true x y e, h)
common-by x y s t false e h = refl

pub common-take : (s t : List ℕ) → take (common s t) s ≡ take (common s t) t
unfolding common
common-take [] t = refl
common-take (x ∷ s) [] = refl
common-take (x ∷ s) (y ∷ t) = common-by x y s t (eqb x y) refl (common-take s t)

-- what follows decides the order
module _ (s t : List ℕ) (n : ℕ) (is : n ≡ common s t) (within : n ≤ length s) where
  from-n : s ≡ take n s ++ drop n s
  from-n = sym (take-append-drop n s)

  also-n : t ≡ take n s ++ drop n t
  also-n = sym (take-append-drop n t) ∙ rw (is, common-take)

  pub compare-rest : compare s t ≡ compare (drop n s) (drop n t)
  compare-rest = ap (λ (l : List ℕ). compare l t) from-n ∙ ap (compare (take n s ++ drop n s)) also-n ∙ compare-append (take n s) (drop n s) (drop n t)

  pub common-rest : common (drop n s) (drop n t) ≡ 0
  common-rest =
      let e : common s t ≡ length (take n s) + common (drop n s) (drop n t) =
      ap (λ (l : List ℕ). common l t) from-n ∙ ap (common (take n s ++ drop n s)) also-n ∙ common-append (take n s) (drop n s) (drop n t) in
      omega (arith, e, length-take-le n s within)

  pub common-ends : n < length s → n < length t → get_or s n 0 ≡ get_or t n 0 → ⊥
  unfolding common
  common-ends h l e =
      let more : common (drop n s) (drop n t) ≡ suc (common (drop (suc n) s) (drop (suc n) t)) = rw (drop-cons s n 0 h, drop-cons t n 0 l, eq-eqb _ _ e) in
      omega (arith, common-rest, more)

-- ---- the limits of a sound name

pub ok_name-over : (s : List ℕ) → 8192 < length s → ok_name s ≡ false
unfolding ok_name
ok_name-over s h = let some : 1 ≤ length s = omega arith in rw (le-leb _ _ some, lt-leb _ _ h)

pub ok_name-length : (s : List ℕ) → ok_name s ≡ true → (1 ≤ length s) × (length s ≤ 8192)
unfolding ok_name
ok_name-length s h =
    let (some, long) = and-inv (leb 1 (length s)) (leb (length s) 8192 && (lacks 0 s && ok_components (components s))) h in
    let (few, _) = and-inv (leb (length s) 8192) (lacks 0 s && ok_components (components s)) long in
    (leb-true _ _ some, leb-true _ _ few)

pub ok_name-lacks : (s : List ℕ) → ok_name s ≡ true → lacks 0 s ≡ true
unfolding ok_name
ok_name-lacks s h =
    let (_, long) = and-inv (leb 1 (length s)) (leb (length s) 8192 && (lacks 0 s && ok_components (components s))) h in
    let (_, rest) = and-inv (leb (length s) 8192) (lacks 0 s && ok_components (components s)) long in
    (and-inv (lacks 0 s) (ok_components (components s)) rest).0
