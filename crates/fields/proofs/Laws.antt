-- Laws of texts and names at a place of a list, and of the workspace.
use mathlib.Core.Path.{◌≡◌, refl, sym, ap, ◌∙◌}
use mathlib.Core.List.{List, [], ◌∷◌, ◌++◌, append_assoc}
use mathlib.Core.Bool.{Bool, true, false, cond, ◌&&◌, and-true}
use Prim.Native.Nat.{ℕ, zero, suc, ◌+◌, ◌-◌, ◌*◌, ◌≤◌, ◌<◌}
use native.Mathlib.Nat.{add_assoc}
use native.Mathlib.Numerals.{add-one, unary_clauses}
use native.Mathlib.Omega.{arith}
use lib.ListN.{length, get_or, take, drop, drop_of_length-le, length-append, length-drop, take-append-drop}
use lib.Seq.{drop-cons, take-length, take-add, paste}
use lib.Dec.{eqb, ltb}
use borrow.Author.Tests.{eq-eqb, ne_eqb, eqb-true, eqb-false, ltb-true, ltb-false, le-leb, lt-ltb, le-ltb}
use Rattle.std.proofs.Common.{Less, Equal, Greater}
use Rattle.std.specs.Cmp.Lexicographic.{pointwise}
use Rattle.std.specs.List.{list_all}
use Rattle.format.specs.Bytes.{Bytes, eq_list, before, lacks, zeros}
use Rattle.format.specs.Names.{components_from, components, ok_component, ok_components, ok_name, compare, common}
use Rattle.format_laws.proofs.Tests.{by-test, clash, and-inv, else-inv, and-left-comm}
use Rattle.format_laws.proofs.Lists.{eq_list-true, part_length, part-cons}
use Rattle.format_laws.proofs.Names.{ok_name-length}
use Rattle.fields.specs.Begun.{Begun}
use Rattle.fields.specs.Words.{little}

-- ---- components

-- a text differs from a shorter one
longer-differs : (s t : List ℕ) → length t < length s → eq_list s t ≡ false
longer-differs s t h = by-test (eq_list s t) (λ e. let q : length s ≡ length t = ap length (eq_list-true s t e) in absurd (omega arith)) (λ e. e)

-- none of those that may not be is so long
pub long-component : (c : List ℕ) → 4 < length c → ok_component c ≡ true
unfolding ok_component
long-component c h =
    rw (
      longer-differs c [] (omega arith),
      longer-differs c (46 ∷ []) (omega arith),
      longer-differs c (46 ∷ 46 ∷ []) (omega arith),
      longer-differs c (46 ∷ 103 ∷ 105 ∷ 116 ∷ []) (omega arith),
    )

-- ---- texts, from a place on

module _ (b : ℕ) (s : List ℕ) (i : ℕ) where
  pub before-end : length s ≤ i → before b (drop i s) ≡ 0
  unfolding before
  before-end h = rw (drop_of_length-le s h)

  pub before_here : i < length s → get_or s i 0 ≡ b → before b (drop i s) ≡ 0
  unfolding before
  before_here h e = rw (drop-cons s i 0 h, eq-eqb _ _ e)

  pub before-later : i < length s → (get_or s i 0 ≡ b → ⊥) → before b (drop i s) ≡ before b (drop (i + 1) s) + 1
  unfolding before
  before-later h e = rw (drop-cons s i 0 h, ne_eqb _ _ e, add-one i) (sym (add-one _))

module _ (b : ℕ) (s : List ℕ) (i e : ℕ) where
  pub lacks-end : e ≤ i → lacks b (take (e - i) (drop i s)) ≡ true
  unfolding lacks
  lacks-end h = let z : e - i ≡ 0 = omega arith in rw z

  pub lacks-step : i < e → e ≤ length s → (get_or s i 0 ≡ b → ⊥) → lacks b (take (e - i) (drop i s)) ≡ lacks b (take (e - (i + 1)) (drop (i + 1) s))
  unfolding lacks
  lacks-step inside within h = rw (part-cons s i e inside within, ne_eqb _ _ h)

-- two texts, each from the place i on
module _ (s t : List ℕ) (i : ℕ) where
  module _ (more : i < length s) (short : length t ≤ i) where
    pub common-short : common (drop i s) (drop i t) ≡ 0
    unfolding common
    common-short = rw (drop-cons s i 0 more, drop_of_length-le t short)

    pub compare-short : compare (drop i s) (drop i t) ≡ Greater
    unfolding compare
    compare-short = rw (drop-cons s i 0 more, drop_of_length-le t short)

  module _ (end : length s ≤ i) where
    pub common-end : common (drop i s) (drop i t) ≡ 0
    unfolding common
    common-end = rw (drop_of_length-le s end)

    pub compare-long : i < length t → compare (drop i s) (drop i t) ≡ Less
    unfolding compare
    compare-long l = rw (drop-cons t i 0 l, drop_of_length-le s end)

    pub compare-end : length t ≤ i → compare (drop i s) (drop i t) ≡ Equal
    unfolding compare
    compare-end l = rw (drop_of_length-le s end, drop_of_length-le t l)

  -- one of them has ended
  pub common-out : (i < length s → length t ≤ i) → common (drop i s) (drop i t) ≡ 0
  common-out h =
      by-test (ltb i (length s))
      (λ e. let more = ltb-true i (length s) e in common-short more (h more))
      (λ e. common-end (ltb-false i (length s) e))

  module _ (more : i < length s) (also : i < length t) where
    pub common-step : get_or s i 0 ≡ get_or t i 0 → common (drop i s) (drop i t) ≡ common (drop (i + 1) s) (drop (i + 1) t) + 1
    unfolding common
    common-step e = rw (drop-cons s i 0 more, drop-cons t i 0 also, eq-eqb _ _ e, add-one i) (sym (add-one _))

    pub common-differ : (get_or s i 0 ≡ get_or t i 0 → ⊥) → common (drop i s) (drop i t) ≡ 0
    unfolding common
    common-differ e = rw (drop-cons s i 0 more, drop-cons t i 0 also, ne_eqb _ _ e)

    pub compare-below : get_or s i 0 < get_or t i 0 → compare (drop i s) (drop i t) ≡ Less
    unfolding compare
    compare-below e = rw (drop-cons s i 0 more, drop-cons t i 0 also, lt-ltb _ _ e)

    pub compare-above : get_or t i 0 < get_or s i 0 → compare (drop i s) (drop i t) ≡ Greater
    unfolding compare
    compare-above e =
        let g : get_or t i 0 ≤ get_or s i 0 = omega arith in
        rw (drop-cons s i 0 more, drop-cons t i 0 also, le-ltb _ _ g, lt-ltb _ _ e)

-- ---- the definitions of the format in the words of the library

-- a test and the rest, both ways of writing it
and-cond : (b c : Bool) → (b && c) ≡ cond b c false
and-cond true c = refl
and-cond false c = refl

-- equality of slices
pub eq_list-pointwise : (s t : List ℕ) → pointwise eqb s t ≡ eq_list s t
unfolding eq_list
eq_list-pointwise [] [] = refl
eq_list-pointwise [] (y ∷ t) = refl
eq_list-pointwise (x ∷ s) [] = refl
eq_list-pointwise (x ∷ s) (y ∷ t) = and-cond (eqb x y) (pointwise eqb s t) ∙ ap (λ (r : Bool). cond (eqb x y) r false) (eq_list-pointwise s t)

-- whether all bytes pass a test
pub zeros-all : (s : List ℕ) → list_all (λ (x : ℕ). eqb x 0) s ≡ zeros s
unfolding zeros
zeros-all [] = refl
zeros-all (x ∷ s) = ap (λ (r : Bool). eqb x 0 && r) (zeros-all s)

-- ---- numbers of several bytes

-- the number of eight bytes
pub little-eight : (s : List ℕ) (a : ℕ)
    → little 8 s a ≡ get_or s a 0 + 256 * get_or s (a + 1) 0 + 65536 * get_or s (a + 2) 0 + 16777216 * get_or s (a + 3) 0 + 4294967296 * get_or s (a + 4) 0 + 1099511627776 * get_or s (a + 5) 0 + 281474976710656 * get_or s (a + 6) 0 + 72057594037927936 * get_or s (a + 7) 0
unfolding little
little-eight s a = simp add_assoc (omega arith)

-- a number shows its low byte and what is above it
low_byte : (a b x y : ℕ) → a < 256 → b < 256 → a + 256 * x ≡ b + 256 * y → (a ≡ b) × (x ≡ y)
low_byte a b x y h l e = (omega arith, omega arith)

-- n bytes that make the same number are the same
pub common-many : (n : ℕ) (s t : List ℕ) (i : ℕ) → Bytes s → Bytes t → i + n ≤ length s → i + n ≤ length t → little n s i ≡ little n t i
    → common (drop i s) (drop i t) ≡ n + common (drop (i + n) s) (drop (i + n) t)
unfolding little
common-many zero s t i p q h l e = simp unary_clauses (omega arith)
common-many (suc n) s t i p q h l e =
    let (low, high) = low_byte (get_or s i 0) (get_or t i 0) _ _ (p i) (q i) e in
    let at : i + 1 + n ≡ i + suc n = omega arith in
    let more : common (drop (i + 1) s) (drop (i + 1) t) ≡ n + common (drop (i + 1 + n) s) (drop (i + 1 + n) t) = common-many n s t (i + 1) p q (omega arith) (omega arith) high in
    omega (arith, common-step s t i (omega arith) (omega arith) low, rw at at more)

-- ---- the workspace

-- s, copied whole to a place of d
pub copied : (d s : List ℕ) (at : ℕ) → paste d at s (length s) ≡ take at d ++ (s ++ drop (at + length s) d)
copied d s at = rw (take-length, append_assoc)

-- ---- names

-- whether the rest s of a name is sound, part being what was read of its component in hand
unfoldable pub ok_rest : List ℕ → List ℕ → Bool
ok_rest part s = lacks 0 s && ok_components (components_from part s)

module _ (part s : List ℕ) (e : ℕ) where
  pub ok_rest-end : length s ≤ e → ok_rest part (drop e s) ≡ ok_component part
  unfolding ok_rest lacks components_from ok_components
  ok_rest-end h = rw (drop_of_length-le s h) (and-true (ok_component part))

  module _ (inside : e < length s) where
    pub ok_rest-nul : get_or s e 0 ≡ 0 → ok_rest part (drop e s) ≡ false
    unfolding ok_rest lacks
    ok_rest-nul z = rw (drop-cons s e 0 inside, z)

    pub ok_rest-slash : get_or s e 0 ≡ 47 → ok_rest part (drop e s) ≡ (ok_component part && ok_rest [] (drop (e + 1) s))
    unfolding ok_rest lacks components_from ok_components
    ok_rest-slash z = rw (drop-cons s e 0 inside, z, add-one) (and-left-comm (lacks 0 (drop (suc e) s)) (ok_component part) _)

    pub ok_rest-other : (get_or s e 0 ≡ 0 → ⊥) → (get_or s e 0 ≡ 47 → ⊥) → ok_rest part (drop e s) ≡ ok_rest (part ++ (get_or s e 0 ∷ [])) (drop (e + 1) s)
    unfolding ok_rest lacks components_from
    ok_rest-other z w = rw (drop-cons s e 0 inside, ne_eqb _ _ z, ne_eqb _ _ w, add-one)

-- within the limit the components decide
pub ok_name-in : (s : List ℕ) → length s ≤ 8192 → ok_name s ≡ ok_rest [] s
unfolding ok_name ok_rest lacks components components_from ok_components ok_component eq_list
ok_name-in [] h = refl
ok_name-in (x ∷ s) h = let some : 1 ≤ length (x ∷ s) = omega arith in rw (le-leb _ _ some, le-leb _ _ h)

-- ---- the beginning of a sound name

-- a NUL, a slash, or another byte
by_byte {ℓ} : {X : Type ℓ} (b : ℕ) → (b ≡ 0 → X) → (b ≡ 47 → X) → ((b ≡ 0 → ⊥) → (b ≡ 47 → ⊥) → X) → X
by_byte b nul slash other =
    by-test (eqb b 0) (λ z. nul (eqb-true b 0 z)) (λ z. by-test (eqb b 47) (λ w. slash (eqb-true b 47 w)) (λ w. other (eqb-false b 0 z) (eqb-false b 47 w)))

-- the steps of a look, at the first byte of the rest
rest-nul : (part s : List ℕ) (b : ℕ) → b ≡ 0 → ok_rest part (b ∷ s) ≡ false
rest-nul part s b e = ok_rest-nul part (b ∷ s) 0 (omega arith) e

rest-slash : (part s : List ℕ) (b : ℕ) → b ≡ 47 → ok_rest part (b ∷ s) ≡ (ok_component part && ok_rest [] s)
rest-slash part s b e = ok_rest-slash part (b ∷ s) 0 (omega arith) e

rest-good : (part s : List ℕ) (b : ℕ) → b ≡ 47 → ok_component part ≡ true → ok_rest part (b ∷ s) ≡ ok_rest [] s
rest-good part s b e good = rest-slash part s b e ∙ rw good

rest-other : (part s : List ℕ) (b : ℕ) → (b ≡ 0 → ⊥) → (b ≡ 47 → ⊥) → ok_rest part (b ∷ s) ≡ ok_rest (part ++ (b ∷ [])) s
rest-other part s b z w = ok_rest-other part (b ∷ s) 0 (omega arith) z w

-- q is sound as far as it goes: what follows decides, after being what was read of its component in hand
record BeginningPassed (part q : List ℕ) : Type 0 where
  after : List ℕ
  same : (s : List ℕ) → ok_rest part (q ++ s) ≡ ok_rest after s

-- the beginning of what is sound is so
passed : (part q rest : List ℕ) → ok_rest part (q ++ rest) ≡ true → BeginningPassed part q
passed part [] rest e = record { after = part; same = λ s. refl }
passed part (b ∷ q) rest e =
    by_byte b
    (λ z. clash e (rest-nul part (q ++ rest) b z))
    (λ w.
    let (good, more) = and-inv (ok_component part) (ok_rest [] (q ++ rest)) (sym (rest-slash part (q ++ rest) b w) ∙ e) in
    let p = passed [] q rest more in
    record { after = p.after; same = λ s. rest-good part (q ++ s) b w good ∙ p.same s })
    (λ z w.
    let p = passed (part ++ (b ∷ [])) q rest (sym (rest-other part (q ++ rest) b z w) ∙ e) in
    record { after = p.after; same = λ s. rest-other part (q ++ s) b z w ∙ p.same s })

-- after a slash a component begins
past_slash : (q u t : List ℕ) → ok_rest [] (q ++ (47 ∷ u)) ≡ true → ok_rest [] (q ++ (47 ∷ t)) ≡ ok_rest [] t
past_slash q u t e =
    let p = passed [] q (47 ∷ u) e in
    let (good, _) = and-inv (ok_component p.after) (ok_rest [] u) (sym (rest-slash p.after u 47 refl) ∙ sym (p.same (47 ∷ u)) ∙ e) in
    p.same (47 ∷ t) ∙ rest-good p.after t 47 refl good

-- two components in hand of more than four bytes: which of them it is does not count
long-parts : (part other t : List ℕ) → 4 < length part → 4 < length other → ok_rest part t ≡ ok_rest other t
long-parts part other [] h l = ok_rest-end part [] 0 (omega arith) ∙ long-component part h ∙ sym (ok_rest-end other [] 0 (omega arith) ∙ long-component other l)
long-parts part other (b ∷ t) h l =
    by_byte b
    (λ z. rest-nul part t b z ∙ sym (rest-nul other t b z))
    (λ w. rest-good part t b w (long-component part h) ∙ sym (rest-good other t b w (long-component other l)))
    (λ z w.
    rest-other part t b z w
    ∙ long-parts (part ++ (b ∷ [])) (other ++ (b ∷ [])) t (simp length-append (omega arith)) (simp length-append (omega arith))
    ∙ sym (rest-other other t b z w))

-- nor where w, which has no slash and is part of something sound, brings both there
past-part : (w u t part other : List ℕ) → lacks 47 w ≡ true → ok_rest part (w ++ u) ≡ true → 4 < length part + length w → 4 < length other + length w
    → ok_rest part (w ++ t) ≡ ok_rest other (w ++ t)
unfolding lacks
past-part [] u t part other f e h l = long-parts part other t (omega arith) (omega arith)
past-part (b ∷ w) u t part other f e h l =
    let (n, none) = else-inv (eqb b 47) (lacks 47 w) f in
    by_byte b
    (λ z. clash e (rest-nul part (w ++ u) b z))
    (λ y. absurd (eqb-false b 47 n y))
    (λ z y.
    rest-other part (w ++ t) b z y
    ∙ past-part w u t (part ++ (b ∷ [])) (other ++ (b ∷ [])) none (sym (rest-other part (w ++ u) b z y) ∙ e) (simp length-append (omega arith)) (simp length-append (omega arith))
    ∙ sym (rest-other other (w ++ t) b z y))

-- a name whose first kept bytes begin a sound one, looked at from the place j on
module _ (s : List ℕ) (kept j : ℕ) (within : kept ≤ length s) (short : length s ≤ 8192) (begun : Begun (take kept s)) (inside : j ≤ kept) where
  begun-at : ok_rest [] (take j s ++ (take (kept - j) (drop j s) ++ begun.rest)) ≡ true
  begun-at =
      let all : j + (kept - j) ≡ kept = omega arith in
      let whole : take kept s ≡ take j s ++ take (kept - j) (drop j s) = ap (λ (n : ℕ). take n s) (sym all) ∙ take-add j (kept - j) s in
      let (_, few) = ok_name-length (take kept s ++ begun.rest) begun.ok in
      rw (← append_assoc) (rw whole at (sym (ok_name-in (take kept s ++ begun.rest) few) ∙ begun.ok))

  seam : ok_name s ≡ ok_rest [] (take j s ++ drop j s)
  seam = ok_name-in s short ∙ rw take-append-drop

  past : (n : ℕ) → ok_name (drop n s) ≡ ok_rest [] (drop n s)
  past n = ok_name-in (drop n s) (simp length-drop (omega arith))

  pub look-slash : j < kept → get_or s j 0 ≡ 47 → ok_name (drop (j + 1) s) ≡ ok_name s
  look-slash more is =
      let here : drop j s ≡ 47 ∷ drop (j + 1) s = rw (drop-cons s j 0 (omega arith), is, add-one) in
      let sound : ok_rest [] (take j s ++ (47 ∷ (take (kept - (j + 1)) (drop (j + 1) s) ++ begun.rest))) ≡ true = rw (part-cons s j kept more within, is) at begun-at in
      past (j + 1) ∙ sym (seam ∙ rw here (past_slash (take j s) _ (drop (j + 1) s) sound))

  pub look-part : 4 < kept - j → lacks 47 (take (kept - j) (drop j s)) ≡ true → ok_name (drop j s) ≡ ok_name s
  look-part long none =
      let p = passed [] (take j s) _ begun-at in
      let w = take (kept - j) (drop j s) in
      let t = drop (kept - j) (drop j s) in
      let size : length w ≡ kept - j = part_length s j kept within in
      let is : w ++ t ≡ drop j s = take-append-drop (kept - j) (drop j s) in
      past j ∙ sym (seam ∙ p.same (drop j s)
      ∙ rw is at (past-part w begun.rest t p.after [] none (sym (p.same (w ++ begun.rest)) ∙ begun-at) (omega arith) (omega arith)))
