-- Laws of names chunk by chunk: when a chunk and what follows it differ, and what the table says of a name. w is the width of an object name.
use mathlib.Core.Path.{◌≡◌, refl, sym, ap, ◌∙◌}
use mathlib.Core.List.{List, [], ◌∷◌, ◌++◌}
use mathlib.Core.Bool.{Bool, true, false, cond, true≢false}
use Prim.Native.Nat.{ℕ, zero, suc, ◌+◌, ◌-◌, ◌≤◌, ◌<◌}
use native.Mathlib.Nat.{zero-add, suc-add}
use native.Mathlib.Omega.{arith}
use lib.ListN.{length, get_or, set, drop, length-set}
use lib.Dec.{eqb}
use borrow.Author.Tests.{eq-eqb, ne_eqb, eqb-true, eqb-false}
use Rattle.format.specs.Bytes.{eq_list}
use Rattle.format_laws.proofs.Tests.{else-inv}
use Rattle.format_laws.proofs.Lists.{eq_list-true, eq_list-swap}
use Rattle.std.specs.Prelude.{Some, None}
use Rattle.tree_nodes.specs.Flat.{trees_length, name_of, rest_of, names_of, has_name, names_differ}
use Rattle.tree_table.specs.Keys.{key_in, slot_in}
use Rattle.tree_table.proofs.Slots.{key-some, key-stays, slot-most, slot-own, slot-stays}
use Rattle.cache_tree.specs.Chunks.{slot_for, is_free, put_in, all_held, apart, rest_after, Filled}
use Rattle.cache_tree.proofs.Siblings.{names-none, names_more, rest_at}

-- ---- one list of names after another

has-by : (e h g : Bool) → cond e true (cond h true g) ≡ cond (cond e true h) true g
has-by true h g = refl
has-by false h g = refl

has-append : (x : List ℕ) (c l : List (List ℕ)) → has_name x (c ++ l) ≡ cond (has_name x c) true (has_name x l)
unfolding has_name
has-append x [] l = refl
has-append x (z ∷ c) l = rw (has-append x c l) (has-by (eq_list x z) (has_name x c) (has_name x l))

apart_by : (e h g v : Bool) → cond (cond e true h) false (cond g false v) ≡ cond (cond e true g) false (cond h false v)
apart_by true h g v = refl
apart_by false true true v = refl
apart_by false true false v = refl
apart_by false false true v = refl
apart_by false false false v = refl

apart_more : (x : List ℕ) (c l : List (List ℕ)) → apart (x ∷ c) l ≡ cond (has_name x l) false (apart c l)
unfolding apart has_name
apart_more x c [] = refl
apart_more x c (y ∷ l) = rw (apart_more x c l, eq_list-swap y x) (apart_by (eq_list x y) (has_name y c) (has_name x l) (apart c l))

apart_none : (l : List (List ℕ)) → apart [] l ≡ true
unfolding apart has_name
apart_none [] = refl
apart_none (x ∷ l) = apart_none l

append-by : (h a d : Bool) → cond h false (cond a d false) ≡ cond (cond h false a) d false
append-by true a d = refl
append-by false a d = refl

-- a list that differs in itself, and what follows it
differ-append : (c l : List (List ℕ)) → names_differ c ≡ true → names_differ (c ++ l) ≡ cond (apart c l) (names_differ l) false
unfolding names_differ
differ-append [] l e = rw (apart_none l)
differ-append (x ∷ c) l e =
    let i = else-inv (has_name x c) (names_differ c) e in
    rw (has-append x c l, i.0, differ-append c l i.1, apart_more x c l) (append-by (has_name x l) (apart c l) (names_differ l))

equal_by : (h g d v : Bool) → (d ≡ false → v ≡ false) → cond h false d ≡ false → cond (cond h true g) false v ≡ false
equal_by true g d v f e = refl
equal_by false true d v f e = refl
equal_by false false d v f e = f e

-- a list that does not differ in itself
equal-append : (c l : List (List ℕ)) → names_differ c ≡ false → names_differ (c ++ l) ≡ false
unfolding names_differ
equal-append [] l e = absurd (true≢false e)
equal-append (x ∷ c) l e = rw (has-append x c l) (equal_by (has_name x c) (has_name x l) (names_differ c) (names_differ (c ++ l)) (equal-append c l) e)

-- ---- what the table says of a name

free-is : (t x : List ℕ) (b : Bool) → is_free t x ≡ b → (b ≡ true → get_or t (slot_for t x) 0 ≡ 0) × (b ≡ false → get_or t (slot_for t x) 0 ≡ 0 → ⊥)
unfolding is_free
free-is t x b e = (λ f. eqb-true _ _ (e ∙ f), λ f. eqb-false _ _ (e ∙ f))

taken : (t x : List ℕ) → (get_or t (slot_for t x) 0 ≡ 0 → ⊥) → is_free t x ≡ false
unfolding is_free
taken t x e = ne_eqb _ _ e

module _ (t : List ℕ) (room : 3072 ≤ length t) (x : List ℕ) where
  slot-in : slot_for t x < 3072
  unfolding slot_for
  slot-in = let l : slot_in 0 3072 t (key_in t x) < 0 + 3072 = slot-most 0 3072 t (key_in t x) (omega arith) in omega arith

  abbrev more : List ℕ
  more = set t (slot_for t x) (key_in t x)

  same_key : (y : List ℕ) → key_in more y ≡ key_in t y
  same_key y = key-stays t y (slot_for t x) (key_in t x) slot-in

  module _ (free : get_or t (slot_for t x) 0 ≡ 0) where
    more-own : is_free more x ≡ false
    unfolding is_free slot_for
    more-own =
        let l : slot_for t x < 3072 = slot-in in
        let i : slot_in 0 3072 t (key_in t x) < length t = omega arith in
        let k : 0 < key_in t x = key-some t x in
        rw (same_key x, slot-own 0 3072 t (key_in t x) free k i) (ne_eqb (key_in t x) 0 (λ e. omega arith))

    more_stays : (y : List ℕ) → is_free t y ≡ false → is_free more y ≡ false
    unfolding is_free slot_for
    more_stays y e = rw (same_key y) (ne_eqb _ _ (slot-stays 0 3072 t (key_in t x) free (key_in t x) (key_in t y) (eqb-false _ _ e)))

  put-by : (b : Bool) → is_free t x ≡ b → (is_free (cond b more t) x ≡ false) × ((y : List ℕ) → is_free t y ≡ false → is_free (cond b more t) y ≡ false)
  put-by true e = let z = (free-is t x true e).0 refl in (more-own z, more_stays z)
  put-by false e = (e, λ y f. f)

  put-own : is_free (put_in t x) x ≡ false
  unfolding put_in
  put-own = (put-by (is_free t x) refl).0

  put-stays : (y : List ℕ) → is_free t y ≡ false → is_free (put_in t x) y ≡ false
  unfolding put_in
  put-stays = (put-by (is_free t x) refl).1

  all_more : (c : List (List ℕ)) → all_held t c ≡ true → all_held (put_in t x) (c ++ (x ∷ [])) ≡ true
  unfolding all_held
  all_more [] a = rw put-own
  all_more (y ∷ c) a =
      let i = else-inv (is_free t y) (all_held t c) a in
      rw (put-stays y i.0) (all_more c i.1)

put-by-length : (t x : List ℕ) (b : Bool) → length (cond b (set t (slot_for t x) (key_in t x)) t) ≡ length t
put-by-length t x true = simp length-set
put-by-length t x false = refl

pub put-length : (t v x : List ℕ) → v ≡ put_in t x → length v ≡ length t
unfolding put_in
put-length t v x e = rw e (put-by-length t x (is_free t x))

module _ (t x : List ℕ) where
  other-by : (y : List ℕ) (b : Bool) → eq_list x y ≡ b → is_free t y ≡ false → is_free t x ≡ true → b ≡ false
  other-by y true e m n = absurd (true≢false (sym n ∙ ap (is_free t) (eq_list-true x y e) ∙ m))
  other-by y false e m n = refl

  -- one whose slot is empty is not among those whose slots are taken
  not-held : (c : List (List ℕ)) → all_held t c ≡ true → is_free t x ≡ true → has_name x c ≡ false
  unfolding all_held has_name
  not-held [] a n = refl
  not-held (y ∷ c) a n =
      let i = else-inv (is_free t y) (all_held t c) a in
      rw (other-by y (eq_list x y) refl i.0 n) (not-held c i.1 n)

-- what the code does to the slot of a name
module _ (t x : List ℕ) (key slot : ℕ) (is_key : key ≡ key_in t x) (is-slot : slot ≡ slot_in 0 3072 t key) where
  slot-for : slot ≡ slot_for t x
  unfolding slot_for
  slot-for = is-slot ∙ ap (slot_in 0 3072 t) is_key

  slot-free : (b : Bool) → eqb (get_or t slot 0) 0 ≡ b → is_free t x ≡ b
  unfolding is_free
  slot-free b e = ap (λ (i : ℕ). eqb (get_or t i 0) 0) (sym slot-for) ∙ e

  pub put-new : get_or t slot 0 ≡ 0 → set t slot key ≡ put_in t x
  unfolding put_in
  put-new e = rw (slot-free true (eq-eqb _ _ e), ← slot-for, ← is_key)

  pub put-none : (get_or t slot 0 ≡ 0 → ⊥) → t ≡ put_in t x
  unfolding put_in
  put-none e = rw (slot-free false (ne_eqb _ _ e))

  pub free_other : get_or t slot 0 ≡ 0 → (c : List (List ℕ)) → all_held t c ≡ true → has_name x c ≡ false
  free_other e c a = not-held t x c a (slot-free true (eq-eqb _ _ e))

-- ---- the names of siblings and of those after them

after_one : (w n : ℕ) (s : List ℕ) → rest_after w (n + 1) s ≡ rest_of w (rest_after w n s)
unfolding rest_after
after_one w zero s = refl
after_one w (suc n) s = rw (suc-add n 1) (after_one w n (rest_of w s))

names-append : (w n j : ℕ) (s : List ℕ) → names_of w (n + j) s ≡ names_of w n s ++ names_of w j (rest_after w n s)
unfolding names_of rest_after
names-append w zero j s = simp zero-add
names-append w (suc n) j s = rw (suc-add n j) (ap (λ (l : List (List ℕ)). name_of s ∷ l) (names-append w n j (rest_of w s)))

pub after-start : (w : ℕ) (s : List ℕ) → s ≡ rest_after w 0 s
unfolding rest_after
after-start w s = refl

pub differ-start : (w : ℕ) (s : List ℕ) → names_differ (names_of w 0 s) ≡ true
unfolding names_differ names_of
differ-start w s = refl

pub held_start : (w : ℕ) (t s : List ℕ) → all_held t (names_of w 0 s) ≡ true
unfolding all_held names_of
held_start w t s = refl

pub apart-end : (w : ℕ) (c : List (List ℕ)) (d : List ℕ) (a k : ℕ) → k ≤ 0 → apart c (names_of w k (drop a d)) ≡ true
unfolding apart
apart-end w c d a k h = rw (names-none w k (drop a d) h)

module _ (w : ℕ) (c : List (List ℕ)) (d : List ℕ) (a k : ℕ) (some : 0 < k) where
  pub apart-not : has_name (name_of (drop a d)) c ≡ true → apart c (names_of w k (drop a d)) ≡ false
  unfolding apart
  apart-not e = rw (names_more w k (drop a d) some, e)

  pub apart_next : (r : ℕ) → r ≡ a + trees_length w 1 (drop a d) → has_name (name_of (drop a d)) c ≡ false → apart c (names_of w k (drop a d)) ≡ apart c (names_of w (k - 1) (drop r d))
  unfolding apart
  apart_next r is e = rw (names_more w k (drop a d) some, e, rest_at w d a r is)

-- n siblings of t, and u, what follows them
module _ (w n : ℕ) (t u : List ℕ) (at : u ≡ rest_after w n t) where
  names-split : (k : ℕ) → n ≤ k → names_of w k t ≡ names_of w n t ++ names_of w (k - n) u
  names-split k le =
      let q : k ≡ n + (k - n) = omega arith in
      ap (λ (j : ℕ). names_of w j t) q ∙ names-append w n (k - n) t ∙ ap (λ (v : List ℕ). names_of w n t ++ names_of w (k - n) v) (sym at)

  one_more : names_of w (n + 1) t ≡ names_of w n t ++ (name_of u ∷ [])
  unfolding names_of
  one_more = names-append w n 1 t ∙ ap (λ (v : List ℕ). names_of w n t ++ names_of w 1 v) (sym at)

  -- the chunk takes one more name
  pub fill-equal : (k : ℕ) → n < k → names_differ (names_of w n t) ≡ true → has_name (name_of u) (names_of w n t) ≡ true → names_differ (names_of w k t) ≡ false
  unfolding apart
  fill-equal k lt d e =
      let some : 0 < k - n = omega arith in
      let le : n ≤ k = omega arith in
      ap names_differ (names-split k le) ∙ differ-append (names_of w n t) (names_of w (k - n) u) d ∙ rw (names_more w (k - n) u some, e)

  pub fill-differ : names_differ (names_of w n t) ≡ true → has_name (name_of u) (names_of w n t) ≡ false → names_differ (names_of w (n + 1) t) ≡ true
  unfolding apart names_differ has_name
  fill-differ d e = ap names_differ one_more ∙ differ-append (names_of w n t) (name_of u ∷ []) d ∙ rw e

  pub fill-rest : (d : List ℕ) (a r : ℕ) → u ≡ drop a d → r ≡ a + trees_length w 1 (drop a d) → drop r d ≡ rest_after w (n + 1) t
  fill-rest d a r e is = rest_at w d a r is ∙ ap (rest_of w) (sym e ∙ at) ∙ sym (after_one w n t)

  pub fill-held : (old v : List ℕ) → 3072 ≤ length old → v ≡ put_in old (name_of u) → all_held old (names_of w n t) ≡ true → all_held v (names_of w (n + 1) t) ≡ true
  fill-held old v room is a = rw is (ap (all_held (put_in old (name_of u))) one_more ∙ all_more old room (name_of u) (names_of w n t) a)

  -- the chunk and the siblings after it
  module _ (k : ℕ) (le : n ≤ k) where
    pub chunk-equal : names_differ (names_of w n t) ≡ false → names_differ (names_of w k t) ≡ false
    chunk-equal e = ap names_differ (names-split k le) ∙ equal-append (names_of w n t) (names_of w (k - n) u) e

    module _ (d : names_differ (names_of w n t) ≡ true) where
      pub chunk-known : apart (names_of w n t) (names_of w (k - n) u) ≡ false → names_differ (names_of w k t) ≡ false
      chunk-known e = ap names_differ (names-split k le) ∙ differ-append (names_of w n t) (names_of w (k - n) u) d ∙ rw e

      pub chunk-apart : apart (names_of w n t) (names_of w (k - n) u) ≡ true → names_differ (names_of w k t) ≡ names_differ (names_of w (k - n) u)
      chunk-apart e = ap names_differ (names-split k le) ∙ differ-append (names_of w n t) (names_of w (k - n) u) d ∙ rw e

-- ---- the answer for a chunk

module _ {w : ℕ} (d : List ℕ) (a k : ℕ) (t : List ℕ) where
  pub filled-equal : names_differ (names_of w k (drop a d)) ≡ false → Filled w d a k t None
  filled-equal e = record { equal = λ q. e; next = λ y q. absurd (cc) }

  pub filled_next : (y n : ℕ) → n ≡ k → y ≤ length d → drop y d ≡ rest_after w n (drop a d) → names_differ (names_of w n (drop a d)) ≡ true → all_held t (names_of w n (drop a d)) ≡ true → Filled w d a k t (Some y)
  filled_next y n e l r f h = rw (← e) (record { equal = λ q. absurd (cc); next = λ x q. let i : x ≡ y = cc in rw i (l, r, f, h) })
