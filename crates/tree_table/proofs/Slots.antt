-- Laws of keys and their slots.
use mathlib.Core.Path.{◌≡◌, refl, sym, ap, ◌∙◌}
use mathlib.Core.List.{List, [], ◌∷◌}
use Prim.Native.Nat.{ℕ, zero, suc, ◌+◌, ◌*◌, ◌-◌, ◌/◌, ◌%◌, ◌≤◌, ◌<◌}
use native.Mathlib.Nat.{mod-lt}
use native.Mathlib.Omega.{arith}
use lib.ListN.{length, get_or, set, take, drop, drop_of_length-le, length-set}
use lib.Seq.{drop-cons, drop-drop, get_or-set_same, get_or-set_other}
use lib.Dec.{eqb, ltb}
use borrow.Author.Tests.{eq-eqb, ne_eqb, eqb-true, eqb-false, ltb-true, ltb-false}
use Rattle.std.proofs.Common.{get_or-take, get_or-drop}
use Rattle.std.specs.Simd.{first_chunks}
use Rattle.format_laws.proofs.Tests.{by-test}
use Rattle.tree_table.specs.Keys.{fold, step_key, last_key, key_from, key_in, step_of, next_slot, probe, slot_in, SeedOnly}

-- ---- the key of a name, two bytes at a time

module _ (m n h : ℕ) (s : List ℕ) (i : ℕ) where
  pub key-end : length s ≤ i → key_from m n h (drop i s) ≡ last_key h n
  unfolding key_from
  key-end l = rw (drop_of_length-le s l)

  pub key-odd : i < length s → length s ≤ i + 1 → key_from m n h (drop i s) ≡ last_key (step_key m h (get_or s i 0 + 65536)) n
  unfolding key_from
  key-odd l e = let z : length s ≤ suc i = omega arith in rw (drop-cons s i 0 l, drop_of_length-le s z)

  pub key_more : i + 1 < length s → key_from m n h (drop i s) ≡ key_from n m (step_key m h (get_or s i 0 + get_or s (i + 1) 0 * 256)) (drop (i + 2) s)
  unfolding key_from
  key_more l =
      let l₁ : i < length s = omega arith in
      let l₂ : suc i < length s = omega arith in
      let e : i + 1 ≡ suc i = omega arith in
      let e₂ : i + 2 ≡ suc (suc i) = omega arith in
      rw (e, e₂, drop-cons s i 0 l₁, drop-cons s (suc i) 0 l₂)

-- the bytes of pair number i
pair_at : (k i : ℕ) (s : List ℕ) → i < k → get_or (first_chunks 2 k s) i [] ≡ take 2 (drop (i * 2) s)
pair_at zero i s l = absurd (omega arith)
pair_at (suc k) zero s l = refl
pair_at (suc k) (suc i) s l =
    let e : 2 + i * 2 ≡ suc i * 2 = omega arith in
    pair_at k i (drop 2 s) (omega arith) ∙ ap (take 2) (drop-drop (i * 2) 2 s ∙ ap (λ (n : ℕ). drop n s) e)

pub pair-byte : (s : List ℕ) (p : List (List ℕ)) (k i j : ℕ) → p ≡ first_chunks 2 k s → i < k → j < 2 → get_or (get_or p i []) j 0 ≡ get_or s (i * 2 + j) 0
pair-byte s p k i j e l few = ap (λ (x : List (List ℕ)). get_or (get_or x i []) j 0) e ∙ rw (pair_at k i s l, get_or-take, get_or-drop)

-- ---- the slot of a key, one after another

module _ (from slots : ℕ) where
  module _ (t : List ℕ) (key i : ℕ) where
    pub probe-end : (n : ℕ) → n ≤ 0 → probe from slots t key n i ≡ i
    unfolding probe
    probe-end n l = let z : n ≡ 0 = omega arith in rw z

    module _ (n : ℕ) (more : 0 < n) where
      some_more : n ≡ suc (n - 1)
      some_more = omega arith

      pub probe-here : get_or t (from + i) 0 ≡ key → probe from slots t key n i ≡ i
      unfolding probe
      probe-here e = rw (some_more, eq-eqb (get_or t (from + i) 0) key e)

      module _ (other : get_or t (from + i) 0 ≡ key → ⊥) where
        pub probe-empty : get_or t (from + i) 0 ≡ 0 → probe from slots t key n i ≡ i
        unfolding probe
        probe-empty e = rw (some_more, ne_eqb (get_or t (from + i) 0) key other, eq-eqb (get_or t (from + i) 0) 0 e)

        pub probe-on : (get_or t (from + i) 0 ≡ 0 → ⊥) → (j : ℕ) → j ≡ next_slot slots (step_of key) i → probe from slots t key n i ≡ probe from slots t key (n - 1) j
        unfolding probe
        probe-on e j is = ap (λ (x : ℕ). probe from slots t key x i) some_more ∙ rw (is, ne_eqb (get_or t (from + i) 0) key other, ne_eqb (get_or t (from + i) 0) 0 e)

  pub slot_is : (t : List ℕ) (key i : ℕ) → probe from slots t key (slots - 1) (key % slots) ≡ i → from + i ≡ slot_in from slots t key
  unfolding slot_in
  slot_is t key i e = rw e

  next-most : 512 ≤ slots → (key i : ℕ) → i < slots → next_slot slots (step_of key) i < slots
  unfolding next_slot step_of
  next-most many key i l =
      by-test (ltb (i + (key / 65536 % 256 * 2 + 1)) slots)
      (λ e. rw e (ltb-true (i + (key / 65536 % 256 * 2 + 1)) slots e))
      (λ e. rw e (let z : slots ≤ i + (key / 65536 % 256 * 2 + 1) = ltb-false (i + (key / 65536 % 256 * 2 + 1)) slots e in omega arith))

  -- an empty slot gets a number: a key that had a slot which was not empty has one again
  module _ (t : List ℕ) (j x : ℕ) (empty : get_or t (from + j) 0 ≡ 0) where
    abbrev after : List ℕ
    after = set t (from + j) x

    stays_at : (i : ℕ) → (get_or t (from + i) 0 ≡ 0 → ⊥) → get_or after (from + i) 0 ≡ get_or t (from + i) 0
    stays_at i some = get_or-set_other t (from + j) (from + i) x 0 (λ e. some (ap (λ (k : ℕ). get_or t k 0) e ∙ empty))

    probe-stays : (key n i : ℕ) → (get_or t (from + probe from slots t key n i) 0 ≡ 0 → ⊥) → get_or after (from + probe from slots after key n i) 0 ≡ 0 → ⊥
    unfolding probe
    probe-stays key zero i some e = some (sym (stays_at i some) ∙ e)
    probe-stays key (suc n) i some e =
        by-test (eqb (get_or t (from + i) 0) key)
        (λ here. let some₁ : get_or t (from + i) 0 ≡ 0 → ⊥ = rw here at some in some₁ (sym (stays_at i some₁) ∙ (rw (stays_at i some₁, here) at e)))
        (λ other. by-test (eqb (get_or t (from + i) 0) 0)
        (λ none. some (rw (other, none) (eqb-true _ _ none)))
        (λ full. let some₁ : get_or t (from + i) 0 ≡ 0 → ⊥ = eqb-false _ _ full in probe-stays key n (next_slot slots (step_of key) i) (rw (other, full) at some) (rw (stays_at i some₁, other, full) at e)))

  -- an empty slot of a key gets that key, and stays its slot
  module _ (t : List ℕ) (key j : ℕ) (some : 0 < key) (room : from + j < length t) (empty : get_or t (from + j) 0 ≡ 0) where
    abbrev filled : List ℕ
    filled = set t (from + j) key

    probe-put : (n i : ℕ) → probe from slots t key n i ≡ j → probe from slots filled key n i ≡ j
    unfolding probe
    probe-put zero i e = e
    probe-put (suc n) i e =
        by-test (eqb (get_or t (from + i) 0) key)
        (λ here.
        let is : i ≡ j = rw here at e in
        let k : get_or t (from + i) 0 ≡ key = eqb-true _ _ here in
        let z : get_or t (from + i) 0 ≡ 0 = ap (λ (a : ℕ). get_or t (from + a) 0) is ∙ empty in
        absurd (omega arith))
        (λ other. by-test (eqb (get_or t (from + i) 0) 0)
        (λ none.
        let is : i ≡ j = rw (other, none) at e in
        let k : get_or filled (from + i) 0 ≡ key = ap (λ (a : ℕ). get_or filled (from + a) 0) is ∙ get_or-set_same t (from + j) key 0 room in
        rw (eq-eqb (get_or filled (from + i) 0) key k) is)
        (λ full. rw (stays_at t j key empty i (eqb-false _ _ full), other, full) (probe-put n (next_slot slots (step_of key) i) (rw (other, full) at e))))

    probe-own : (n i : ℕ) → probe from slots t key n i ≡ j → get_or filled (from + probe from slots filled key n i) 0 ≡ key
    probe-own n i e = rw (probe-put n i e) (get_or-set_same t (from + j) key 0 room)

  module _ (t : List ℕ) (key : ℕ) (empty : get_or t (slot_in from slots t key) 0 ≡ 0) where
    -- the empty slot of one key gets a number: any other's slot that was not empty is not
    pub slot-stays : (x other : ℕ) → (get_or t (slot_in from slots t other) 0 ≡ 0 → ⊥) → get_or (set t (slot_in from slots t key) x) (slot_in from slots (set t (slot_in from slots t key) x) other) 0 ≡ 0 → ⊥
    unfolding slot_in
    slot-stays x other = probe-stays t _ x empty other (slots - 1) (other % slots)

    pub slot-own : 0 < key → slot_in from slots t key < length t → get_or (set t (slot_in from slots t key) key) (slot_in from slots (set t (slot_in from slots t key) key) key) 0 ≡ key
    unfolding slot_in
    slot-own some room = probe-own t key _ some room empty (slots - 1) (key % slots) refl

  probe-most : 512 ≤ slots → (t : List ℕ) (key n i : ℕ) → i < slots → probe from slots t key n i < slots
  unfolding probe
  probe-most many t key zero i l = l
  probe-most many t key (suc n) i l =
      by-test (eqb (get_or t (from + i) 0) key)
      (λ e. rw e l)
      (λ e. by-test (eqb (get_or t (from + i) 0) 0) (λ q. rw (e, q) l) (λ q. rw (e, q) (probe-most many t key n (next_slot slots (step_of key) i) (next-most many key i l))))

  pub slot-most : (t : List ℕ) (key : ℕ) → 512 ≤ slots → slot_in from slots t key < from + slots
  unfolding slot_in
  slot-most t key many = let l : probe from slots t key (slots - 1) (key % slots) < slots = probe-most many t key (slots - 1) (key % slots) (mod-lt key (omega arith)) in omega arith

  -- only its keys decide the slot of a key
  module _ (t u : List ℕ) (same : (i : ℕ) → from ≤ i → i < from + slots → get_or t i 0 ≡ get_or u i 0) where
    probe-same : 512 ≤ slots → (key n i : ℕ) → i < slots → probe from slots t key n i ≡ probe from slots u key n i
    unfolding probe
    probe-same many key zero i l = refl
    probe-same many key (suc n) i l = rw (same (from + i) (omega arith) (omega arith), probe-same many key n (next_slot slots (step_of key) i) (next-most many key i l))

    pub slot_same : (key : ℕ) → 512 ≤ slots → slot_in from slots t key ≡ slot_in from slots u key
    unfolding slot_in
    slot_same key many = ap (λ (i : ℕ). from + i) (probe-same many key (slots - 1) (key % slots) (mod-lt key (omega arith)))

-- ---- the seed decides the key, and no slot is part of it

pub key-same : (t u s : List ℕ) → get_or t 3072 0 ≡ get_or u 3072 0 → get_or t 3073 0 ≡ get_or u 3073 0 → key_in t s ≡ key_in u s
unfolding key_in
key-same t u s a b = rw (a, b)

key-last : (h n : ℕ) → 0 < last_key h n
unfolding last_key step_key fold
key-last h n = omega arith

key-from : (m n h : ℕ) (s : List ℕ) → 0 < key_from m n h s
unfolding key_from
key-from m n h [] = key-last h n
key-from m n h (x ∷ []) = key-last (step_key m h (x + 65536)) n
key-from m n h (x ∷ y ∷ s) = key-from n m (step_key m h (x + y * 256)) s

pub key-some : (t s : List ℕ) → 0 < key_in t s
unfolding key_in
key-some t s = key-from _ _ 0 s

pub key-stays : (t s : List ℕ) (j x : ℕ) → j < 3072 → key_in (set t j x) s ≡ key_in t s
key-stays t s j x l = key-same (set t j x) t s (get_or-set_other t j 3072 x 0 (λ e. omega arith)) (get_or-set_other t j 3073 x 0 (λ e. omega arith))

-- ---- numbers that were set

pub set-zero : (t : List ℕ) (i : ℕ) → get_or (set t i 0) i 0 ≡ 0
set-zero [] i = refl
set-zero (x ∷ t) zero = refl
set-zero (x ∷ t) (suc i) = set-zero t i

-- the seed is set, or is as it was
pub seed-set : (t : List ℕ) (x y : ℕ) → SeedOnly t (set (set t 3072 x) 3073 y)
seed-set t x y = record { long = simp length-set; same = λ i p q. get_or-set_other (set t 3072 x) 3073 i y 0 q ∙ get_or-set_other t 3072 i x 0 p }

pub seed-same : (t : List ℕ) → SeedOnly t t
seed-same t = record { long = refl; same = λ i p q. refl }
