-- Laws of a table of siblings: one more is put down, all are. w is the width of an object name.
use mathlib.Core.Path.{◌≡◌, refl, sym, ap, subst, ◌∙◌}
use mathlib.Core.List.{List}
use mathlib.Core.Bool.{true, false}
use Prim.Native.Nat.{ℕ, ◌+◌, ◌-◌, ◌≤◌, ◌<◌}
use native.Mathlib.Omega.{arith}
use lib.ListN.{length, get_or, set, drop}
use lib.Seq.{get_or-set_same, get_or-set_other}
use lib.Dec.{eqb}
use borrow.Author.Tests.{eqb-true, eqb-false, eq-eqb, ne_eqb}
use Rattle.format.specs.Bytes.{eq_list}
use Rattle.format.specs.Records.{Forest, nil}
use Rattle.format.specs.Layout.{distinct}
use Rattle.tree_counts.specs.Counts.{child}
use Rattle.format_laws.proofs.Tests.{by-test}
use Rattle.format_laws.proofs.Lists.{eq_list-true}
use Rattle.tree_nodes.specs.Flat.{trees_length, name_of, Reads}
use Rattle.tree_nodes.proofs.Trees.{reads-empty}
use Rattle.tree_table.proofs.Slots.{slot-most, slot_same, key-same}
use Rattle.tree_table.specs.Keys.{key_in, slot_in}
use Rattle.tree_search.specs.Siblings.{Last}
use Rattle.tree_search.specs.Table.{slot_for, HasKey, place_at, with_place, Inside, PutDown}
use Rattle.tree_search.proofs.Siblings.{last_one, last-next, last_on}

-- tables with the same keys and the same seed
pub record SameKeys (from slots : ℕ) (t u : List ℕ) : Type 0 where
  pub keys : (j : ℕ) → from ≤ j → j < from + slots → get_or t j 0 ≡ get_or u j 0
  pub first : get_or t 3072 0 ≡ get_or u 3072 0
  pub second : get_or t 3073 0 ≡ get_or u 3073 0

-- a pass over siblings that has come to a place: those before it were put down
pub record Placing (w from slots : ℕ) (d : List ℕ) (f : Forest) (t : List ℕ) (place left : ℕ) : Type 0 where
  pub last : Last w d f place left
  pub is : PutDown w from slots d f t last.siblings

-- ---- a table whose keys are from a slot on

module _ (from slots : ℕ) (many : 512 ≤ slots) where
  -- the slot of a name is one of the table's
  pub name-least : (t y : List ℕ) → from ≤ slot_for from slots t y
  unfolding slot_for slot_in
  name-least t y = omega arith

  pub name-most : (t y : List ℕ) → slot_for from slots t y < from + slots
  unfolding slot_for
  name-most t y = slot-most from slots t (key_in t y) many

  module _ (t u : List ℕ) (same : SameKeys from slots t u) (y : List ℕ) where
    same_key : key_in t y ≡ key_in u y
    same_key = key-same t u y same.first same.second

    same-slot : slot_for from slots t y ≡ slot_for from slots u y
    unfolding slot_for
    same-slot = slot_same from slots t u same.keys (key_in t y) many ∙ ap (slot_in from slots u) same_key

    same-has : HasKey from slots t y → HasKey from slots u y
    same-has has = ap (λ (i : ℕ). get_or u i 0) (sym same-slot) ∙ sym (same.keys (slot_for from slots t y) (name-least t y) (name-most t y)) ∙ has ∙ same_key

  -- what was put down is put down in a table with the same keys and numbers
  pub put_same : {w : ℕ} (d : List ℕ) (f : Forest) (t u : List ℕ) (rest : Forest) → SameKeys from slots u t
      → ((i : ℕ) → from ≤ i → i < from + slots → place_at slots u i ≡ place_at slots t i) → PutDown w from slots d f t rest → PutDown w from slots d f u rest
  put_same {w} d f t u rest keys same h = record {
    last = λ i a b two. subst (λ (n : ℕ). Last w d f (n - 2) 1) (sym (same i a b)) (h.last i a b (subst (λ (n : ℕ). 2 ≤ n) (same i a b) two));
    none = λ y has z. h.none y (same-has u t keys y has) (number_is y ∙ z);
    one = λ y has two e.
        h.one y (same-has u t keys y has) (subst (λ (n : ℕ). 2 ≤ n) (sym (number_is y)) two)
        (subst (λ (n : ℕ). eq_list y (name_of (drop (n - 2) d)) ≡ false) (sym (number_is y)) e);
  }
    where
      number_is : (y : List ℕ) → place_at slots t (slot_for from slots t y) ≡ place_at slots u (slot_for from slots u y)
      number_is y = sym (same (slot_for from slots t y) (name-least t y) (name-most t y)) ∙ ap (place_at slots u) (sym (same-slot u t keys y))

  -- ---- no sibling is put down

  module _ (d t : List ℕ) (clear : (i : ℕ) → from ≤ i → i < from + slots → place_at slots t i ≡ 0) where
    pub clear-inside : (at : ℕ) → Inside from slots d at t
    clear-inside at = record { most = λ i a b. omega (arith, clear i a b); least = λ i a b two. absurd (omega (arith, clear i a b)) }

    clear-put : {w : ℕ} (f : Forest) → PutDown w from slots d f t f
    clear-put f = record {
      last = λ i a b two. absurd (omega (arith, clear i a b));
      none = λ y has z. refl;
      one = λ y has two e. absurd (omega (arith, clear (slot_for from slots t y) (name-least t y) (name-most t y)));
    }

    pub placing-start : {w : ℕ} (f : Forest) (at k m : ℕ) → distinct f ≡ true → Reads w (drop at d) f k m → Placing w from slots d f t at k
    placing-start f at k m differ r = record { last = record { siblings = f; taken = m; reads = r; differ = differ; part = λ name x e. e }; is = clear-put f }

  pub placing-end : {w : ℕ} (d : List ℕ) (f : Forest) (t : List ℕ) (place left : ℕ) → Placing w from slots d f t place left → left ≤ 0 → PutDown w from slots d f t nil
  placing-end {w} d f t place left h l = subst (PutDown w from slots d f t) (reads-empty _ _ _ _ h.last.reads l) h.is

  -- ---- the table t fits an array

  module _ (t : List ℕ) (fits : from + slots + slots ≤ 3072) (long : length t ≡ 3126) where
    -- the sibling at a place is put down
    module _ {w : ℕ} (d : List ℕ) (f : Forest) (place left : ℕ) (rest : Last w d f place left) (some_left : 0 < left)
        (next : ℕ) (is : next ≡ place + trees_length w 1 (drop place d)) (h : PutDown w from slots d f t rest.siblings) where
      abbrev here : ℕ
      here = slot_for from slots t (name_of (drop place d))

      here-most : here < from + slots
      here-most = name-most t (name_of (drop place d))

      here-least : from ≤ here
      here-least = name-least t (name_of (drop place d))

      after : Last w d f next (left - 1)
      after = last-next d f place left rest some_left next is

      -- of another name than the sibling's
      pass : (y : List ℕ) → eq_list y (name_of (drop place d)) ≡ false → child y rest.siblings ≡ child y after.siblings
      unfolding after
      pass y e = last_on d f place left rest some_left y e next is

      key-missing : eqb (get_or t here 0) (key_in t (name_of (drop place d))) ≡ false → PutDown w from slots d f t after.siblings
      key-missing not_in = record {
        last = h.last;
        none = λ y has n. h.none y has n ∙ pass y (other y has);
        one = λ y has two e. h.one y has two e ∙ pass y (other y has);
      }
        where
          other : (y : List ℕ) → HasKey from slots t y → eq_list y (name_of (drop place d)) ≡ false
          other y has =
              by-test (eq_list y (name_of (drop place d)))
              (λ e. absurd (eqb-false _ _ not_in (subst (λ (x : List ℕ). HasKey from slots t x) (eq_list-true y (name_of (drop place d)) e) has)))
              (λ e. e)

      module _ (v : ℕ) where
        abbrev with_it : List ℕ
        with_it = set t (slots + here) v

        with_keys : SameKeys from slots with_it t
        with_keys = record {
          keys = λ j a b. get_or-set_other t (slots + here) j v 0 (λ e. omega (arith, here-least));
          first = get_or-set_other t (slots + here) 3072 v 0 (λ e. omega (arith, here-most));
          second = get_or-set_other t (slots + here) 3073 v 0 (λ e. omega (arith, here-most));
        }

        number-here : place_at slots with_it here ≡ v
        number-here = get_or-set_same t (slots + here) v 0 (omega (arith, here-most))

        number-other : (j : ℕ) → eqb j here ≡ false → place_at slots with_it j ≡ place_at slots t j
        number-other j e = get_or-set_other t (slots + here) (slots + j) v 0 (λ i. eqb-false j here e (omega arith))

        other_name : (y : List ℕ) → eqb (slot_for from slots t y) here ≡ false → eq_list y (name_of (drop place d)) ≡ false
        other_name y e =
            by-test (eq_list y (name_of (drop place d)))
            (λ i. absurd (eqb-false _ _ e (ap (slot_for from slots t) (eq_list-true y (name_of (drop place d)) i))))
            (λ i. i)

        slot_is : (y : List ℕ) → slot_for from slots with_it y ≡ slot_for from slots t y
        slot_is y = same-slot with_it t with_keys y

        key-there : (2 ≤ v → Last w d f (v - 2) 1) → (v ≡ 0 → ⊥)
            → ((y : List ℕ) → HasKey from slots t y → slot_for from slots t y ≡ here → 2 ≤ v → eq_list y (name_of (drop (v - 2) d)) ≡ false → child y f ≡ child y after.siblings)
            → PutDown w from slots d f with_it after.siblings
        key-there two not-zero only = record {
          last = λ i a b more.
              by-test (eqb i here)
              (λ e.
              let n : place_at slots with_it i ≡ v = ap (place_at slots with_it) (eqb-true i here e) ∙ number-here in
              subst (λ (x : ℕ). Last w d f (x - 2) 1) (sym n) (two (subst (λ (x : ℕ). 2 ≤ x) n more)))
              (λ e. subst (λ (x : ℕ). Last w d f (x - 2) 1) (sym (number-other i e)) (h.last i a b (subst (λ (x : ℕ). 2 ≤ x) (number-other i e) more)));
          none = λ y has z.
              let n : place_at slots with_it (slot_for from slots t y) ≡ 0 = ap (place_at slots with_it) (sym (slot_is y)) ∙ z in
              by-test (eqb (slot_for from slots t y) here)
              (λ e. absurd (not-zero (sym number-here ∙ ap (place_at slots with_it) (sym (eqb-true _ _ e)) ∙ n)))
              (λ e. h.none y (same-has with_it t with_keys y has) (sym (number-other _ e) ∙ n) ∙ pass y (other_name y e));
          one = λ y has more e.
              let s : place_at slots with_it (slot_for from slots with_it y) ≡ place_at slots with_it (slot_for from slots t y) = ap (place_at slots with_it) (slot_is y) in
              by-test (eqb (slot_for from slots t y) here)
              (λ q.
              let n : place_at slots with_it (slot_for from slots with_it y) ≡ v = s ∙ ap (place_at slots with_it) (eqb-true _ _ q) ∙ number-here in
              only y (same-has with_it t with_keys y has) (eqb-true _ _ q) (subst (λ (x : ℕ). 2 ≤ x) n more) (subst (λ (x : ℕ). eq_list y (name_of (drop (x - 2) d)) ≡ false) n e))
              (λ q.
              let n : place_at slots with_it (slot_for from slots with_it y) ≡ place_at slots t (slot_for from slots t y) = s ∙ number-other _ q in
              h.one y (same-has with_it t with_keys y has) (subst (λ (x : ℕ). 2 ≤ x) n more) (subst (λ (x : ℕ). eq_list y (name_of (drop (x - 2) d)) ≡ false) n e)
              ∙ pass y (other_name y q));
        }

      put_first : place_at slots t here ≡ 0 → PutDown w from slots d f (set t (slots + here) (place + 2)) after.siblings
      put_first free =
          let e : place + 2 - 2 ≡ place = omega arith in
          key-there (place + 2)
          (λ two. subst (λ (x : ℕ). Last w d f x 1) (sym e) (last_one d f place left rest some_left))
          (λ z. omega arith)
          (λ y has s two q. h.none y has (ap (place_at slots t) s ∙ free) ∙ pass y (subst (λ (x : ℕ). eq_list y (name_of (drop x d)) ≡ false) e q))

      put-more : PutDown w from slots d f (set t (slots + here) 1) after.siblings
      put-more = key-there 1 (λ two. absurd (omega arith)) (λ z. omega arith) (λ y has s two q. absurd (omega arith))

      put_on : PutDown w from slots d f (with_place from slots d place t) after.siblings
      unfolding with_place
      put_on =
          by-test (eqb (get_or t here 0) (key_in t (name_of (drop place d))))
          (λ q. by-test (eqb (place_at slots t here) 0) (λ z. rw (q, z) (put_first (eqb-true _ _ z))) (λ z. rw (q, z) put-more))
          (λ q. rw q (key-missing q))

    pub placing-on : {w : ℕ} (d : List ℕ) (f : Forest) (place left : ℕ) → Placing w from slots d f t place left → 0 < left
        → (next : ℕ) → next ≡ place + trees_length w 1 (drop place d) → Placing w from slots d f (with_place from slots d place t) next (left - 1)
    placing-on d f place left h l next is = record { last = after d f place left h.last l next is h.is; is = put_on d f place left h.last l next is h.is }

    -- what holds of a number that was set, and of what is put down elsewhere
    set-number : (P : ℕ → Type 0) (i j v : ℕ) → i < from + slots → P v → P (place_at slots t j) → P (place_at slots (set t (slots + i) v) j)
    set-number P i j v l a b =
        by-test (eqb j i)
        (λ e. subst P (sym (ap (place_at slots (set t (slots + i) v)) (eqb-true j i e) ∙ get_or-set_same t (slots + i) v 0 (omega arith))) a)
        (λ e. subst P (sym (get_or-set_other t (slots + i) (slots + j) v 0 (λ x. eqb-false j i e (omega arith)))) b)

    set-inside : (d : List ℕ) (at i v : ℕ) → i < from + slots → v ≤ length d + 2 → (2 ≤ v → at + 2 ≤ v) → Inside from slots d at t → Inside from slots d at (set t (slots + i) v)
    set-inside d at i v l a b h = record {
      most = λ j k m. set-number (λ x. x ≤ length d + 2) i j v l a (h.most j k m);
      least = λ j k m. set-number (λ x. 2 ≤ x → at + 2 ≤ x) i j v l b (h.least j k m);
    }

    pub place_inside : (d : List ℕ) (at place : ℕ) → at ≤ place → place ≤ length d → Inside from slots d at t → Inside from slots d at (with_place from slots d place t)
    unfolding with_place
    place_inside d at place least most h =
        let name = name_of (drop place d) in
        by-test (eqb (get_or t (slot_for from slots t name) 0) (key_in t name))
        (λ q.
        by-test (eqb (place_at slots t (slot_for from slots t name)) 0)
        (λ z. rw (q, z) (set-inside d at (slot_for from slots t name) (place + 2) (name-most t name) (omega arith) (λ two. omega arith) h))
        (λ z. rw (q, z) (set-inside d at (slot_for from slots t name) 1 (name-most t name) (omega arith) (λ two. absurd (omega arith)) h)))
        (λ q. rw q h)

-- ---- a slot that was looked at: the key of a name, and the slot of that key

module _ (from slots : ℕ) (t name : List ℕ) (key i : ℕ) (is_key : key ≡ key_in t name) (is-slot : i ≡ slot_in from slots t key) where
  slot-for : i ≡ slot_for from slots t name
  unfolding slot_for
  slot-for = is-slot ∙ ap (slot_in from slots t) is_key

  pub has_key : get_or t i 0 ≡ key → HasKey from slots t name
  has_key e = ap (λ (j : ℕ). get_or t j 0) (sym slot-for) ∙ e ∙ is_key

  pub number-for : place_at slots t i ≡ place_at slots t (slot_for from slots t name)
  number-for = ap (place_at slots t) slot-for

-- that of the sibling at a place, which is put down
module _ (from slots : ℕ) (d : List ℕ) (place : ℕ) (t : List ℕ) (key i : ℕ) (is_key : key ≡ key_in t (name_of (drop place d))) (is-slot : i ≡ slot_in from slots t key) where
  abbrev name : List ℕ
  name = name_of (drop place d)

  pub place-not : (get_or t i 0 ≡ key → ⊥) → t ≡ with_place from slots d place t
  unfolding with_place
  place-not e =
      rw (ne_eqb (get_or t (slot_for from slots t name) 0) (key_in t name) (λ q. e (ap (λ (j : ℕ). get_or t j 0) (slot-for from slots t name key i is_key is-slot) ∙ q ∙ sym is_key)))

  module _ (there : get_or t i 0 ≡ key) where
    pub place-first : place_at slots t i ≡ 0 → set t (slots + i) (place + 2) ≡ with_place from slots d place t
    unfolding with_place
    place-first e =
        rw
        (eq-eqb (get_or t (slot_for from slots t name) 0) (key_in t name) (has_key from slots t name key i is_key is-slot there), eq-eqb (place_at slots t (slot_for from slots t name)) 0 (sym (number-for from slots t name key i is_key is-slot) ∙ e))
        (ap (λ (j : ℕ). set t (slots + j) (place + 2)) (slot-for from slots t name key i is_key is-slot))

    pub place-more : (place_at slots t i ≡ 0 → ⊥) → set t (slots + i) 1 ≡ with_place from slots d place t
    unfolding with_place
    place-more e =
        rw
        (eq-eqb (get_or t (slot_for from slots t name) 0) (key_in t name) (has_key from slots t name key i is_key is-slot there), ne_eqb (place_at slots t (slot_for from slots t name)) 0 (λ z. e (number-for from slots t name key i is_key is-slot ∙ z)))
        (ap (λ (j : ℕ). set t (slots + j) 1) (slot-for from slots t name key i is_key is-slot))
