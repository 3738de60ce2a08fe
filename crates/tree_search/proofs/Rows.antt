-- Laws of the rows of cursors. w is the width of an object name.
use mathlib.Core.Path.{◌≡◌, refl, sym, ◌∙◌}
use mathlib.Core.List.{List}
use mathlib.Core.Bool.{true, false, not}
use Prim.Native.Nat.{ℕ, ◌+◌, ◌*◌, ◌≤◌, ◌<◌}
use native.Mathlib.Omega.{arith}
use lib.ListN.{length, get_or, set, length-set}
use lib.Seq.{get_or-set_same, get_or-set_other}
use lib.Dec.{eqb}
use borrow.Author.Tests.{eqb-true, eqb-false}
use Rattle.format_laws.proofs.Tests.{false-true, by-test, and-inv₃}
use Rattle.tree_table.specs.Keys.{is_of}
use Rattle.tree_search.specs.Siblings.{Cursor}
use Rattle.tree_search.specs.Table.{Cursors, RowKnown, Known}
use Rattle.tree_search.specs.Rows.{Moved, RowOf}
use Rattle.tree_search.proofs.Telling.{cursor-all}
use Rattle.tree_search.proofs.Frames.{table_stays, row_stays}

-- ---- a cursor that went on

-- no name was found
pub moved-past : {w : ℕ} (d : List ℕ) (at k : ℕ) (name : List ℕ) (place left : ℕ) → Cursor w d at k place left → Moved w d at k name false place left
moved-past d at k name place left cursor = record { cursor = cursor; told = λ e. false-true e }

-- ---- two numbers, one after the other, are set

module _ (t : List ℕ) (i x y : ℕ) where
  abbrev two : List ℕ
  two = set (set t i x) (i + 1) y

  two-length : length two ≡ length t
  two-length = length-set (set t i x) (i + 1) y ∙ length-set t i x

  two-other : (j : ℕ) → (j ≡ i → ⊥) → (j ≡ i + 1 → ⊥) → get_or two j 0 ≡ get_or t j 0
  two-other j a b = get_or-set_other (set t i x) (i + 1) j y 0 b ∙ get_or-set_other t i j x 0 a

  two-first : i + 1 < length t → get_or two i 0 ≡ x
  two-first l = get_or-set_other (set t i x) (i + 1) i y 0 (λ e. omega arith) ∙ get_or-set_same t i x 0 (omega arith)

  two-second : i + 1 < length t → get_or two (i + 1) 0 ≡ y
  two-second l = get_or-set_same (set t i x) (i + 1) y 0 (simp length-set l)

-- ---- the array changes in the row of one level and in its list alone

module _ {w : ℕ} (d t t' : List ℕ) (level : ℕ) (upper : level < 16) (known : Known w d t) (long : length t' ≡ 3126)
    (same : (i : ℕ) → (2560 + level * 32 ≤ i → i < 2560 + level * 32 + 32 → ⊥) → (3078 + level * 3 ≤ i → i < 3078 + level * 3 + 3 → ⊥) → get_or t' i 0 ≡ get_or t i 0)
    (own : RowKnown w (2560 + level * 32) (3078 + level * 3) d t')
  where
    before-rows : (i : ℕ) → i < 2560 → get_or t' i 0 ≡ get_or t i 0
    before-rows i l = same i (λ a b. omega arith) (λ a b. omega arith)

    after-rows : (i : ℕ) → 3072 ≤ i → i < 3078 → get_or t' i 0 ≡ get_or t i 0
    after-rows i h l = same i (λ a b. omega arith) (λ a b. omega arith)

    row-of-other : (j : ℕ) → j < 16 → (j ≡ level → ⊥) → RowKnown w (2560 + j * 32) (3078 + j * 3) d t'
    row-of-other j l other =
        row_stays (2560 + j * 32) (3078 + j * 3) d t t'
        (λ i a b. same i (λ x y. other (omega arith)) (λ x y. omega arith))
        (same (3078 + j * 3) (λ x y. omega arith) (λ x y. other (omega arith)))
        (same (3078 + j * 3 + 1) (λ x y. omega arith) (λ x y. other (omega arith)))
        (known.rows j l)

    pub known-row : Known w d t'
    known-row = record {
      long = long;
      short_lists = table_stays 0 512 3074 d t t'
          (λ i a b. before-rows i (omega arith))
          (after-rows 3072 (omega arith) (omega arith))
          (after-rows 3073 (omega arith) (omega arith))
          (after-rows 3074 (omega arith) (omega arith))
          (after-rows 3075 (omega arith) (omega arith))
          (omega arith)
          known.short_lists;
      long_lists = table_stays 1024 768 3076 d t t'
          (λ i a b. before-rows i (omega arith))
          (after-rows 3072 (omega arith) (omega arith))
          (after-rows 3073 (omega arith) (omega arith))
          (after-rows 3076 (omega arith) (omega arith))
          (after-rows 3077 (omega arith) (omega arith))
          (omega arith)
          known.long_lists;
      rows = λ j l. by-test (eqb j level) (λ e. rw (eqb-true j level e) own) (λ e. row-of-other j l (eqb-false j level e));
    }

-- ---- the row of a level that is of the k siblings at a place

module _ (d : List ℕ) (at k level : ℕ) (t : List ℕ) where
  -- it was of them before
  pub row-is-of : {w : ℕ} → level < 16 → at ≤ length d → 1 ≤ k → (list : ℕ) → list ≡ 3078 + level * 3 → is_of t list at k ≡ true → Known w d t → RowOf w d at k level t
  unfolding is_of
  row-is-of upper inside some list is e known =
      let i = and-inv₃ (not (eqb k 0)) (eqb (get_or t list 0) at) (eqb (get_or t (list + 1) 0) k) e in
      record { known = known; upper = upper; inside = inside; place = rw (sym is) (eqb-true _ _ i.1); number = rw (sym is) (eqb-true _ _ i.2); some = some }

  module _ {w : ℕ} (row : RowOf w d at k level t) where
    pub row-own : RowOf w d (get_or t (3078 + level * 3) 0) (get_or t (3078 + level * 3 + 1) 0) level t
    row-own = record { known = row.known; upper = row.upper; inside = rw row.place row.inside; place = refl; number = refl; some = rw row.number row.some }

    row-cursors : Cursors w (2560 + level * 32) d at k t
    row-cursors = rw (row.place, row.number) at ((row.known.rows level row.upper).is (rw row.number row.some))

    -- a cursor of it that is set
    pub cursor-at : (c : ℕ) → c < 16 → (i : ℕ) → i ≡ 2560 + level * 32 + c * 2 → (get_or t (i + 1) 0 ≡ 0 → ⊥) → (from : ℕ) → from ≡ get_or t i 0 → Cursor w d at k from (get_or t (i + 1) 0)
    cursor-at c l i is more from e = rw (e, is) (row-cursors.is c l (let m = rw is at more in omega arith))

    -- the number after its list is set
    pub mark_set : (i : ℕ) → i ≡ 3078 + level * 3 + 2 → (x : ℕ) → RowOf w d at k level (set t i x)
    mark_set i is x = record {
      known = known-row d t (set t i x) level row.upper row.known (length-set t i x ∙ row.known.long)
          (λ j a b. stays j (λ e. b (omega arith) (omega arith)))
          (row_stays (2560 + level * 32) (3078 + level * 3) d t (set t i x)
          (λ j a b. stays j (λ e. omega (arith, row.upper)))
          (stays (3078 + level * 3) (λ e. omega arith))
          (stays (3078 + level * 3 + 1) (λ e. omega arith))
          (row.known.rows level row.upper));
      upper = row.upper;
      inside = row.inside;
      place = stays (3078 + level * 3) (λ e. omega arith) ∙ row.place;
      number = stays (3078 + level * 3 + 1) (λ e. omega arith) ∙ row.number;
      some = row.some;
    }
      where
        stays : (j : ℕ) → (j ≡ i → ⊥) → get_or (set t i x) j 0 ≡ get_or t j 0
        stays j other = get_or-set_other t i j x 0 other

    -- a cursor of it is set
    module _ (c : ℕ) (l : c < 16) (i : ℕ) (is : i ≡ 2560 + level * 32 + c * 2) (place left : ℕ) (cursor : Cursor w d at k place left) where
      abbrev put : List ℕ
      put = two t i place left

      put-room : i + 1 < length t
      put-room = omega (arith, row.known.long, row.upper)

      put-cursors : Cursors w (2560 + level * 32) d at k put
      put-cursors = record {
        is = λ b h.
            by-test (eqb b c)
            (λ e. rw (eqb-true b c e, sym is, two-first t i place left put-room, two-second t i place left put-room) (λ some. cursor))
            (λ e.
            let other : b ≡ c → ⊥ = eqb-false b c e in
            rw (two-other t i place left (2560 + level * 32 + b * 2) (λ x. other (omega arith)) (λ x. omega arith), two-other t i place left (2560 + level * 32 + b * 2 + 1) (λ x. omega arith) (λ x. other (omega arith))) (row-cursors.is b h));
      }

      put-list : (j : ℕ) → 3078 ≤ j → get_or put j 0 ≡ get_or t j 0
      put-list j h = two-other t i place left j (λ x. omega (arith, row.upper)) (λ x. omega (arith, row.upper))

      put-place : get_or put (3078 + level * 3) 0 ≡ at
      put-place = put-list (3078 + level * 3) (omega arith) ∙ row.place

      put-number : get_or put (3078 + level * 3 + 1) 0 ≡ k
      put-number = put-list (3078 + level * 3 + 1) (omega arith) ∙ row.number

      pub cursor-set : RowOf w d at k level put
      cursor-set = record {
        known = known-row d t put level row.upper row.known (two-length t i place left ∙ row.known.long)
            (λ j a b. two-other t i place left j (λ x. a (omega arith) (omega arith)) (λ x. a (omega arith) (omega arith)))
            (record { is = rw (put-place, put-number) (λ some. put-cursors) });
        upper = row.upper;
        inside = row.inside;
        place = put-place;
        number = put-number;
        some = row.some;
      }

-- the row of a level was cleared: t' is the array after that. Its first cursor is at the first of k siblings, and its list is of these
module _ {w : ℕ} (d : List ℕ) (at k level : ℕ) (t t' : List ℕ) (inside : at ≤ length d) (known : Known w d t) (upper : level < 16) (some : 1 ≤ k)
    (row : ℕ) (is : row ≡ 2560 + level * 32 + 0 * 2) (list : ℕ) (list-is : list ≡ 3078 + level * 3)
    (long : length t' ≡ length t)
    (clear : (i : ℕ) → i < 32 → get_or t' (row + i) 0 ≡ 0)
    (same : (i : ℕ) → (row ≤ i → i < row + 32 → ⊥) → get_or t' i 0 ≡ get_or t i 0)
  where
    abbrev first : List ℕ
    first = two t' row at k

    abbrev new : List ℕ
    new = two first list at k

    row_room : row + 1 < length t'
    row_room = omega (arith, known.long)

    list-room : list + 1 < length first
    list-room = rw (two-length t' row at k) (omega (arith, known.long))

    new-first : get_or new row 0 ≡ at
    new-first = two-other first list at k row (λ e. omega arith) (λ e. omega arith) ∙ two-first t' row at k row_room

    new-second : get_or new (row + 1) 0 ≡ k
    new-second = two-other first list at k (row + 1) (λ e. omega arith) (λ e. omega arith) ∙ two-second t' row at k row_room

    new_none : (i : ℕ) → 2 ≤ i → i < 32 → get_or new (row + i) 0 ≡ 0
    new_none i h l =
        two-other first list at k (row + i) (λ e. omega arith) (λ e. omega arith)
        ∙ two-other t' row at k (row + i) (λ e. omega arith) (λ e. omega arith)
        ∙ clear i l

    new-cursors : Cursors w (2560 + level * 32) d at k new
    new-cursors = record { is = λ c l. by-test (eqb c 0) (λ e. is-first c (eqb-true c 0 e)) (λ e. is_none c l (eqb-false c 0 e)) }
      where
        is-first : (c : ℕ) → c ≡ 0 → 1 ≤ get_or new (2560 + level * 32 + c * 2 + 1) 0 → Cursor w d at k (get_or new (2560 + level * 32 + c * 2) 0) (get_or new (2560 + level * 32 + c * 2 + 1) 0)
        is-first c e = rw (e, sym is, new-first, new-second) (λ h. cursor-all d at k inside)

        is_none : (c : ℕ) → c < 16 → (c ≡ 0 → ⊥) → 1 ≤ get_or new (2560 + level * 32 + c * 2 + 1) 0 → Cursor w d at k (get_or new (2560 + level * 32 + c * 2) 0) (get_or new (2560 + level * 32 + c * 2 + 1) 0)
        is_none c l other h =
            let e : 2560 + level * 32 + c * 2 + 1 ≡ row + (c * 2 + 1) = omega arith in
            let z : get_or new (2560 + level * 32 + c * 2 + 1) 0 ≡ 0 = rw e (new_none (c * 2 + 1) (omega arith) (omega arith)) in
            absurd (omega arith)

    new-place : get_or new (3078 + level * 3) 0 ≡ at
    new-place = rw (sym list-is) (two-first first list at k list-room)

    new-number : get_or new (3078 + level * 3 + 1) 0 ≡ k
    new-number = rw (sym list-is) (two-second first list at k list-room)

    new-other : (i : ℕ) → (2560 + level * 32 ≤ i → i < 2560 + level * 32 + 32 → ⊥) → (3078 + level * 3 ≤ i → i < 3078 + level * 3 + 3 → ⊥) → get_or new i 0 ≡ get_or t i 0
    new-other i a b =
        two-other first list at k i (λ e. b (omega arith) (omega arith)) (λ e. b (omega arith) (omega arith))
        ∙ two-other t' row at k i (λ e. a (omega arith) (omega arith)) (λ e. a (omega arith) (omega arith))
        ∙ same i (λ x y. a (omega arith) (omega arith))

    pub row_new : RowOf w d at k level new
    row_new = record {
      known = known-row d t new level upper known (two-length first list at k ∙ two-length t' row at k ∙ long ∙ known.long) new-other
          (record { is = rw (new-place, new-number) (λ h. new-cursors) });
      upper = upper;
      inside = inside;
      place = new-place;
      number = new-number;
      some = some;
    }
