-- Laws of the array: what is known of it as it changes. w is the width of an object name.
use mathlib.Core.Path.{◌≡◌, refl, ap, ◌∙◌}
use mathlib.Core.List.{List}
use mathlib.Core.Bool.{true}
use Prim.Native.Nat.{ℕ, ◌+◌, ◌*◌, ◌-◌, ◌≤◌, ◌<◌}
use native.Mathlib.Omega.{arith}
use lib.ListN.{length, get_or, set, drop, length-set}
use lib.Seq.{get_or-set_same, get_or-set_other}
use lib.Dec.{eqb}
use Rattle.format.specs.Records.{Forest, nil}
use Rattle.format.specs.Layout.{distinct}
use Rattle.format_laws.proofs.Tests.{by-test}
use Rattle.tree_nodes.specs.Flat.{trees_length, name_of, Reads}
use Rattle.tree_table.specs.Keys.{key_in, SeedOnly}
use Rattle.tree_table.proofs.Slots.{set-zero}
use Rattle.tree_search.specs.declared.table.Region.{Region}
use Rattle.tree_search.specs.declared.table.Region.TheVariants as R
use Rattle.tree_search.specs.Table.{slot_for, place_at, with_place, Inside, PutDown, TableKnown, Known, Vacant, first_slot, slots_of, list_of}
use Rattle.tree_search.proofs.Frames.{table_stays, row_stays}
use Rattle.tree_search.proofs.Places.{SameKeys, Placing, name-least, name-most, put_same, clear-inside, place_inside, placing-start, placing-on, placing-end}

-- ---- where a table is

pub region-many : (region : Region) → 512 ≤ slots_of region
region-many R.Short = omega arith
region-many R.Long = omega arith

pub region-fits : (region : Region) → first_slot region + slots_of region + slots_of region ≤ 2560
region-fits R.Short = omega arith
region-fits R.Long = omega arith

pub list-least : (region : Region) → 3074 ≤ list_of region
list-least R.Short = omega arith
list-least R.Long = omega arith

pub list-most : (region : Region) → list_of region ≤ 3076
list-most R.Short = omega arith
list-most R.Long = omega arith

-- a table that is of no list
pub no-list : {w : ℕ} (from slots list : ℕ) (d t : List ℕ) → get_or t (list + 1) 0 ≡ 0 → TableKnown w from slots list d t
no-list from slots list d t none = record { inside = λ some. absurd (omega arith); is = λ some. absurd (omega arith) }

-- what is known of one of the tables
pub known-table : {w : ℕ} (region : Region) (d t : List ℕ) → Known w d t → TableKnown w (first_slot region) (slots_of region) (list_of region) d t
known-table R.Short d t known = known.short_lists
known-table R.Long d t known = known.long_lists

-- ---- the array is of no list

-- a number of a list is 0
module _ (t : List ℕ) (clear : (i : ℕ) → i < 52 → get_or t (3074 + i) 0 ≡ 0) where
  list-none : (list : ℕ) → 3074 ≤ list → list < 3126 → get_or t list 0 ≡ 0
  list-none list a b = let e : 3074 + (list - 3074) ≡ list = omega arith in ap (λ (i : ℕ). get_or t i 0) (omega (arith, e)) ∙ clear (list - 3074) (omega arith)

  pub reset-known : {w : ℕ} → length t ≡ 3126 → (d : List ℕ) → Known w d t
  reset-known long d = record {
    long = long;
    short_lists = no-list 0 512 3074 d t (list-none 3075 (omega arith) (omega arith));
    long_lists = no-list 1024 768 3076 d t (list-none 3077 (omega arith) (omega arith));
    rows = λ j l. record { is = λ some. absurd (omega (arith, list-none (3078 + j * 3 + 1) (omega arith) (omega arith))) };
  }

  pub reset-vacant : length t ≡ 3126 → (region : Region) → Vacant region t
  reset-vacant long R.Short = record { long = long; none = list-none 3075 (omega arith) (omega arith) }
  reset-vacant long R.Long = record { long = long; none = list-none 3077 (omega arith) (omega arith) }

-- ---- only cells of one table and of its list change

pub record Within (region : Region) (t t' : List ℕ) : Type 0 where
  pub long : length t' ≡ length t
  pub same : (i : ℕ) → (first_slot region ≤ i → i < first_slot region + slots_of region + slots_of region → ⊥) → (i ≡ list_of region → ⊥) → (i ≡ list_of region + 1 → ⊥) → get_or t' i 0 ≡ get_or t i 0

-- all else is known as before
pub known-within : {w : ℕ} (region : Region) (d t t' : List ℕ) → Within region t t' → TableKnown w (first_slot region) (slots_of region) (list_of region) d t' → Known w d t → Known w d t'
known-within R.Short d t t' kept table known = record {
  long = kept.long ∙ known.long;
  short_lists = table;
  long_lists =
      table_stays 1024 768 3076 d t t' (λ i a b. kept.same i (λ x y. omega arith) (λ e. omega arith) (λ e. omega arith))
      (kept.same 3072 (λ x y. omega arith) (λ e. omega arith) (λ e. omega arith))
      (kept.same 3073 (λ x y. omega arith) (λ e. omega arith) (λ e. omega arith))
      (kept.same 3076 (λ x y. omega arith) (λ e. omega arith) (λ e. omega arith))
      (kept.same 3077 (λ x y. omega arith) (λ e. omega arith) (λ e. omega arith))
      (omega arith) known.long_lists;
  rows = λ j l.
      row_stays (2560 + j * 32) (3078 + j * 3) d t t' (λ i a b. kept.same i (λ x y. omega arith) (λ e. omega arith) (λ e. omega arith))
      (kept.same (3078 + j * 3) (λ x y. omega arith) (λ e. omega arith) (λ e. omega arith))
      (kept.same (3078 + j * 3 + 1) (λ x y. omega arith) (λ e. omega arith) (λ e. omega arith))
      (known.rows j l);
}
known-within R.Long d t t' kept table known = record {
  long = kept.long ∙ known.long;
  short_lists =
      table_stays 0 512 3074 d t t' (λ i a b. kept.same i (λ x y. omega arith) (λ e. omega arith) (λ e. omega arith))
      (kept.same 3072 (λ x y. omega arith) (λ e. omega arith) (λ e. omega arith))
      (kept.same 3073 (λ x y. omega arith) (λ e. omega arith) (λ e. omega arith))
      (kept.same 3074 (λ x y. omega arith) (λ e. omega arith) (λ e. omega arith))
      (kept.same 3075 (λ x y. omega arith) (λ e. omega arith) (λ e. omega arith))
      (omega arith) known.short_lists;
  long_lists = table;
  rows = λ j l.
      row_stays (2560 + j * 32) (3078 + j * 3) d t t' (λ i a b. kept.same i (λ x y. omega arith) (λ e. omega arith) (λ e. omega arith))
      (kept.same (3078 + j * 3) (λ x y. omega arith) (λ e. omega arith) (λ e. omega arith))
      (kept.same (3078 + j * 3 + 1) (λ x y. omega arith) (λ e. omega arith) (λ e. omega arith))
      (known.rows j l);
}

-- ---- only cells of one table change

pub record CellsOnly (region : Region) (t t' : List ℕ) : Type 0 where
  pub long : length t' ≡ length t
  pub same : (i : ℕ) → (first_slot region ≤ i → i < first_slot region + slots_of region + slots_of region → ⊥) → get_or t' i 0 ≡ get_or t i 0

module _ (region : Region) (t t' : List ℕ) (cells : CellsOnly region t t') (vacant : Vacant region t) where
  pub vacant-stays : Vacant region t'
  vacant-stays = record {
    long = cells.long ∙ vacant.long;
    none = cells.same (list_of region + 1) (λ x y. omega (arith, region-fits region, list-least region)) ∙ vacant.none;
  }

  pub known-stays : {w : ℕ} (d : List ℕ) → Known w d t → Known w d t'
  known-stays d = known-within region d t t' (record { long = cells.long; same = λ i a b c. cells.same i a }) (no-list _ _ _ d t' vacant-stays.none)

-- one of them is set
pub set-cell : (region : Region) (t : List ℕ) (i v : ℕ) → first_slot region ≤ i → i < first_slot region + slots_of region + slots_of region → CellsOnly region t (set t i v)
set-cell region t i v a b = record { long = length-set t i v; same = λ j h. get_or-set_other t i j v 0 (λ e. h (omega arith) (omega arith)) }

-- n of them are cleared
pub clear-cells : (region : Region) (t t' : List ℕ) (from n : ℕ) → length t' ≡ length t → ((i : ℕ) → (from ≤ i → i < from + n → ⊥) → get_or t' i 0 ≡ get_or t i 0)
    → first_slot region ≤ from → from + n ≤ first_slot region + slots_of region + slots_of region → CellsOnly region t t'
clear-cells region t t' from n long same a b = record { long = long; same = λ i h. same i (λ x y. h (omega arith) (omega arith)) }

-- the sibling at a place is put down
pub place-cells : (region : Region) (d : List ℕ) (place : ℕ) (t : List ℕ) → CellsOnly region t (with_place (first_slot region) (slots_of region) d place t)
unfolding with_place
place-cells region d place t =
    let name = name_of (drop place d) in
    let a = name-least (first_slot region) (slots_of region) (region-many region) t name in
    let b = name-most (first_slot region) (slots_of region) (region-many region) t name in
    by-test (eqb (get_or t (slot_for (first_slot region) (slots_of region) t name) 0) (key_in t name))
    (λ q. rw q (set-cell region t (slots_of region + slot_for (first_slot region) (slots_of region) t name) _ (omega arith) (omega arith)))
    (λ q. rw q (record { long = refl; same = λ i h. refl }))

-- ---- a table is of a list

module _ (region : Region) (t : List ℕ) (at k : ℕ) (long : length t ≡ 3126) where
  abbrev listed : List ℕ
  listed = set (set t (list_of region) at) (list_of region + 1) k

  list-within : Within region t listed
  list-within = record {
    long = length-set (set t (list_of region) at) (list_of region + 1) k ∙ length-set t (list_of region) at;
    same = λ i a b c. get_or-set_other (set t (list_of region) at) (list_of region + 1) i k 0 c ∙ get_or-set_other t (list_of region) i at 0 b;
  }

  list-place : get_or listed (list_of region) 0 ≡ at
  list-place =
      get_or-set_other (set t (list_of region) at) (list_of region + 1) (list_of region) k 0 (λ e. omega arith)
      ∙ get_or-set_same t (list_of region) at 0 (omega (arith, list-most region))

  list-number : get_or listed (list_of region + 1) 0 ≡ k
  list-number = get_or-set_same (set t (list_of region) at) (list_of region + 1) k 0 (simp length-set (omega (arith, list-most region)))

  cell_same : (i : ℕ) → i < 3074 → get_or listed i 0 ≡ get_or t i 0
  cell_same i l =
      get_or-set_other (set t (list_of region) at) (list_of region + 1) i k 0 (λ e. omega (arith, list-least region))
      ∙ get_or-set_other t (list_of region) i at 0 (λ e. omega (arith, list-least region))

  -- all of its siblings were put down
  list-known : {w : ℕ} (d : List ℕ) → Known w d t → Inside (first_slot region) (slots_of region) d at t
      → ((f : Forest) (m : ℕ) → distinct f ≡ true → Reads w (drop at d) f k m → PutDown w (first_slot region) (slots_of region) d f t nil) → Known w d listed
  list-known {w} d known inside is = known-within region d t listed list-within table known
    where
      number_is : (i : ℕ) → first_slot region ≤ i → i < first_slot region + slots_of region → place_at (slots_of region) listed i ≡ place_at (slots_of region) t i
      number_is i a b = cell_same (slots_of region + i) (omega (arith, region-fits region))

      keys-same : SameKeys (first_slot region) (slots_of region) listed t
      keys-same = record { keys = λ j a b. cell_same j (omega (arith, region-fits region)); first = cell_same 3072 (omega arith); second = cell_same 3073 (omega arith) }

      table : TableKnown w (first_slot region) (slots_of region) (list_of region) d listed
      table = record {
        inside = λ some. record {
          most = λ i a b. rw (number_is i a b) (inside.most i a b);
          least = λ i a b. rw (number_is i a b, list-place) (inside.least i a b);
        };
        is = λ some f m differ r. put_same (first_slot region) (slots_of region) (region-many region) d f t listed nil keys-same number_is (is f m differ (rw (list-place, list-number) at r));
      }

-- ---- a pass that puts down the k siblings at a place has come to another place

pub record Filling (w : ℕ) (region : Region) (d : List ℕ) (at k : ℕ) (t : List ℕ) (place left : ℕ) : Type 0 where
  pub least : at ≤ place
  pub most : place ≤ length d
  pub vacant : Vacant region t
  pub known : Known w d t
  pub inside : Inside (first_slot region) (slots_of region) d at t
  pub is : (f : Forest) (m : ℕ) → distinct f ≡ true → Reads w (drop at d) f k m → Placing w (first_slot region) (slots_of region) d f t place left

module _ (region : Region) (d : List ℕ) (at k : ℕ) where
  -- the numbers are cleared
  pub filling-start : {w : ℕ} (t t' : List ℕ) (from slots : ℕ) → at ≤ length d → Vacant region t → Known w d t → from ≡ first_slot region → slots ≡ slots_of region
      → length t' ≡ length t → ((i : ℕ) → i < slots → get_or t' (from + slots + i) 0 ≡ 0) → ((i : ℕ) → (from + slots ≤ i → i < from + slots + slots → ⊥) → get_or t' i 0 ≡ get_or t i 0)
      → Filling w region d at k t' at k
  filling-start t t' from slots l vacant known is-from is-slots long clear same = record {
    least = omega arith;
    most = l;
    vacant = vacant-stays region t t' cells vacant;
    known = known-stays region t t' cells vacant d known;
    inside = clear-inside (first_slot region) (slots_of region) (region-many region) d t' empty at;
    is = λ f m differ r. placing-start (first_slot region) (slots_of region) (region-many region) d t' empty f at k m differ r;
  }
    where
      cells : CellsOnly region t t'
      cells = clear-cells region t t' (from + slots) slots long same (omega arith) (omega arith)

      empty : (i : ℕ) → first_slot region ≤ i → i < first_slot region + slots_of region → place_at (slots_of region) t' i ≡ 0
      empty i a b = let e : slots_of region + i ≡ from + slots + (i - from) = omega arith in ap (λ (j : ℕ). get_or t' j 0) e ∙ clear (i - from) (omega arith)

  module _ {w : ℕ} (t : List ℕ) (place left : ℕ) (x : Filling w region d at k t place left) where
    pub filling-on : 0 < left → (next rest : ℕ) → next ≡ place + trees_length w 1 (drop place d) → next ≤ length d → rest ≡ left - 1
        → Filling w region d at k (with_place (first_slot region) (slots_of region) d place t) next rest
    filling-on some_left next rest is l rest-is = record {
      least = omega (arith, x.least);
      most = l;
      vacant = vacant-stays region t _ (place-cells region d place t) x.vacant;
      known = known-stays region t _ (place-cells region d place t) x.vacant d x.known;
      inside = place_inside (first_slot region) (slots_of region) (region-many region) t (omega (arith, region-fits region)) x.vacant.long d at place x.least x.most x.inside;
      is = λ f m differ r. rw rest-is (placing-on (first_slot region) (slots_of region) (region-many region) t (omega (arith, region-fits region)) x.vacant.long d f place left (x.is f m differ r) some_left next is);
    }

    pub filling-end : left ≤ 0 → Known w d (set (set t (list_of region) at) (list_of region + 1) k)
    filling-end l =
        list-known region t at k x.vacant.long d x.known x.inside
        (λ f m differ r. placing-end (first_slot region) (slots_of region) (region-many region) d f t place left (x.is f m differ r) l)

-- ---- a table is of no list

module _ (region : Region) (t : List ℕ) (long : length t ≡ 3126) where
  pub unlist-vacant : Vacant region (set (set t (list_of region) 0) (list_of region + 1) 0)
  unlist-vacant = record { long = (list-within region t 0 0 long).long ∙ long; none = list-number region t 0 0 long }

  pub unlist-known : {w : ℕ} (d : List ℕ) → Known w d t → Known w d (set (set t (list_of region) 0) (list_of region + 1) 0)
  unlist-known d = known-within region d t _ (list-within region t 0 0 long) (no-list _ _ _ d _ (list-number region t 0 0 long))

-- of no list and without keys: u is the array before these are cleared
pub begun : {w : ℕ} (region : Region) (d t u t' : List ℕ) (list from n : ℕ) → list ≡ list_of region → from ≡ first_slot region → n ≡ slots_of region → Known w d t → u ≡ set (set t list 0) (list + 1) 0
    → length t' ≡ length u → ((i : ℕ) → (from ≤ i → i < from + n → ⊥) → get_or t' i 0 ≡ get_or u i 0) → Known w d t' × Vacant region t'
begun region d t u t' list from n is-list is-from is_n known is long same = (known-stays region u t' cells vacant d (rw (is, is-list) (unlist-known region t known.long d known)), vacant-stays region u t' cells vacant)
  where
    cells : CellsOnly region u t'
    cells = clear-cells region u t' from n long same (omega arith) (omega arith)

    vacant : Vacant region u
    vacant = rw (is, is-list) (unlist-vacant region t known.long)

-- ---- the seed changes, and no table is of a list

module _ (d t u : List ℕ) (seed : SeedOnly t u) where
  abbrev seeded : List ℕ
  seeded = set (set (set (set u 3074 0) 3075 0) 3076 0) 3077 0

  seed-same : (i : ℕ) → (3072 ≤ i → i < 3078 → ⊥) → get_or seeded i 0 ≡ get_or t i 0
  seed-same i h =
      get_or-set_other (set (set (set u 3074 0) 3075 0) 3076 0) 3077 i 0 0 (λ e. h (omega arith) (omega arith))
      ∙ get_or-set_other (set (set u 3074 0) 3075 0) 3076 i 0 0 (λ e. h (omega arith) (omega arith))
      ∙ get_or-set_other (set u 3074 0) 3075 i 0 0 (λ e. h (omega arith) (omega arith))
      ∙ get_or-set_other u 3074 i 0 0 (λ e. h (omega arith) (omega arith))
      ∙ seed.same i (λ e. h (omega arith) (omega arith)) (λ e. h (omega arith) (omega arith))

  short_none : get_or seeded 3075 0 ≡ 0
  short_none =
      get_or-set_other (set (set (set u 3074 0) 3075 0) 3076 0) 3077 3075 0 0 (λ e. omega arith)
      ∙ get_or-set_other (set (set u 3074 0) 3075 0) 3076 3075 0 0 (λ e. omega arith)
      ∙ set-zero (set u 3074 0) 3075

  pub seed-known : {w : ℕ} → Known w d t → Known w d seeded
  seed-known known = record {
    long = simp length-set (seed.long ∙ known.long);
    short_lists = no-list 0 512 3074 d seeded short_none;
    long_lists = no-list 1024 768 3076 d seeded (set-zero (set (set (set u 3074 0) 3075 0) 3076 0) 3077);
    rows = λ j l.
        row_stays (2560 + j * 32) (3078 + j * 3) d t seeded (λ i a b. seed-same i (λ x y. omega arith))
        (seed-same (3078 + j * 3) (λ x y. omega arith))
        (seed-same (3078 + j * 3 + 1) (λ x y. omega arith))
        (known.rows j l);
  }
