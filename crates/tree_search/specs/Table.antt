-- What the array holds while entries are walked over. Two tables: keys from a slot on, 0 where there is none, and after them for each slot the number 0
-- for no sibling, 1 for several, else 2 more than the place of one. Sixteen rows of 16 cursors, one row a level: two numbers for each cursor, its place and
-- how many siblings are from it on, 0 where it is not set. For each table and each row the list that it is of: its place and its number of siblings, 0 where
-- there is none. w is the width of an object name.
use Rattle.std.specs.Prelude.{◌≡◌, List, true, false, cond, ℕ, ◌+◌, ◌*◌, ◌-◌, ◌≤◌, ◌<◌, length, get_or, set, drop, eqb}
use Rattle.format.specs.Bytes.{eq_list}
use Rattle.format.specs.Records.{Forest, nil}
use Rattle.format.specs.Layout.{distinct}
use Rattle.tree_counts.specs.Counts.{child}
use Rattle.tree_nodes.specs.Flat.{name_of, Reads}
use Rattle.tree_table.specs.Keys.{key_in, slot_in}
use Rattle.tree_search.specs.Siblings.{Last, Cursor}
use Rattle.tree_search.specs.declared.table.Region.{Region}
use Rattle.tree_search.specs.declared.table.Region.TheVariants as R

-- ---- a table whose keys are from a slot on, as many as slots

-- the slot of a name's key, and whether that is in the table
unfoldable pub slot_for : ℕ → ℕ → List ℕ → List ℕ → ℕ
slot_for from slots t y = slot_in from slots t (key_in t y)

abbrev pub HasKey : ℕ → ℕ → List ℕ → List ℕ → Type 0
HasKey from slots t y = get_or t (slot_for from slots t y) 0 ≡ key_in t y

-- what is put down for slot i
abbrev pub place_at : ℕ → List ℕ → ℕ → ℕ
place_at slots t i = get_or t (slots + i) 0

-- the table with the sibling at a place put down, if its key is there
unfoldable pub with_place : ℕ → ℕ → List ℕ → ℕ → List ℕ → List ℕ
with_place from slots d place t =
    cond (eqb (get_or t (slot_for from slots t (name_of (drop place d))) 0) (key_in t (name_of (drop place d))))
    (set t (slots + slot_for from slots t (name_of (drop place d))) (cond (eqb (place_at slots t (slot_for from slots t (name_of (drop place d)))) 0) (place + 2) 1))
    t

-- what is put down lies in the data, from a place on
pub record Inside (from slots : ℕ) (d : List ℕ) (at : ℕ) (t : List ℕ) : Type 0 where
  pub most : (i : ℕ) → from ≤ i → i < from + slots → place_at slots t i ≤ length d + 2
  pub least : (i : ℕ) → from ≤ i → i < from + slots → 2 ≤ place_at slots t i → at + 2 ≤ place_at slots t i

-- of the siblings f all but those of rest were put down
pub record PutDown (w from slots : ℕ) (d : List ℕ) (f : Forest) (t : List ℕ) (rest : Forest) : Type 0 where
  pub last : (i : ℕ) → from ≤ i → i < from + slots → 2 ≤ place_at slots t i → Last w d f (place_at slots t i - 2) 1
  pub none : (y : List ℕ) → HasKey from slots t y → place_at slots t (slot_for from slots t y) ≡ 0 → child y f ≡ child y rest
  pub one : (y : List ℕ) → HasKey from slots t y → 2 ≤ place_at slots t (slot_for from slots t y) → eq_list y (name_of (drop (place_at slots t (slot_for from slots t y) - 2) d)) ≡ false → child y f ≡ child y rest

-- all siblings of the list that the table is of, which has its place and number at list
pub record TableKnown (w from slots list : ℕ) (d t : List ℕ) : Type 0 where
  pub inside : 1 ≤ get_or t (list + 1) 0 → Inside from slots d (get_or t list 0) t
  pub is : 1 ≤ get_or t (list + 1) 0 → (f : Forest) (m : ℕ) → distinct f ≡ true → Reads w (drop (get_or t list 0) d) f (get_or t (list + 1) 0) m → PutDown w from slots d f t nil

-- ---- a row of cursors

-- those that are set are cursors over the k siblings at a place
pub record Cursors (w row : ℕ) (d : List ℕ) (at k : ℕ) (t : List ℕ) : Type 0 where
  pub is : (c : ℕ) → c < 16 → 1 ≤ get_or t (row + c * 2 + 1) 0 → Cursor w d at k (get_or t (row + c * 2) 0) (get_or t (row + c * 2 + 1) 0)

-- over those of the list that the row is of
pub record RowKnown (w row list : ℕ) (d t : List ℕ) : Type 0 where
  pub is : 1 ≤ get_or t (list + 1) 0 → Cursors w row d (get_or t list 0) (get_or t (list + 1) 0) t

-- ---- the array

pub record Known (w : ℕ) (d t : List ℕ) : Type 0 where
  pub long : length t ≡ 3126
  pub short_lists : TableKnown w 0 512 3074 d t
  pub long_lists : TableKnown w 1024 768 3076 d t
  pub rows : (j : ℕ) → j < 16 → RowKnown w (2560 + j * 32) (3078 + j * 3) d t

-- where the keys of a table begin, how many slots it has, and where its list is
abbrev pub first_slot : Region → ℕ
first_slot R.Short = 0
first_slot R.Long = 1024

abbrev pub slots_of : Region → ℕ
slots_of R.Short = 512
slots_of R.Long = 768

abbrev pub list_of : Region → ℕ
list_of R.Short = 3074
list_of R.Long = 3076

-- a table is of no list
pub record Vacant (region : Region) (t : List ℕ) : Type 0 where
  pub long : length t ≡ 3126
  pub none : get_or t (list_of region + 1) 0 ≡ 0
