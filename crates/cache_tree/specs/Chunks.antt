-- Names whose keys are in a table, and names chunk by chunk. w is the width of an object name.
use Rattle.std.specs.Prelude.{◌≡◌, List, [], ◌∷◌, Bool, true, false, cond, ℕ, zero, suc, ◌≤◌, length, get_or, set, drop, eqb, Option, Some, None}
use Rattle.tree_nodes.specs.Flat.{rest_of, names_of, has_name, names_differ}
use Rattle.tree_table.specs.Keys.{key_in, slot_in}

-- the slot of a name among all
unfoldable pub slot_for : List ℕ → List ℕ → ℕ
slot_for t x = slot_in 0 3072 t (key_in t x)

-- whether it is empty: the name's key is not in the table
unfoldable pub is_free : List ℕ → List ℕ → Bool
is_free t x = eqb (get_or t (slot_for t x) 0) 0

-- the table with the key of a name, unless the name's slot is taken
unfoldable pub put_in : List ℕ → List ℕ → List ℕ
put_in t x = cond (is_free t x) (set t (slot_for t x) (key_in t x)) t

-- whether the slots of all of these names are taken
unfoldable pub all_held : List ℕ → List (List ℕ) → Bool
all_held t [] = true
all_held t (x ∷ l) = cond (is_free t x) false (all_held t l)

-- whether none of these names is among the names c
unfoldable pub apart : List (List ℕ) → List (List ℕ) → Bool
apart c [] = true
apart c (x ∷ l) = cond (has_name x c) false (apart c l)

-- what follows k siblings
unfoldable pub rest_after : ℕ → ℕ → List ℕ → List ℕ
rest_after w zero s = s
rest_after w (suc k) s = rest_after w k (rest_of w s)

-- the table after the k names from a place on were put in it, and the answer
pub record Filled (w : ℕ) (d : List ℕ) (a k : ℕ) (t : List ℕ) (r : Option ℕ) : Type 0 where
  pub equal : r ≡ None → names_differ (names_of w k (drop a d)) ≡ false
  pub next : (y : ℕ) → r ≡ Some y → (y ≤ length d) × (drop y d ≡ rest_after w k (drop a d)) × (names_differ (names_of w k (drop a d)) ≡ true) × (all_held t (names_of w k (drop a d)) ≡ true)
