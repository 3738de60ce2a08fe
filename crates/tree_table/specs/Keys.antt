-- Keys of names, and the slots that they are in. t is a table.
use Rattle.std.specs.Prelude.{◌≡◌, List, [], ◌∷◌, Bool, cond, not, ◌&&◌, ℕ, zero, suc, ◌+◌, ◌*◌, ◌-◌, ◌/◌, ◌%◌, length, get_or, eqb, ltb}

-- a number with the same rest by 2 ^ 31 - 1, a prime
unfoldable pub fold : ℕ → ℕ
fold y = y % 2147483648 + y / 2147483648

-- one more digit
unfoldable pub step_key : ℕ → ℕ → ℕ → ℕ
step_key m h x = fold (h * m + x + 1)

unfoldable pub last_key : ℕ → ℕ → ℕ
last_key h n = step_key (h % 2147483648) (h % 2147483648) n

-- the key of a name, two bytes at a time; m and n take turns
unfoldable pub key_from : ℕ → ℕ → ℕ → List ℕ → ℕ
key_from m n h [] = last_key h n
key_from m n h (x ∷ []) = last_key (step_key m h (x + 65536)) n
key_from m n h (x ∷ y ∷ s) = key_from n m (step_key m h (x + y * 256)) s

-- the key of a name by the seed of a table
unfoldable pub key_in : List ℕ → List ℕ → ℕ
key_in t s = key_from (get_or t 3072 0 % 1073741824) (get_or t 3073 0 % 1073741824) 0 s

-- nothing but the seed changes
pub record SeedOnly (t t' : List ℕ) : Type 0 where
  pub long : length t' ≡ length t
  pub same : (i : ℕ) → (i ≡ 3072 → ⊥) → (i ≡ 3073 → ⊥) → get_or t' i 0 ≡ get_or t i 0

-- ---- the slot of a key among those from a place on, as many as slots

-- how far apart the slots are that are tried for a key
unfoldable pub step_of : ℕ → ℕ
step_of key = key / 65536 % 256 * 2 + 1

-- the slot that is tried after another; from the first one on again after the last
unfoldable pub next_slot : ℕ → ℕ → ℕ → ℕ
next_slot slots step i = cond (ltb (i + step) slots) (i + step) (i + step - slots)

-- the first of n slots that are tried from i on that has the key or is empty, else the one after them
unfoldable pub probe : ℕ → ℕ → List ℕ → ℕ → ℕ → ℕ → ℕ
probe from slots t key zero i = i
probe from slots t key (suc n) i = cond (eqb (get_or t (from + i) 0) key) i (cond (eqb (get_or t (from + i) 0) 0) i (probe from slots t key n (next_slot slots (step_of key) i)))

unfoldable pub slot_in : ℕ → ℕ → List ℕ → ℕ → ℕ
slot_in from slots t key = from + probe from slots t key (slots - 1) (key % slots)

-- ---- the list of siblings that a table is of

-- whether a table has at i the place of k siblings and their number, and there are some
unfoldable pub is_of : List ℕ → ℕ → ℕ → ℕ → Bool
is_of t i at k = not (eqb k 0) && (eqb (get_or t i 0) at && eqb (get_or t (i + 1) 0) k)
