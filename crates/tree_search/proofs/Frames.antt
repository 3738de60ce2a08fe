-- A table and a row of cursors are known as before where only other cells of the array change. w is the width of an object name.
use mathlib.Core.Path.{◌≡◌}
use mathlib.Core.List.{List}
use Prim.Native.Nat.{ℕ, ◌+◌, ◌*◌, ◌≤◌, ◌<◌}
use native.Mathlib.Omega.{arith}
use lib.ListN.{get_or}
use Rattle.format.specs.Records.{nil}
use Rattle.tree_search.specs.Table.{place_at, TableKnown, RowKnown}
use Rattle.tree_search.proofs.Places.{SameKeys, put_same}

-- ---- a table

module _ (from slots list : ℕ) (d t t' : List ℕ)
    (cells : (i : ℕ) → from ≤ i → i < from + slots + slots → get_or t' i 0 ≡ get_or t i 0)
    (seed : get_or t' 3072 0 ≡ get_or t 3072 0)
    (seed₁ : get_or t' 3073 0 ≡ get_or t 3073 0)
    (place : get_or t' list 0 ≡ get_or t list 0)
    (number : get_or t' (list + 1) 0 ≡ get_or t (list + 1) 0)
    (many : 512 ≤ slots)
  where
    keys-stay : SameKeys from slots t' t
    keys-stay = record { keys = λ i a b. cells i a (omega arith); first = seed; second = seed₁ }

    number-stays : (i : ℕ) → from ≤ i → i < from + slots → place_at slots t' i ≡ place_at slots t i
    number-stays i a b = cells (slots + i) (omega arith) (omega arith)

    pub table_stays : {w : ℕ} → TableKnown w from slots list d t → TableKnown w from slots list d t'
    table_stays known = record {
      inside = rw (place, number) λ h.
          let x = known.inside h in
          record { most = λ i a b. rw (number-stays i a b) (x.most i a b); least = λ i a b. rw (number-stays i a b) (x.least i a b) };
      is = rw (place, number) λ h f m differ r. put_same from slots many d f t t' nil keys-stay number-stays (known.is h f m differ r);
    }

-- ---- a row of cursors

module _ (row list : ℕ) (d t t' : List ℕ)
    (cells : (i : ℕ) → row ≤ i → i < row + 32 → get_or t' i 0 ≡ get_or t i 0)
    (place : get_or t' list 0 ≡ get_or t list 0)
    (number : get_or t' (list + 1) 0 ≡ get_or t (list + 1) 0)
  where
    pub row_stays : {w : ℕ} → RowKnown w row list d t → RowKnown w row list d t'
    row_stays known = record {
      is = rw (place, number) λ h.
          record {
            is = λ c l. rw (cells (row + c * 2) (omega arith) (omega arith), cells (row + c * 2 + 1) (omega arith) (omega arith)) ((known.is h).is c l);
          };
    }
