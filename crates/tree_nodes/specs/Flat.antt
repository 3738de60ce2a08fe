-- The nodes one after another, as they are in the data, whatever they belong to. w is the width of an object name.
use Rattle.std.specs.Prelude.{◌≡◌, List, [], ◌∷◌, Bool, true, false, cond, ℕ, zero, suc, ◌+◌, ◌-◌, ◌≤◌, length, take, drop}
use Rattle.format.specs.Bytes.{eq_list, before}
use Rattle.format.specs.Records.{Forest, nil, tree, Tree}
use Rattle.format.specs.Reading.{good}
use Rattle.format.specs.Reader.{Head, read_node}
use Rattle.format.specs.Places.{on_node}
use Rattle.tree_nodes.specs.declared.passes.Sibling.{Sibling}

-- how many bytes k nodes take with all below them; fuel is at least the number of bytes
unfoldable pub length_of : ℕ → ℕ → ℕ → List ℕ → ℕ
length_of w zero k s = 0
length_of w (suc fuel) zero s = 0
length_of w (suc fuel) (suc k) s = on_node (read_node w 0 s) (length s) (λ subtrees m. m + length_of w fuel (k + subtrees) (drop m s))

unfoldable pub trees_length : ℕ → ℕ → List ℕ → ℕ
trees_length w k s = length_of w (length s) k s

-- ---- the names of k siblings

unfoldable pub name_of : List ℕ → List ℕ
name_of s = take (before 0 s) s

unfoldable pub rest_of : ℕ → List ℕ → List ℕ
rest_of w s = drop (trees_length w 1 s) s

unfoldable pub names_of : ℕ → ℕ → List ℕ → List (List ℕ)
names_of w zero s = []
names_of w (suc k) s = name_of s ∷ names_of w k (rest_of w s)

-- whether a name is among others, and whether no two are equal
unfoldable pub has_name : List ℕ → List (List ℕ) → Bool
has_name x [] = false
has_name x (y ∷ l) = cond (eq_list x y) true (has_name x l)

unfoldable pub names_differ : List (List ℕ) → Bool
names_differ [] = true
names_differ (x ∷ l) = cond (has_name x l) false (names_differ l)

-- ---- siblings that were read

-- Reads w s f k m: the first m bytes of s are the k siblings of f, each followed by all below it
pub data Reads (w : ℕ) : List ℕ → Forest → ℕ → ℕ → Type 0 where
  reads_none : {s : List ℕ} → Reads w s nil 0 0
  reads_more :
      {s : List ℕ} {h : Head} {kids after : Forest} {a b c k : ℕ} →
      read_node w 0 s ≡ good h a →
      Reads w (drop a s) kids h.subtrees b →
      Reads w (drop b (drop a s)) after k c →
      Reads w s (tree h.node kids after) (suc k) (a + (b + c))

-- how many nodes there are
unfoldable pub size : Forest → ℕ
size nil = 0
size (tree n kids more) = suc (size kids + size more)

-- a tree that is at a place: its root, and its subtrees after it
pub record TreeAt (w : ℕ) (d : List ℕ) (place : ℕ) (t : Tree) : Type 0 where
  pub subtrees : ℕ
  pub own : ℕ
  pub below : ℕ
  pub node : read_node w 0 (drop place d) ≡ good (record { node = t.root; subtrees = subtrees }) own
  pub kids : Reads w (drop own (drop place d)) t.subtrees subtrees below

-- the name of the node at a place ends at nul, in the data
pub record EndsAt (d : List ℕ) (at nul : ℕ) : Type 0 where
  pub least : at ≤ nul
  pub most : nul ≤ length d
  pub name : take (nul - at) (drop at d) ≡ name_of (drop at d)

-- the sibling at a place, and the next one after it and all below it
pub record SiblingAt (w : ℕ) (d : List ℕ) (at : ℕ) (r : Sibling) : Type 0 where
  pub ends : EndsAt d at r.nul
  pub after : r.next ≡ at + trees_length w 1 (drop at d)
  pub within : r.next ≤ length d
