-- What a walk over the entries tests of the counts of a cache tree. Names are those of the entries in a directory, from there on.
use Rattle.std.specs.Prelude.{◌≡◌, List, [], ◌∷◌, Bool, true, false, cond, ◌&&◌, ◌||◌, ℕ, ◌+◌, length, eqb, leb}
use Rattle.std.proofs.Math.Option.{Option, none, some}
use Rattle.format.specs.Bytes.{eq_list, lacks}
use Rattle.format.specs.Records.{Count, valid, invalid, Forest, nil, tree, Tree}
use Rattle.format.specs.Layout.{bit, ok_node_name, distinct, under, inside, is_valid, all_valid}

-- ---- one count

-- whether a valid count is m
abbrev pub says : Count → ℕ → Bool
says (valid c) m = eqb c m
says invalid m = true

-- 1 for a valid count of at least 1
abbrev pub weight : Count → ℕ
weight (valid c) = bit (leb 1 c)
weight invalid = 0

-- ---- the tree alone

-- every name has 1 byte or more, and no "/"
unfoldable pub plain : Forest → Bool
plain nil = true
plain (tree n kids after) = ok_node_name n.name && (plain kids && plain after)

-- siblings with such names, no two of them equal, on every level
pub record SoundForest (f : Forest) : Type 0 where
  pub plainly : plain f ≡ true
  pub differ : distinct f ≡ true

-- the subtrees of every valid node are valid
unfoldable pub valid_below : Forest → Bool
valid_below nil = true
valid_below (tree n kids after) = cond (is_valid n.count) (all_valid kids) true && (valid_below kids && valid_below after)

-- how many nodes are valid with a count of at least 1
unfoldable pub positive : Forest → ℕ
positive nil = 0
positive (tree n kids after) = weight n.count + (positive kids + positive after)

-- the first sibling with this name, and its subtrees
unfoldable pub child : List ℕ → Forest → Option Tree
child c nil = none
child c (tree n kids after) = cond (eq_list c n.name) (some (record { root = n; subtrees = kids })) (child c after)

-- ---- the names in a directory and the nodes below it

-- whether s is under some sibling
unfoldable pub reached : List ℕ → Forest → Bool
reached s nil = false
reached s (tree n kids after) = cond (under n.name s) true (reached s after)

-- every name with a further "/" is under some sibling
unfoldable pub covered : List (List ℕ) → Forest → Bool
covered [] f = true
covered (s ∷ ss) f = (lacks 47 s || reached s f) && covered ss f

-- the test of a node that names are under, and what it adds to the number of nodes found
abbrev pub counted : Count → List (List ℕ) → Bool
counted c [] = true
counted c (s ∷ ss) = says c (length (s ∷ ss))

abbrev pub hit : Count → List (List ℕ) → ℕ
hit c [] = 0
hit c (s ∷ ss) = weight c

-- every sibling that names are under counts them where it is valid, they are covered by its subtrees where it is valid, and those hold likewise
unfoldable pub counts_hold_each : List (List ℕ) → Forest → Bool
counts_hold_each names nil = true
counts_hold_each names (tree n kids after) =
    (counted n.count (inside n.name names)
    && (cond (is_valid n.count) (covered (inside n.name names) kids) true && counts_hold_each (inside n.name names) kids))
    && counts_hold_each names after

-- the same with the directory's own node, valid or not
unfoldable pub counts_hold : Bool → List (List ℕ) → Forest → Bool
counts_hold v names f = cond v (covered names f) true && counts_hold_each names f

-- how many of the nodes that names are under are valid with a count of at least 1
unfoldable pub matched : List (List ℕ) → Forest → ℕ
matched names nil = 0
matched names (tree n kids after) =
    hit n.count (inside n.name names) + (matched (inside n.name names) kids + matched names after)

-- a node counts all names and has valid subtrees, where it is valid
abbrev pub counts_all : Count → List (List ℕ) → Forest → Bool
counts_all (valid c) names f = eqb c (length names) && all_valid f
counts_all invalid names f = true
