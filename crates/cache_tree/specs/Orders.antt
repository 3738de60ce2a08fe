-- Two orders of names. Siblings that rise by either one differ.
use Rattle.std.specs.Prelude.{List, [], ◌∷◌, ◌++◌, Bool, true, false, cond, ◌&&◌, ℕ, length, drop, eqb, ltb}
use Rattle.format.specs.Names.{compare, is_below}
use Rattle.tree_nodes.specs.Flat.{name_of}

-- by number, then by what follows
unfoldable pub first_below : ℕ → ℕ → Bool → Bool
first_below a b after = cond (ltb a b) true (cond (ltb b a) false after)

-- the order of the index: each name is followed by "/"
unfoldable pub slash_below : List ℕ → List ℕ → Bool
slash_below s t = is_below (compare (s ++ (47 ∷ [])) (t ++ (47 ∷ [])))

-- Git's order of subtrees: by length, then by bytes
unfoldable pub length_below : List ℕ → List ℕ → Bool
length_below s t = first_below (length s) (length t) (is_below (compare s t))

abbrev pub name_below : Bool → List ℕ → List ℕ → Bool
name_below true s t = length_below s t
name_below false s t = slash_below s t

-- whether each is above the one before, the first above x
unfoldable pub rises_from : Bool → List ℕ → List (List ℕ) → Bool
rises_from by_length x [] = true
rises_from by_length x (y ∷ l) = cond (name_below by_length x y) (rises_from by_length y l) false

-- whether names still rise where the one at b follows the one at a; nothing is said of a place and itself
unfoldable pub still_rises : Bool → List ℕ → ℕ → ℕ → Bool → Bool
still_rises by_length d a b so_far = cond (eqb a b) so_far (so_far && name_below by_length (name_of (drop a d)) (name_of (drop b d)))
