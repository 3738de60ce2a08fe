-- Names in order, and those of them that are in one directory.
use Rattle.std.specs.Prelude.{List, [], ◌∷◌, ◌++◌, map, Bool, true, false, cond, not, ◌&&◌, ℕ, length, drop, eqb}
use Rattle.std.specs.declared.cmp.Ordering.{Ordering}
use Rattle.std.specs.declared.cmp.Ordering.TheVariants.{Less, Equal, Greater}
use Rattle.format.specs.Names.{compare}

abbrev pub not_above : Ordering → Bool
not_above Less = true
not_above Equal = true
not_above Greater = false

-- each name is the same as the one before or above it; the first is held to p
unfoldable pub sorted_from : List ℕ → List (List ℕ) → Bool
sorted_from p [] = true
sorted_from p (s ∷ ss) = not_above (compare p s) && sorted_from s ss

-- whether s begins with q
unfoldable pub begins : List ℕ → List ℕ → Bool
begins [] s = true
begins (x ∷ q) [] = false
begins (x ∷ q) (y ∷ s) = cond (eqb x y) (begins q s) false

-- whether the first name passes a test, whether the last does, whether every one does, and whether none does
unfoldable pub leads : (List ℕ → Bool) → List (List ℕ) → Bool
leads p [] = false
leads p (s ∷ ss) = p s

unfoldable pub trails : (List ℕ → Bool) → List (List ℕ) → Bool
trails p [] = false
trails p (s ∷ []) = p s
trails p (s ∷ t ∷ ss) = trails p (t ∷ ss)

unfoldable pub every : (List ℕ → Bool) → List (List ℕ) → Bool
every p [] = true
every p (s ∷ ss) = p s && every p ss

unfoldable pub never : (List ℕ → Bool) → List (List ℕ) → Bool
never p [] = true
never p (s ∷ ss) = not (p s) && never p ss

-- the names up to the first that fails a test, and those from it on
unfoldable pub span : (List ℕ → Bool) → List (List ℕ) → List (List ℕ)
span p [] = []
span p (s ∷ ss) = cond (p s) (s ∷ span p ss) []

unfoldable pub beyond : (List ℕ → Bool) → List (List ℕ) → List (List ℕ)
beyond p [] = []
beyond p (s ∷ ss) = cond (p s) (beyond p ss) (s ∷ ss)

-- the names up to the first outside the directory, from there on
unfoldable pub within : List ℕ → List (List ℕ) → List (List ℕ)
within q ss = map (λ (s : List ℕ). drop (length q) s) (span (begins q) ss)

-- the directory of the component c in it
abbrev pub enter : List ℕ → List ℕ → List ℕ
enter q c = q ++ (c ++ (47 ∷ []))

-- the names up to the first outside that one, from the directory q on
unfoldable pub run_in : List ℕ → List ℕ → List (List ℕ) → List (List ℕ)
run_in q c ss = map (λ (s : List ℕ). drop (length q) s) (span (begins (enter q c)) ss)
