-- Which lists of bytes are names of entries, and the order of names.
use Rattle.std.specs.Prelude.{List, [], ◌∷◌, ◌++◌, Bool, true, false, cond, not, ◌&&◌, ℕ, suc, min, length, eqb, leb, ltb}
use Rattle.std.specs.declared.cmp.Ordering.{Ordering}
use Rattle.std.specs.declared.cmp.Ordering.TheVariants.{Less, Equal, Greater}
use Rattle.format.specs.Bytes.{eq_list, lacks}

-- the parts of a name between its slashes; part is what was read of the one in hand
unfoldable pub components_from : List ℕ → List ℕ → List (List ℕ)
components_from part [] = part ∷ []
components_from part (b ∷ s) = cond (eqb b 47) (part ∷ components_from [] s) (components_from (part ++ (b ∷ [])) s)

unfoldable pub components : List ℕ → List (List ℕ)
components s = components_from [] s

-- not empty, and neither ".", ".." nor ".git"
unfoldable pub ok_component : List ℕ → Bool
ok_component c = not (eq_list c []) && (not (eq_list c (46 ∷ [])) && (not (eq_list c (46 ∷ 46 ∷ [])) && not (eq_list c (46 ∷ 103 ∷ 105 ∷ 116 ∷ []))))

unfoldable pub ok_components : List (List ℕ) → Bool
ok_components [] = true
ok_components (c ∷ cs) = ok_component c && ok_components cs

-- a name: 1 to 8,192 bytes, no NUL, every component sound; so no "/" first or last
unfoldable pub ok_name : List ℕ → Bool
ok_name s = leb 1 (length s) && (leb (length s) 8192 && (lacks 0 s && ok_components (components s)))

-- the length field of a name of n bytes
unfoldable pub length_field : ℕ → ℕ
length_field n = min n 4095

-- as unsigned bytes; a proper beginning comes first
unfoldable pub compare : List ℕ → List ℕ → Ordering
compare [] [] = Equal
compare [] (y ∷ t) = Less
compare (x ∷ s) [] = Greater
compare (x ∷ s) (y ∷ t) = cond (ltb x y) Less (cond (ltb y x) Greater (compare s t))

-- how many bytes two names have in common at their beginning
unfoldable pub common : List ℕ → List ℕ → ℕ
common [] t = 0
common (x ∷ s) [] = 0
common (x ∷ s) (y ∷ t) = cond (eqb x y) (suc (common s t)) 0

abbrev pub is_below : Ordering → Bool
is_below Less = true
is_below Equal = false
is_below Greater = false

-- what may follow in a file: an entry of stage t after one of stage s, whose name compares so to the later one's. Stage 0 is a merged path, the
-- others are sides of a conflict: after stage 0 the name must differ
abbrev pub rises : Ordering → ℕ → ℕ → Bool
rises Less s t = true
rises Equal s t = ltb 0 s && ltb s t
rises Greater s t = false

-- the order by which a place among entries is found, by name, then by stage: whether stage s of a name comes before stage t of another, to which it
-- compares so. Of any two keys one comes first, unless they are the same; the rule above is no such order
abbrev pub precedes : Ordering → ℕ → ℕ → Bool
precedes Less s t = true
precedes Equal s t = ltb s t
precedes Greater s t = false
