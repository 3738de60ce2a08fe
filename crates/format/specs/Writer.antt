-- The one file that is written of records in a version. w is the width of an object name and of the checksum.
use Rattle.std.specs.Prelude.{List, [], ◌∷◌, ◌++◌, Bool, cond, ◌||◌, ℕ, zero, suc, ◌+◌, ◌-◌, ◌/◌, ◌%◌, length, drop, replicate, eqb, ltb}
use Rattle.std.proofs.Math.Option.{Option, none, some}
use Rattle.format.specs.Bytes.{put16, put32, put32s, put_n}
use Rattle.format.specs.Names.{common}
use Rattle.format.specs.Records.{Entry, Count, valid, invalid, Node, Forest, nil, tree, Tree, width, Stage, Undo, Records}
use Rattle.format.specs.Layout.{fixed_length, entry_length, flags_of, word_of, mode_text, TREE, REUC, DIRC}

-- ---- one entry

-- the extended word is written exactly when one of its two bits is set
unfoldable pub needs_word : Entry → Bool
needs_word e = e.skip_worktree || e.intent_to_add

-- versions 2 and 3: the name, then 1 to 8 NULs
unfoldable pub write_plain : ℕ → List ℕ → List ℕ
write_plain f name = name ++ replicate (entry_length f (length name) - (f + length name)) 0

-- version 4: the smallest N, so that the common beginning ends at the first unequal byte, then the rest of the name
unfoldable pub write_packed : List ℕ → List ℕ → List ℕ
write_packed previous name = put_n (length previous - common previous name) ++ (drop (common previous name) name ++ (0 ∷ []))

unfoldable pub write_name : ℕ → ℕ → List ℕ → List ℕ → List ℕ
write_name v f previous name = cond (eqb v 4) (write_packed previous name) (write_plain f name)

-- the flags, perhaps the extended word, and the name
unfoldable pub write_rest : ℕ → ℕ → List ℕ → Bool → Entry → List ℕ
write_rest w v previous extended e =
    put16 (flags_of extended e) ++ (cond extended (put16 (word_of e)) [] ++ write_name v (fixed_length w extended) previous e.name)

unfoldable pub write_entry : ℕ → ℕ → List ℕ → Entry → List ℕ
write_entry w v previous e = put32s e.numbers ++ (e.object ++ write_rest w v previous (needs_word e) e)

-- entries after one of the name previous
unfoldable pub write_entries : ℕ → ℕ → List ℕ → List Entry → List ℕ
write_entries w v previous [] = []
write_entries w v previous (e ∷ es) = write_entry w v previous e ++ write_entries w v e.name es

-- ---- the cache tree

-- the decimal digits of n in front of others; fuel is above n
unfoldable pub digits_of : ℕ → ℕ → List ℕ → List ℕ
digits_of zero n after = after
digits_of (suc fuel) n after = cond (ltb n 10) ((48 + n) ∷ after) (digits_of fuel (n / 10) ((48 + n % 10) ∷ after))

unfoldable pub decimal_of : ℕ → List ℕ
decimal_of n = digits_of (suc n) n []

-- an invalid count is written "-1"
unfoldable pub write_count : Count → List ℕ
write_count (valid n) = decimal_of n
write_count invalid = 45 ∷ 49 ∷ []

-- an invalid node has no object name
unfoldable pub write_object : Count → List ℕ → List ℕ
write_object (valid n) object = object
write_object invalid object = []

unfoldable pub write_node : Node → ℕ → List ℕ
write_node n subtrees = n.name ++ (0 ∷ (write_count n.count ++ (32 ∷ (decimal_of subtrees ++ (10 ∷ write_object n.count n.object)))))

unfoldable pub write_forest : Forest → List ℕ
write_forest nil = []
write_forest (tree n kids after) = write_node n (width kids) ++ (write_forest kids ++ write_forest after)

unfoldable pub write_tree : Tree → List ℕ
write_tree t = write_node t.root (width t.subtrees) ++ write_forest t.subtrees

-- ---- resolve undo

unfoldable pub write_stage : Stage → List ℕ
write_stage s = cond (eqb s.mode 0) [] s.object

unfoldable pub write_undo : Undo → List ℕ
write_undo u =
    u.path ++ (0 ∷ (mode_text u.first.mode ++ (0 ∷ (mode_text u.second.mode ++ (0 ∷ (mode_text u.third.mode
    ++ (0 ∷ (write_stage u.first ++ (write_stage u.second ++ write_stage u.third)))))))))

unfoldable pub write_undos : List Undo → List ℕ
write_undos [] = []
write_undos (u ∷ us) = write_undo u ++ write_undos us

-- ---- extensions: TREE, then REUC, where the records have them

unfoldable pub write_extension : List ℕ → List ℕ → List ℕ
write_extension signature content = signature ++ (put32 (length content) ++ content)

unfoldable pub write_cache_tree : Option Tree → List ℕ
write_cache_tree none = []
write_cache_tree (some t) = write_extension TREE (write_tree t)

unfoldable pub write_resolve_undo : Option (List Undo) → List ℕ
write_resolve_undo none = []
write_resolve_undo (some us) = write_extension REUC (write_undos us)

unfoldable pub write_extensions : Records → List ℕ
write_extensions r = write_cache_tree r.cache_tree ++ write_resolve_undo r.resolve_undo

-- ---- the file

unfoldable pub write_header : ℕ → ℕ → List ℕ
write_header v count = DIRC ++ (put32 v ++ put32 count)

unfoldable pub write_body : ℕ → ℕ → Records → List ℕ
write_body w v r = write_header v (length r.entries) ++ (write_entries w v [] r.entries ++ write_extensions r)

unfoldable pub write_file : ℕ → (List ℕ → List ℕ) → ℕ → Records → List ℕ
write_file w hash v r = write_body w v r ++ hash (write_body w v r)
