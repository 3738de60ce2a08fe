-- What is asked of a file that was read: rewrite it in a version, put one record, remove one name and stage. w is the width of an object name.
use Rattle.std.specs.Prelude.{List, [], ◌∷◌, Bool, true, false, cond, not, ◌&&◌, ◌||◌, ℕ, ◌+◌, length, drop, replicate, eqb, leb, ltb}
use Rattle.std.proofs.Math.Option.{Option, none, some}
use Rattle.format.specs.Bytes.{eq_list}
use Rattle.format.specs.Names.{ok_name, compare, precedes}
use Rattle.format.specs.Records.{Entry, mode_of, Key, key_of, invalid, Node, Forest, nil, tree, Tree, Records}
use Rattle.format.specs.Layout.{ok_mode, under}
use Rattle.format.specs.Reading.{Read, good, need}
use Rattle.format.specs.Writer.{needs_word, write_file}

-- ---- entries

-- by name, then by stage: whether an entry of the key a is before one of the key b
unfoldable pub goes_before : Key → Key → Bool
goes_before a b = precedes (compare a.name b.name) a.stage b.stage

unfoldable pub same_key : Key → Key → Bool
same_key a b = eq_list a.name b.name && eqb a.stage b.stage

-- stage 0 and another stage, of one name
unfoldable pub mixes : Key → Key → Bool
mixes a b = eq_list a.name b.name && (not (eqb a.stage b.stage) && (eqb a.stage 0 || eqb b.stage 0))

-- the entry of the same name and stage is replaced, or e is inserted in its place
unfoldable pub put_entry : Entry → List Entry → List Entry
put_entry e [] = e ∷ []
put_entry e (x ∷ xs) = cond (goes_before (key_of x) (key_of e)) (x ∷ put_entry e xs) (cond (same_key (key_of x) (key_of e)) (e ∷ xs) (e ∷ x ∷ xs))

unfoldable pub remove_entry : Key → List Entry → List Entry
remove_entry k [] = []
remove_entry k (x ∷ xs) = cond (same_key (key_of x) k) xs (x ∷ remove_entry k xs)

unfoldable pub holds : Key → List Entry → Bool
holds k [] = false
holds k (x ∷ xs) = cond (same_key (key_of x) k) true (holds k xs)

-- whether the key k would bring stage 0 together with another stage of its name
unfoldable pub mixed : Key → List Entry → Bool
mixed k [] = false
mixed k (x ∷ xs) = mixes (key_of x) k || mixed k xs

-- ---- the cache tree: the root and each node on the path to the name's directory are made invalid

unfoldable pub invalid_node : ℕ → Node → Node
invalid_node w n = record { name = n.name; count = invalid; object = replicate w 0 }

-- siblings; the name is what is left of it in their directory
unfoldable pub invalid_path : ℕ → List ℕ → Forest → Forest
invalid_path w name nil = nil
invalid_path w name (tree n kids after) =
    cond (under n.name name)
    (tree (invalid_node w n) (invalid_path w (drop (length n.name + 1) name) kids) (invalid_path w name after))
    (tree n kids (invalid_path w name after))

unfoldable pub invalid_tree : ℕ → List ℕ → Tree → Tree
invalid_tree w name t = record { root = invalid_node w t.root; subtrees = invalid_path w name t.subtrees }

unfoldable pub invalid_cache_tree : ℕ → List ℕ → Option Tree → Option Tree
invalid_cache_tree w name none = none
invalid_cache_tree w name (some t) = some (invalid_tree w name t)

-- ---- all records; resolve undo stays

unfoldable pub put_record : ℕ → Entry → Records → Records
put_record w e r = record { entries = put_entry e r.entries; cache_tree = invalid_cache_tree w e.name r.cache_tree; resolve_undo = r.resolve_undo }

unfoldable pub remove_record : ℕ → Key → Records → Records
remove_record w k r = record { entries = remove_entry k r.entries; cache_tree = invalid_cache_tree w k.name r.cache_tree; resolve_undo = r.resolve_undo }

-- ---- the answers: the bytes of the file, or a refusal at place 0

unfoldable pub any_word : List Entry → Bool
any_word [] = false
any_word (e ∷ es) = needs_word e || any_word es

-- the versions that may be asked for: 2, 3, 4; 0, which means 4; and 1, the lowest, which means 2 where no entry needs the extended word, else 3
unfoldable pub ok_asked : ℕ → Bool
ok_asked asked = leb asked 4

-- where an entry needs the extended word, or none does
unfoldable pub version_of : ℕ → Bool → ℕ
version_of asked word = cond (eqb asked 0) 4 (cond (eqb asked 1) (cond word 3 2) asked)

unfoldable pub version_for : ℕ → List Entry → ℕ
version_for asked es = version_of asked (any_word es)

-- one file, of at most 16,777,216 bytes, for an output of room bytes
unfoldable pub fitting : ℕ → List ℕ → Read (List ℕ)
fitting room file = need (leb (length file) 16777216) 2 0 (need (leb (length file) room) 20 0 (good file (length file)))

unfoldable pub writing : ℕ → (List ℕ → List ℕ) → ℕ → ℕ → Records → Read (List ℕ)
writing w hash asked room r = need (not (eqb asked 2 && any_word r.entries)) 21 0 (fitting room (write_file w hash (version_for asked r.entries) r))

unfoldable pub rewrite_request : ℕ → (List ℕ → List ℕ) → ℕ → ℕ → Records → Read (List ℕ)
rewrite_request w hash asked room r = need (ok_asked asked) 4 0 (writing w hash asked room r)

unfoldable pub put_request : ℕ → (List ℕ → List ℕ) → ℕ → Entry → ℕ → Records → Read (List ℕ)
put_request w hash asked e room r =
    need (ok_asked asked) 4 0
    (need (ok_mode (mode_of e)) 7 0
    (need (ltb e.stage 4) 8 0
    (need (ok_name e.name) 9 0 (need (not (mixed (key_of e) r.entries)) 11 0 (writing w hash asked room (put_record w e r))))))

unfoldable pub remove_request : ℕ → (List ℕ → List ℕ) → ℕ → Key → ℕ → Records → Read (List ℕ)
remove_request w hash asked k room r =
    need (ok_asked asked) 4 0 (need (holds k r.entries) 18 0 (writing w hash asked room (remove_record w k r)))
