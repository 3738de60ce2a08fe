-- Closed cases of requests, with a stand-in for the hash that answers zeros: an index of "a" and "b/c" rewritten, put to, removed from, and
-- the order of refusals.
use mathlib.Core.Path.{◌≡◌, refl}
use mathlib.Core.List.{List, [], ◌∷◌}
use mathlib.Core.Bool.{Bool, true, false}
use mathlib.Core.Option.{none}
use Prim.Native.Nat.{ℕ}
use Rattle.format.specs.Bytes.{put16, put32, put32s, put_n, eq_list, lacks}
use Rattle.format.specs.Names.{components_from, components, ok_component, ok_components, ok_name, length_field, compare, common}
use Rattle.format.specs.Records.{Entry, mode_of, Count, valid, invalid, Node, nil, tree, Records}
use Rattle.format.specs.Layout.{ok_mode, fixed_length, entry_length, flags_of, word_of, under}
use Rattle.format.specs.Reading.{bad, good, need}
use Rattle.format.specs.Writer.{needs_word, write_plain, write_packed, write_name, write_rest, write_entry, write_entries, write_cache_tree, write_resolve_undo, write_extensions, write_header, write_body, write_file}
use Rattle.format.specs.Requests.{goes_before, same_key, mixes, put_entry, remove_entry, holds, mixed, invalid_node, invalid_path, invalid_cache_tree, put_record, remove_record, any_word, ok_asked, version_of, version_for, fitting, writing, rewrite_request, put_request, remove_request}
use Rattle.format.proofs.Examples.{hash, object, file_entry, listing}

abbrev pub a : List ℕ
a = 97 ∷ []

abbrev pub bc : List ℕ
bc = 98 ∷ 47 ∷ 99 ∷ []

-- the entry of a name at a stage, with or without skip-worktree
abbrev pub entry_of : ℕ → Bool → List ℕ → Entry
entry_of stage skip name = record {
  numbers = 0 ∷ 0 ∷ 0 ∷ 0 ∷ 0 ∷ 0 ∷ 0x81a4 ∷ 0 ∷ 0 ∷ 0 ∷ [];
  object = object 5;
  assume_valid = false;
  stage = stage;
  skip_worktree = skip;
  intent_to_add = false;
  name = name;
}

unfoldable pub records : Records
records = record { entries = file_entry 0x81a4 0x11 a ∷ file_entry 0x81ed 0x22 bc ∷ []; cache_tree = none; resolve_undo = none }

-- rewritten, the listing's example is the same file; it needs 168 bytes
rewritten :
    (rewrite_request 20 hash 1 168 records ≡ good listing 168)
    × (rewrite_request 20 hash 2 168 records ≡ good listing 168)
    × (rewrite_request 20 hash 1 167 records ≡ bad 20 0)
    × (rewrite_request 20 hash 5 0 records ≡ bad 4 0)
unfolding records listing hash put16 put32 put32s length_field fixed_length entry_length flags_of word_of need needs_word write_plain write_name write_rest write_entry write_entries write_cache_tree write_resolve_undo write_extensions write_header write_body write_file any_word ok_asked version_of version_for fitting writing rewrite_request
rewritten = (refl, refl, refl, refl)

-- an entry before the first, over an equal one, at a higher stage, after the last
placed :
    (put_entry (entry_of 0 false (65 ∷ [])) records.entries ≡ entry_of 0 false (65 ∷ []) ∷ file_entry 0x81a4 0x11 a ∷ file_entry 0x81ed 0x22 bc ∷ [])
    × (put_entry (entry_of 0 false a) records.entries ≡ entry_of 0 false a ∷ file_entry 0x81ed 0x22 bc ∷ [])
    × (put_entry (entry_of 2 false a) records.entries ≡ file_entry 0x81a4 0x11 a ∷ entry_of 2 false a ∷ file_entry 0x81ed 0x22 bc ∷ [])
    × (put_entry (entry_of 0 false (99 ∷ [])) records.entries ≡ file_entry 0x81a4 0x11 a ∷ file_entry 0x81ed 0x22 bc ∷ entry_of 0 false (99 ∷ []) ∷ [])
    × (remove_entry (record { name = a; stage = 0 }) records.entries ≡ file_entry 0x81ed 0x22 bc ∷ [])
unfolding records compare eq_list goes_before same_key put_entry remove_entry
placed = (refl, refl, refl, refl, refl)

-- the asked version, then the record's mode, stage and name; 18; version 2 for an extended record; the output's room
refusals :
    (put_request 20 hash 5 (entry_of 4 false []) 0 records ≡ bad 4 0)
    × (put_request 20 hash 0 (file_entry 1 5 []) 0 records ≡ bad 7 0)
    × (put_request 20 hash 0 (entry_of 4 false []) 0 records ≡ bad 8 0)
    × (put_request 20 hash 0 (entry_of 3 false []) 0 records ≡ bad 9 0)
    × (put_request 20 hash 2 (entry_of 0 true a) 0 records ≡ bad 21 0)
    × (put_request 20 hash 3 (entry_of 0 true a) 0 records ≡ bad 20 0)
    × (remove_request 20 hash 5 (record { name = []; stage = 9 }) 0 records ≡ bad 4 0)
    × (remove_request 20 hash 4 (record { name = []; stage = 9 }) 0 records ≡ bad 18 0)
    × (remove_request 20 hash 4 (record { name = a; stage = 1 }) 0 records ≡ bad 18 0)
    × (remove_request 20 hash 4 (record { name = a; stage = 0 }) 0 records ≡ bad 20 0)
unfolding records hash put16 put32 put32s put_n eq_list lacks components_from components ok_component ok_components ok_name length_field compare common mode_of ok_mode fixed_length entry_length flags_of word_of need needs_word write_plain write_packed write_name write_rest write_entry write_entries write_cache_tree write_resolve_undo write_extensions write_header write_body write_file goes_before same_key mixes mixed put_entry remove_entry holds invalid_cache_tree put_record remove_record any_word ok_asked version_of version_for fitting writing put_request remove_request
refusals = (refl, refl, refl, refl, refl, refl, refl, refl, refl, refl)

-- the path to "a/b/c" in a tree of a (with b and x) and c: the root, a and b; "a" itself has the root alone on its path
abbrev node_of : List ℕ → Count → Node
node_of name count = record { name = name; count = count; object = object 0 }

path-to :
    (invalid_path 20 (97 ∷ 47 ∷ 98 ∷ 47 ∷ 99 ∷ []) (tree (node_of a (valid 2)) (tree (node_of (98 ∷ []) (valid 1)) nil (tree (node_of (120 ∷ []) (valid 1)) nil nil)) (tree (node_of (99 ∷ []) (valid 1)) nil nil))
    ≡ tree (node_of a invalid) (tree (node_of (98 ∷ []) invalid) nil (tree (node_of (120 ∷ []) (valid 1)) nil nil)) (tree (node_of (99 ∷ []) (valid 1)) nil nil))
    × (invalid_path 20 a (tree (node_of a (valid 2)) nil nil) ≡ tree (node_of a (valid 2)) nil nil)
unfolding invalid_node invalid_path under
path-to = (refl, refl)
