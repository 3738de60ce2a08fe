-- The cases that the requirements mark P: one table over the definitions.
use mathlib.Core.Path.{◌≡◌, refl}
use mathlib.Core.List.{List, [], ◌∷◌, ◌++◌}
use mathlib.Core.Bool.{Bool, true, false}
use mathlib.Core.Option.{none, some}
use Prim.Native.Nat.{ℕ}
use lib.ListN.{length, replicate}
use Rattle.std.proofs.Common.{Less, Greater}
use Rattle.format.specs.Bytes.{put16, put32, put32s, put_n, be16, be32, be32s, two, eq_list, before, lacks, zeros, digits, decimal, value_from, value}
use Rattle.format.specs.Names.{components_from, components, ok_component, ok_components, ok_name, length_field, compare, common}
use Rattle.format.specs.Records.{mode_of, valid, invalid, nil, tree, Tree, width, Records}
use Rattle.format.specs.Layout.{ok_mode, fixed_length, entry_length, flags_of, word_of, ok_node_name, has, distinct, under, inside, files, all_valid, sum, ok_count, ok_counts, ok_tree_counts, optional, trees, undos, names}
use Rattle.format.specs.Checksum.{matches, checksum_of, checksum_in}
use Rattle.format.specs.Reading.{good, need, shift, bind}
use Rattle.format.specs.Reader.{is_set, ok_word, plain_length, read_plain, read_n, joined, read_suffix, read_packed, read_name, entry_of, read_tail, read_fixed, read_entry, read_entries, read_text, count_in, need_some, read_count, read_subtrees, read_object, read_node, read_siblings, read_forest, read_nodes, read_tree, read_data, read_extension, read_extensions, read_body, read_file}
use Rattle.format.specs.Writer.{needs_word, write_plain, write_packed, write_name, write_rest, write_entry, write_entries, digits_of, decimal_of, write_count, write_object, write_node, write_forest, write_tree, write_extension, write_cache_tree, write_resolve_undo, write_extensions, write_header, write_body, write_file}
use Rattle.format.specs.Requests.{goes_before, same_key, mixes, put_entry, remove_entry, holds, mixed, invalid_node, invalid_path, invalid_tree, invalid_cache_tree, put_record, remove_record, any_word, ok_asked, version_of, version_for, fitting, writing, rewrite_request, put_request, remove_request}
use Rattle.format.proofs.Examples.{hash, file_entry}

-- the names of the entries
abbrev pub a-b : List ℕ
a-b = 97 ∷ 45 ∷ 98 ∷ []

abbrev pub a/b : List ℕ
a/b = 97 ∷ 47 ∷ 98 ∷ []

abbrev pub a/c : List ℕ
a/c = 97 ∷ 47 ∷ 99 ∷ []

-- the root "3 1" and "a" "2 0", and the bytes that say so
whole : Tree
whole = record {
  root = record { name = []; count = valid 3; object = replicate 20 1 };
  subtrees = tree (record { name = 97 ∷ []; count = valid 2; object = replicate 20 2 }) nil nil;
}

whole_bytes : List ℕ
whole_bytes = 0 ∷ 51 ∷ 32 ∷ 49 ∷ 10 ∷ (replicate 20 1 ++ (97 ∷ 0 ∷ 50 ∷ 32 ∷ 48 ∷ 10 ∷ replicate 20 2))

-- the same with both counts "-1"
cleared : Tree
cleared = record {
  root = record { name = []; count = invalid; object = replicate 20 0 };
  subtrees = tree (record { name = 97 ∷ []; count = invalid; object = replicate 20 0 }) nil nil;
}

cleared_bytes : List ℕ
cleared_bytes = 0 ∷ 45 ∷ 49 ∷ 32 ∷ 49 ∷ 10 ∷ 97 ∷ 0 ∷ 45 ∷ 49 ∷ 32 ∷ 48 ∷ 10 ∷ []

-- the index of the three entries, a/c with the object name of twenty bytes b, and of a cache tree
abbrev index : ℕ → Tree → Records
index b t = record { entries = file_entry 0x81a4 3 a-b ∷ file_entry 0x81a4 4 a/b ∷ file_entry 0x81a4 b a/c ∷ []; cache_tree = some t; resolve_undo = none }

-- the bytes in version 2 of file_entry 0x81a4 b name, for a name of three bytes
abbrev entry_bytes : ℕ → List ℕ → List ℕ
entry_bytes b name =
    0 ∷ 0 ∷ 0 ∷ 1 ∷ 0 ∷ 0 ∷ 0 ∷ 2 ∷ 0 ∷ 0 ∷ 0 ∷ 3 ∷ 0 ∷ 0 ∷ 0 ∷ 4 ∷ 0 ∷ 0 ∷ 0 ∷ 5 ∷ 0 ∷ 0 ∷ 0 ∷ 6 ∷ 0 ∷ 0 ∷ 129 ∷ 164 ∷ 0 ∷ 0 ∷ 0 ∷ 7 ∷ 0 ∷ 0 ∷ 0 ∷ 8 ∷ 0 ∷ 0 ∷ 0 ∷ 9 ∷ (replicate 20 b ++ (0 ∷ 3 ∷ (name ++ replicate 7 0)))

-- the index as a file, its nodes given as bytes; the checksum is that of the stand-in for the hash
abbrev index_bytes : ℕ → List ℕ → List ℕ
index_bytes b nodes =
    68 ∷ 73 ∷ 82 ∷ 67 ∷ 0 ∷ 0 ∷ 0 ∷ 2 ∷ 0 ∷ 0 ∷ 0 ∷ 3 ∷ (entry_bytes 3 a-b ++ (entry_bytes 4 a/b ++ (entry_bytes b a/c
    ++ (84 ∷ 82 ∷ 69 ∷ 69 ∷ 0 ∷ 0 ∷ 0 ∷ length nodes ∷ (nodes ++ replicate 20 0)))))

-- "saw/cut.txt", "saw/cutter.txt", and what the second has after the common beginning
cut : List ℕ
cut = 115 ∷ 97 ∷ 119 ∷ 47 ∷ 99 ∷ 117 ∷ 116 ∷ 46 ∷ 116 ∷ 120 ∷ 116 ∷ []

cutter : List ℕ
cutter = 115 ∷ 97 ∷ 119 ∷ 47 ∷ 99 ∷ 117 ∷ 116 ∷ 116 ∷ 101 ∷ 114 ∷ 46 ∷ 116 ∷ 120 ∷ 116 ∷ []

rest : List ℕ
rest = 116 ∷ 101 ∷ 114 ∷ 46 ∷ 116 ∷ 120 ∷ 116 ∷ []

-- what the closed cases look through, said once: where this unfolds, all that its line names does
unfoldable pub closed : Bool
unfolding hash put16 put32 put32s put_n be16 be32 be32s two eq_list before lacks zeros digits decimal value_from value components_from components ok_component ok_components ok_name length_field compare common mode_of width ok_mode fixed_length entry_length flags_of word_of ok_node_name has distinct under inside files all_valid sum ok_count ok_counts ok_tree_counts optional trees undos names need shift bind is_set ok_word plain_length read_plain read_n joined read_suffix read_packed read_name entry_of read_tail read_fixed read_entry read_entries read_text count_in need_some read_count read_subtrees read_object read_node read_siblings read_forest read_nodes read_tree read_data read_extension read_extensions checksum_of checksum_in read_body read_file needs_word write_plain write_packed write_name write_rest write_entry write_entries digits_of decimal_of write_count write_object write_node write_forest write_tree write_extension write_cache_tree write_resolve_undo write_extensions write_header write_body write_file goes_before same_key mixes mixed put_entry remove_entry holds invalid_node invalid_path invalid_tree invalid_cache_tree put_record remove_record any_word ok_asked version_of version_for fitting writing rewrite_request put_request remove_request
closed = true

abbrev Table : Type 0
Table =
    (entry_length 62 1 ≡ 64)
    × (entry_length 62 2 ≡ 72)
    × (entry_length 62 9 ≡ 72)
    × (entry_length 62 10 ≡ 80)
    × (entry_length 64 1 ≡ 72)
    × (entry_length 64 8 ≡ 80)
    × (fixed_length 32 false ≡ 74)
    × (fixed_length 32 true ≡ 76)
    × (entry_length (fixed_length 32 false) 5 ≡ 80)
    × (entry_length (fixed_length 32 false) 6 ≡ 88)
    × (length_field 4094 ≡ 4094)
    × (length_field 4095 ≡ 4095)
    × (length_field 4096 ≡ 4095)
    × (read_n 0 8192 (0x7f ∷ []) ≡ good 127 1)
    × (read_n 0 8192 (0x80 ∷ 0x00 ∷ []) ≡ good 128 2)
    × (read_n 0 8192 (0xbf ∷ 0x00 ∷ []) ≡ good 8192 2)
    × (put_n 127 ≡ 0x7f ∷ [])
    × (put_n 128 ≡ 0x80 ∷ 0x00 ∷ [])
    × (put_n 8192 ≡ 0xbf ∷ 0x00 ∷ [])
    × (joined cut 4 (rest ++ (0 ∷ [])) ≡ cutter)
    × (write_packed cut cutter ≡ 4 ∷ (rest ++ (0 ∷ [])))
    × (compare a-b a/b ≡ Less)
    × (compare a/b (97 ∷ 48 ∷ []) ≡ Less)
    × (compare a/b a-b ≡ Greater)
    × (length whole_bytes ≡ 51)
    × (write_tree whole ≡ whole_bytes)
    × (read_file 20 hash (index_bytes 5 whole_bytes) ≡ good (record { version = 2; checksum = matches; end = 228; records = index 5 whole }) 287)
    × (length cleared_bytes ≡ 13)
    × (write_tree cleared ≡ cleared_bytes)
    × (put_record 20 (file_entry 0x81a4 6 a/c) (index 5 whole) ≡ index 6 cleared)
    × (put_request 20 hash 1 (file_entry 0x81a4 6 a/c) 269 (index 5 whole) ≡ good (index_bytes 6 cleared_bytes) 269)
    × (read_file 20 hash (index_bytes 6 cleared_bytes) ≡ good (record { version = 2; checksum = matches; end = 228; records = index 6 cleared }) 249)

table : Table
unfolding closed whole whole_bytes cleared cleared_bytes cut cutter rest
table = (refl, refl, refl, refl, refl, refl, refl, refl, refl, refl, refl, refl, refl, refl, refl, refl, refl, refl, refl, refl, refl, refl, refl, refl, refl, refl, refl, refl, refl, refl, refl, refl)
