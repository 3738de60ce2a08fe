-- Closed cases over whole files, with a stand-in for the hash that answers zeros: the listing's example, an empty index, files too short for
-- their entries, resolve undo; and checksums.
use mathlib.Core.Path.{◌≡◌, refl}
use mathlib.Core.List.{List, [], ◌∷◌}
use mathlib.Core.Bool.{false}
use mathlib.Core.Option.{none}
use Prim.Native.Nat.{ℕ}
use lib.ListN.{length, replicate}
use Rattle.format.specs.Bytes.{be16, be32, be32s, two, eq_list, before, lacks, zeros, digits, decimal, value_from, value}
use Rattle.format.specs.Names.{components_from, components, ok_component, ok_components, ok_name, length_field, compare}
use Rattle.format.specs.Records.{Entry}
use Rattle.format.specs.Layout.{ok_mode, fixed_length, entry_length, ok_node_name, has, distinct, under, inside, files, all_valid, sum, ok_count, ok_counts, ok_tree_counts, mode_text, some_stage, optional, trees, undos, names}
use Rattle.format.specs.Checksum.{matches, left_out, wrong, checksum_of, checksum_in}
use Rattle.format.specs.Reading.{bad, good, need, shift, bind}
use Rattle.format.specs.Reader.{is_set, ok_word, plain_length, read_plain, read_n, joined, read_suffix, read_packed, read_name, entry_of, read_tail, read_fixed, read_entry, read_entries, read_text, count_in, need_some, read_count, read_subtrees, read_object, read_node, read_siblings, read_forest, read_nodes, read_tree, mode_in, read_mode, read_stage, read_stages, read_undo, read_undos, read_data, read_extension, read_extensions, read_body, read_file}

unfoldable pub hash : List ℕ → List ℕ
hash b = replicate 20 0

-- the object name of twenty bytes b
abbrev pub object : ℕ → List ℕ
object b = replicate 20 b

abbrev pub file_entry : ℕ → ℕ → List ℕ → Entry
file_entry mode b name = record {
  numbers = 1 ∷ 2 ∷ 3 ∷ 4 ∷ 5 ∷ 6 ∷ mode ∷ 7 ∷ 8 ∷ 9 ∷ [];
  object = object b;
  assume_valid = false;
  stage = 0;
  skip_worktree = false;
  intent_to_add = false;
  name = name;
}

unfoldable pub listing : List ℕ
listing = 68 ∷ 73 ∷ 82 ∷ 67 ∷ 0 ∷ 0 ∷ 0 ∷ 2 ∷ 0 ∷ 0 ∷ 0 ∷ 2 ∷ 0 ∷ 0 ∷ 0 ∷ 1 ∷ 0 ∷ 0 ∷ 0 ∷ 2 ∷ 0 ∷ 0 ∷ 0 ∷ 3 ∷ 0 ∷ 0 ∷ 0 ∷ 4 ∷ 0 ∷ 0 ∷ 0 ∷ 5 ∷ 0 ∷ 0 ∷ 0 ∷ 6 ∷ 0 ∷ 0 ∷ 129 ∷ 164 ∷ 0 ∷ 0 ∷ 0 ∷ 7 ∷ 0 ∷ 0 ∷ 0 ∷ 8 ∷ 0 ∷ 0 ∷ 0 ∷ 9 ∷ 17 ∷ 17 ∷ 17 ∷ 17 ∷ 17 ∷ 17 ∷ 17 ∷ 17 ∷ 17 ∷ 17 ∷ 17 ∷ 17 ∷ 17 ∷ 17 ∷ 17 ∷ 17 ∷ 17 ∷ 17 ∷ 17 ∷ 17 ∷ 0 ∷ 1 ∷ 97 ∷ 0 ∷ 0 ∷ 0 ∷ 0 ∷ 1 ∷ 0 ∷ 0 ∷ 0 ∷ 2 ∷ 0 ∷ 0 ∷ 0 ∷ 3 ∷ 0 ∷ 0 ∷ 0 ∷ 4 ∷ 0 ∷ 0 ∷ 0 ∷ 5 ∷ 0 ∷ 0 ∷ 0 ∷ 6 ∷ 0 ∷ 0 ∷ 129 ∷ 237 ∷ 0 ∷ 0 ∷ 0 ∷ 7 ∷ 0 ∷ 0 ∷ 0 ∷ 8 ∷ 0 ∷ 0 ∷ 0 ∷ 9 ∷ 34 ∷ 34 ∷ 34 ∷ 34 ∷ 34 ∷ 34 ∷ 34 ∷ 34 ∷ 34 ∷ 34 ∷ 34 ∷ 34 ∷ 34 ∷ 34 ∷ 34 ∷ 34 ∷ 34 ∷ 34 ∷ 34 ∷ 34 ∷ 0 ∷ 3 ∷ 98 ∷ 47 ∷ 99 ∷ 0 ∷ 0 ∷ 0 ∷ 0 ∷ 0 ∷ 0 ∷ 0 ∷ 0 ∷ 0 ∷ 0 ∷ 0 ∷ 0 ∷ 0 ∷ 0 ∷ 0 ∷ 0 ∷ 0 ∷ 0 ∷ 0 ∷ 0 ∷ 0 ∷ 0 ∷ 0 ∷ 0 ∷ 0 ∷ 0 ∷ 0 ∷ []

listing-length : length listing ≡ 168
unfolding listing
listing-length = refl

listing-read :
    read_file 20 hash listing
    ≡ good
    (record {
      version = 2;
      checksum = matches;
      end = 148;
      records = record { entries = file_entry 0x81a4 0x11 (97 ∷ []) ∷ file_entry 0x81ed 0x22 (98 ∷ 47 ∷ 99 ∷ []) ∷ []; cache_tree = none; resolve_undo = none };
    })
    148
unfolding hash listing be16 be32 be32s two eq_list before lacks zeros digits decimal value_from value components_from components ok_component ok_components ok_name length_field compare ok_mode fixed_length entry_length ok_node_name has distinct under inside files all_valid sum ok_count ok_counts ok_tree_counts mode_text some_stage optional trees undos names need shift bind is_set ok_word plain_length read_plain read_n joined read_suffix read_packed read_name entry_of read_tail read_fixed read_entry read_entries read_text count_in need_some read_count read_subtrees read_object read_node read_siblings read_forest read_nodes read_tree mode_in read_mode read_stage read_stages read_undo read_undos read_data read_extension read_extensions checksum_of checksum_in read_body read_file
listing-read = refl

empty-read :
    read_file 20 hash (68 ∷ 73 ∷ 82 ∷ 67 ∷ 0 ∷ 0 ∷ 0 ∷ 2 ∷ 0 ∷ 0 ∷ 0 ∷ 0 ∷ 0 ∷ 0 ∷ 0 ∷ 0 ∷ 0 ∷ 0 ∷ 0 ∷ 0 ∷ 0 ∷ 0 ∷ 0 ∷ 0 ∷ 0 ∷ 0 ∷ 0 ∷ 0 ∷ 0 ∷ 0 ∷ 0 ∷ 0 ∷ [])
    ≡ good (record { version = 2; checksum = matches; end = 12; records = record { entries = []; cache_tree = none; resolve_undo = none } }) 12
unfolding hash be16 be32 be32s two eq_list before lacks zeros digits decimal value_from value components_from components ok_component ok_components ok_name length_field compare ok_mode fixed_length entry_length ok_node_name has distinct under inside files all_valid sum ok_count ok_counts ok_tree_counts mode_text some_stage optional trees undos names need shift bind is_set ok_word plain_length read_plain read_n joined read_suffix read_packed read_name entry_of read_tail read_fixed read_entry read_entries read_text count_in need_some read_count read_subtrees read_object read_node read_siblings read_forest read_nodes read_tree mode_in read_mode read_stage read_stages read_undo read_undos read_data read_extension read_extensions checksum_of checksum_in read_body read_file
empty-read = refl

-- forty bytes whose header counts an entry
short-refused : read_file 20 hash (68 ∷ 73 ∷ 82 ∷ 67 ∷ 0 ∷ 0 ∷ 0 ∷ 2 ∷ 0 ∷ 0 ∷ 0 ∷ 1 ∷ 0 ∷ 0 ∷ 0 ∷ 0 ∷ 0 ∷ 0 ∷ 0 ∷ 0 ∷ 0 ∷ 0 ∷ 0 ∷ 0 ∷ 0 ∷ 0 ∷ 0 ∷ 0 ∷ 0 ∷ 0 ∷ 0 ∷ 0 ∷ 0 ∷ 0 ∷ 0 ∷ 0 ∷ 0 ∷ 0 ∷ 0 ∷ 0 ∷ []) ≡ bad 6 12
unfolding hash be16 be32 be32s two eq_list before lacks zeros digits decimal value_from value components_from components ok_component ok_components ok_name length_field compare ok_mode fixed_length entry_length ok_node_name has distinct under inside files all_valid sum ok_count ok_counts ok_tree_counts mode_text some_stage optional trees undos names need shift bind is_set ok_word plain_length read_plain read_n joined read_suffix read_packed read_name entry_of read_tail read_fixed read_entry read_entries read_text count_in need_some read_count read_subtrees read_object read_node read_siblings read_forest read_nodes read_tree mode_in read_mode read_stage read_stages read_undo read_undos read_data read_extension read_extensions checksum_of checksum_in read_body read_file
short-refused = refl

-- 1, 3 and 4, each of a file that is refused for what comes next, too
header_refused :
    (read_file 20 hash (replicate 31 0) ≡ bad 1 0)
    × (read_file 20 hash (replicate 32 0) ≡ bad 3 0)
    × (read_file 20 hash (68 ∷ 73 ∷ 82 ∷ 67 ∷ 0 ∷ 0 ∷ 0 ∷ 5 ∷ replicate 24 7) ≡ bad 4 0)
unfolding hash be16 be32 be32s two eq_list before lacks zeros digits decimal value_from value components_from components ok_component ok_components ok_name length_field compare ok_mode fixed_length entry_length ok_node_name has distinct under inside files all_valid sum ok_count ok_counts ok_tree_counts mode_text some_stage optional trees undos names need shift bind is_set ok_word plain_length read_plain read_n joined read_suffix read_packed read_name entry_of read_tail read_fixed read_entry read_entries read_text count_in need_some read_count read_subtrees read_object read_node read_siblings read_forest read_nodes read_tree mode_in read_mode read_stage read_stages read_undo read_undos read_data read_extension read_extensions checksum_of checksum_in read_body read_file
header_refused = (refl, refl, refl)

-- an entry of 64 bytes of which the last 20 would be the checksum
cut-refused : read_file 20 hash (68 ∷ 73 ∷ 82 ∷ 67 ∷ 0 ∷ 0 ∷ 0 ∷ 2 ∷ 0 ∷ 0 ∷ 0 ∷ 1 ∷ 0 ∷ 0 ∷ 0 ∷ 1 ∷ 0 ∷ 0 ∷ 0 ∷ 2 ∷ 0 ∷ 0 ∷ 0 ∷ 3 ∷ 0 ∷ 0 ∷ 0 ∷ 4 ∷ 0 ∷ 0 ∷ 0 ∷ 5 ∷ 0 ∷ 0 ∷ 0 ∷ 6 ∷ 0 ∷ 0 ∷ 129 ∷ 164 ∷ 0 ∷ 0 ∷ 0 ∷ 7 ∷ 0 ∷ 0 ∷ 0 ∷ 8 ∷ 0 ∷ 0 ∷ 0 ∷ 9 ∷ 17 ∷ 17 ∷ 17 ∷ 17 ∷ 0 ∷ 0 ∷ 0 ∷ 0 ∷ 0 ∷ 0 ∷ 0 ∷ 0 ∷ 0 ∷ 0 ∷ 0 ∷ 0 ∷ 0 ∷ 0 ∷ 0 ∷ 0 ∷ 0 ∷ 0 ∷ 0 ∷ 0 ∷ []) ≡ bad 6 12
unfolding hash be16 be32 be32s two eq_list before lacks zeros digits decimal value_from value components_from components ok_component ok_components ok_name length_field compare ok_mode fixed_length entry_length ok_node_name has distinct under inside files all_valid sum ok_count ok_counts ok_tree_counts mode_text some_stage optional trees undos names need shift bind is_set ok_word plain_length read_plain read_n joined read_suffix read_packed read_name entry_of read_tail read_fixed read_entry read_entries read_text count_in need_some read_count read_subtrees read_object read_node read_siblings read_forest read_nodes read_tree mode_in read_mode read_stage read_stages read_undo read_undos read_data read_extension read_extensions checksum_of checksum_in read_body read_file
cut-refused = refl

-- resolve undo of the path "plan", 100644, missing, 100644: 61 bytes
undo_data : List ℕ
undo_data = 112 ∷ 108 ∷ 97 ∷ 110 ∷ 0 ∷ 49 ∷ 48 ∷ 48 ∷ 54 ∷ 52 ∷ 52 ∷ 0 ∷ 48 ∷ 0 ∷ 49 ∷ 48 ∷ 48 ∷ 54 ∷ 52 ∷ 52 ∷ 0 ∷ 1 ∷ 1 ∷ 1 ∷ 1 ∷ 1 ∷ 1 ∷ 1 ∷ 1 ∷ 1 ∷ 1 ∷ 1 ∷ 1 ∷ 1 ∷ 1 ∷ 1 ∷ 1 ∷ 1 ∷ 1 ∷ 1 ∷ 1 ∷ 3 ∷ 3 ∷ 3 ∷ 3 ∷ 3 ∷ 3 ∷ 3 ∷ 3 ∷ 3 ∷ 3 ∷ 3 ∷ 3 ∷ 3 ∷ 3 ∷ 3 ∷ 3 ∷ 3 ∷ 3 ∷ 3 ∷ 3 ∷ []

undo-read :
    (length undo_data ≡ 61)
    × (read_undos 20 12 61 [] undo_data
    ≡ good
    (
    record {
      path = 112 ∷ 108 ∷ 97 ∷ 110 ∷ [];
      first = record { mode = 0x81a4; object = object 1 };
      second = record { mode = 0; object = object 0 };
      third = record { mode = 0x81a4; object = object 3 };
    } ∷ []
    )
    61)
unfolding undo_data be16 be32 be32s two eq_list before lacks zeros digits decimal value_from value components_from components ok_component ok_components ok_name length_field compare ok_mode fixed_length entry_length ok_node_name has distinct under inside files all_valid sum ok_count ok_counts ok_tree_counts mode_text some_stage optional trees undos names need shift bind is_set ok_word plain_length read_plain read_n joined read_suffix read_packed read_name entry_of read_tail read_fixed read_entry read_entries read_text count_in need_some read_count read_subtrees read_object read_node read_siblings read_forest read_nodes read_tree mode_in read_mode read_stage read_stages read_undo read_undos read_data read_extension read_extensions checksum_of checksum_in read_body read_file
undo-read = (refl, refl)

-- the digest matches, also one that is all zeros; other zeros say that it was left out; all of them have to be there
checksums :
    (checksum_of (7 ∷ 8 ∷ 9 ∷ []) (7 ∷ 8 ∷ 9 ∷ []) ≡ matches)
    × (checksum_of (0 ∷ 0 ∷ 0 ∷ []) (0 ∷ 0 ∷ 0 ∷ []) ≡ matches)
    × (checksum_of (7 ∷ 8 ∷ 9 ∷ []) (0 ∷ 0 ∷ 0 ∷ []) ≡ left_out)
    × (checksum_of (7 ∷ 8 ∷ 9 ∷ []) (0 ∷ 0 ∷ 1 ∷ []) ≡ wrong)
    × (checksum_of (7 ∷ 8 ∷ 9 ∷ []) (1 ∷ 0 ∷ 0 ∷ []) ≡ wrong)
    × (checksum_of (0 ∷ 0 ∷ 0 ∷ []) (0 ∷ 0 ∷ 1 ∷ []) ≡ wrong)
unfolding eq_list zeros checksum_of
checksums = (refl, refl, refl, refl, refl, refl)
