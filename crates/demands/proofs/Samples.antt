-- What the witnesses share: a workspace, what closed cases look through, and parts of files for the width w of an object name. Names of
-- entries have three bytes.
use mathlib.Core.Path.{◌≡◌, refl}
use mathlib.Core.List.{List, [], ◌∷◌, ◌++◌}
use mathlib.Core.Bool.{Bool, true, false, ◌&&◌}
use Prim.Native.Nat.{ℕ, zero, suc, ◌+◌, ◌-◌, ◌*◌}
use native.Mathlib.Omega.{arith}
use lib.ListN.{length, replicate}
use lib.Dec.{ltb}
use borrow.Author.Tests.{ltb-true}
use Rattle.hash_words.specs.Blocks.{absorb, digest_of}
use Rattle.hash_words.specs.Padding.{be64, padded, pad}
use Rattle.hash_words.specs.Words.{bytes4, words, be32 as word}
use Rattle.hash.specs.Sha1.{quarter, f, K, H0, next_word, extended, schedule, round, rounds, chain, block, digest}
use Rattle.sha256.specs.Sha256.{big0, big1, small0, small1, constants, K as K256, H0 as H0256, next_word as next_word256, extended as extended256, schedule as schedule256, T1, T2, round as round256, rounds as rounds256, chain as chain256, block as block256, digest as digest256}
use Rattle.format.specs.Bytes.{Bytes, put16, put32, put32s, put_n, be16, be32, be32s, two, eq_list, before, lacks, zeros, digits, decimal, value_from, value}
use Rattle.format.specs.Names.{components_from, components, ok_component, ok_components, ok_name, length_field, compare, common}
use Rattle.format.specs.Layout.{ok_mode, fixed_length, entry_length, flags_of, word_of, ok_node_name, has, distinct, under, inside, files, all_valid, sum, ok_count, ok_counts, ok_tree_counts, mode_text, some_stage, optional, trees, undos, names}
use Rattle.format.specs.Checksum.{checksum_of, checksum_in}
use Rattle.format.specs.Reading.{need, shift, bind}
use Rattle.format.specs.Reader.{is_set, ok_word, plain_length, read_plain, read_n, joined, read_suffix, read_packed, read_name, entry_of, read_tail, read_fixed, read_entry, read_entries, read_text, count_in, need_some, read_count, read_subtrees, read_object, read_node, read_siblings, read_forest, read_nodes, read_tree, mode_in, read_mode, read_stage, read_stages, read_undo, read_undos, read_data, read_extension, read_extensions, read_body, read_file}
use Rattle.format.specs.Records.{Entry, mode_of, Undo, width, items, tree_items}
use Rattle.format.specs.Writer.{needs_word, write_plain, write_packed, write_name, write_rest, write_entry, write_entries, digits_of, decimal_of, write_count, write_object, write_node, write_forest, write_tree, write_stage, write_undo, write_undos, write_extension, write_cache_tree, write_resolve_undo, write_extensions, write_header, write_body, write_file}
use Rattle.format.specs.Requests.{goes_before, same_key, mixes, put_entry, remove_entry, holds, mixed, invalid_node, invalid_path, invalid_tree, invalid_cache_tree, put_record, remove_record, any_word, ok_asked, version_of, version_for, fitting, writing, rewrite_request, put_request, remove_request}
use Rattle.format_laws.proofs.Tests.{and-inv}
use Rattle.kinds.specs.Kinds.{ok_kind, width_of, hash_of, of_kind, read_kind}
use Rattle.answers.specs.Answers.{too_small, in_room, check_answer, entry_answer, node_answer, undo_answer}
use Rattle.answers.specs.Writing.{rewrite_answer, put_answer, remove_answer}

unfoldable pub work : List ℕ
work = replicate 8192 0

-- what the closed cases look through, said once: where this unfolds, all that its line names does
unfoldable pub closed : Bool
unfolding work ok_kind width_of hash_of of_kind read_kind word bytes4 words be64 padded pad quarter f K H0 next_word extended schedule round rounds chain block absorb digest digest_of big0 big1 small0 small1 constants K256 H0256 next_word256 extended256 schedule256 T1 T2 round256 rounds256 chain256 block256 digest256 put16 put32 put32s put_n be16 be32 be32s two eq_list before lacks zeros digits decimal value_from value components_from components ok_component ok_components ok_name length_field compare common mode_of width items tree_items ok_mode fixed_length entry_length flags_of word_of ok_node_name has distinct under inside files all_valid sum ok_count ok_counts ok_tree_counts mode_text some_stage optional trees undos names need shift bind is_set ok_word plain_length read_plain read_n joined read_suffix read_packed read_name entry_of read_tail read_fixed read_entry read_entries read_text count_in need_some read_count read_subtrees read_object read_node read_siblings read_forest read_nodes read_tree mode_in read_mode read_stage read_stages read_undo read_undos read_data read_extension read_extensions checksum_of checksum_in read_body read_file needs_word write_plain write_packed write_name write_rest write_entry write_entries digits_of decimal_of write_count write_object write_node write_forest write_tree write_stage write_undo write_undos write_extension write_cache_tree write_resolve_undo write_extensions write_header write_body write_file goes_before same_key mixes mixed put_entry remove_entry holds invalid_node invalid_path invalid_tree invalid_cache_tree put_record remove_record any_word ok_asked version_of version_for fitting writing rewrite_request put_request remove_request too_small in_room check_answer entry_answer node_answer undo_answer rewrite_answer put_answer remove_answer
closed = true

pub room : too_small work ≡ false
unfolding too_small work
room = refl

-- a test that every element is a byte, and what it shows
unfoldable pub below : List ℕ → Bool
below [] = true
below (x ∷ s) = ltb x 256 && below s

pub all-below : (s : List ℕ) → below s ≡ true → Bytes s
unfolding below
all-below [] h i = omega arith
all-below (x ∷ s) h zero = ltb-true x 256 (and-inv (ltb x 256) (below s) h).0
all-below (x ∷ s) h (suc i) = all-below s (and-inv (ltb x 256) (below s) h).1 i

-- ---- bytes

-- an entry up to its name, with the object name of w bytes b
abbrev pub fixed_part : ℕ → ℕ → List ℕ
fixed_part w b = replicate 24 0 ++ (0 ∷ 0 ∷ 129 ∷ 164 ∷ (replicate 12 0 ++ (replicate w b ++ (0 ∷ 3 ∷ []))))

-- an entry of version 2
abbrev pub plain : ℕ → ℕ → List ℕ → List ℕ
plain w b name = fixed_part w b ++ (name ++ replicate (entry_length (42 + w) 3 - (45 + w)) 0)

-- a file: n entries, the nodes of the cache tree, resolve undo of "plan", the checksum
abbrev pub index_bytes : ℕ → ℕ → List ℕ → List ℕ → List ℕ → List ℕ
index_bytes w n entries nodes checksum =
    68 ∷ 73 ∷ 82 ∷ 67 ∷ 0 ∷ 0 ∷ 0 ∷ 2 ∷ 0 ∷ 0 ∷ 0 ∷ n ∷ (entries ++ (84 ∷ 82 ∷ 69 ∷ 69 ∷ 0 ∷ 0 ∷ 0 ∷ length nodes ∷ (nodes
    ++ (82 ∷ 69 ∷ 85 ∷ 67 ∷ 0 ∷ 0 ∷ 0 ∷ (21 + 2 * w) ∷ 112 ∷ 108 ∷ 97 ∷ 110 ∷ 0 ∷ 49 ∷ 48 ∷ 48 ∷ 54 ∷ 52 ∷ 52 ∷ 0 ∷ 48 ∷ 0 ∷ 49 ∷ 48 ∷ 48 ∷ 54 ∷ 52 ∷ 52 ∷ 0 ∷ (replicate w 119
    ++ (replicate w 136 ++ checksum))))))

-- ---- records

abbrev pub plain_entry : ℕ → ℕ → List ℕ → Entry
plain_entry w b name = record {
  numbers = 0 ∷ 0 ∷ 0 ∷ 0 ∷ 0 ∷ 0 ∷ 0x81a4 ∷ 0 ∷ 0 ∷ 0 ∷ [];
  object = replicate w b;
  assume_valid = false;
  stage = 0;
  skip_worktree = false;
  intent_to_add = false;
  name = name;
}

abbrev pub plan : ℕ → Undo
plan w = record {
  path = 112 ∷ 108 ∷ 97 ∷ 110 ∷ [];
  first = record { mode = 0x81a4; object = replicate w 119 };
  second = record { mode = 0; object = replicate w 0 };
  third = record { mode = 0x81a4; object = replicate w 136 };
}
