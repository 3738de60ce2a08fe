-- Closed cases of a walk over the listing's example: two entries, at 12 and 76, up to 148. 1 is SHA-1, 2 is SHA-256.
use mathlib.Core.Path.{◌≡◌, refl}
use mathlib.Core.List.{List, [], ◌∷◌, ◌++◌}
use mathlib.Core.Bool.{false}
use Prim.Native.Nat.{ℕ}
use Rattle.std.proofs.Common.{Option, Some, None, Result, Ok, Err}
use lib.ListN.{take, set, replicate}
use Rattle.format.specs.Bytes.{be16, be32, be32s, eq_list, before, lacks, zeros}
use Rattle.format.specs.Names.{components_from, components, ok_component, ok_components, ok_name, length_field, compare}
use Rattle.format.specs.Records.{Entry}
use Rattle.format.specs.Layout.{ok_mode, fixed_length, entry_length}
use Rattle.format.specs.Reading.{need, shift, bind}
use Rattle.format.specs.Reader.{is_set, ok_word, plain_length, read_plain, read_name, entry_of, read_tail, read_fixed, read_entry}
use Rattle.format.specs.Places.{body_in, name_place}
use Rattle.format.proofs.Examples.{file_entry, listing}
use Rattle.kinds.specs.Kinds.{ok_kind, width_of, of_kind}
use Rattle.format.specs.Refusals.{Numbered}
use Rattle.answers.specs.declared.EntryAnswer.{EntryAnswer}
use Rattle.answers.specs.declared.Shown.{Shown}
use Rattle.answers.specs.declared.Shown.TheVariants.{InFile}
use Rattle.answers.specs.Answers.{refused, in_file, entry_shown}
use Rattle.walk.specs.Walks.{place_at, first_place, walkable, walk_read, step_read, walk_answer, place_after, place_after_all, walk_over}

-- both entries, then 18
listing-walked :
    walk_over 1 listing 4 (first_place 2)
    ≡ in_file (file_entry 0x81a4 0x11 (97 ∷ [])) ∷ in_file (file_entry 0x81ed 0x22 (98 ∷ 47 ∷ 99 ∷ [])) ∷ refused 18 0 ∷ refused 18 0 ∷ []
unfolding listing be16 be32 be32s eq_list before lacks zeros components_from components ok_component ok_components ok_name length_field compare ok_mode fixed_length entry_length need shift bind is_set ok_word plain_length read_plain read_name entry_of read_tail read_fixed read_entry ok_kind width_of of_kind walkable walk_read step_read walk_answer place_after walk_over
listing-walked = refl

listing-places : (place_after_all 1 listing 1 (first_place 2) ≡ place_at 76 1) × (place_after_all 1 listing 4 (first_place 2) ≡ place_at 148 0)
unfolding listing be16 be32 be32s eq_list before lacks zeros components_from components ok_component ok_components ok_name length_field compare ok_mode fixed_length entry_length need shift bind is_set ok_word plain_length read_plain read_name entry_of read_tail read_fixed read_entry ok_kind width_of of_kind walkable walk_read step_read place_after place_after_all
listing-places = (refl, refl)

-- where the name of an entry that is shown is
abbrev place_shown : Result EntryAnswer Numbered → Option Shown
place_shown (Ok a) = Some a.shown
place_shown (Err x) = None

-- their names begin 62 bytes on: one byte at 74, three at 138
listing-names :
    (place_shown (entry_shown (name_place 20 12 (body_in 20 listing)) (walk_answer 1 listing 12 2)) ≡ Some (InFile 74 1))
    × (place_shown (entry_shown (name_place 20 76 (body_in 20 listing)) (walk_answer 1 listing 76 1)) ≡ Some (InFile 138 3))
unfolding listing be16 be32 be32s eq_list before lacks zeros components_from components ok_component ok_components ok_name length_field compare ok_mode fixed_length entry_length need shift bind is_set ok_word plain_length read_plain read_name entry_of read_tail read_fixed read_entry name_place ok_kind width_of of_kind walkable walk_read step_read walk_answer
listing-names = (refl, refl)

-- any place with a sound entry will do
second-alone : walk_over 1 listing 2 (place_at 76 9) ≡ in_file (file_entry 0x81ed 0x22 (98 ∷ 47 ∷ 99 ∷ [])) ∷ refused 18 0 ∷ []
unfolding listing be16 be32 be32s eq_list before lacks zeros components_from components ok_component ok_components ok_name length_field compare ok_mode fixed_length entry_length need shift bind is_set ok_word plain_length read_plain read_name entry_of read_tail read_fixed read_entry ok_kind width_of of_kind walkable walk_read step_read walk_answer place_after walk_over
second-alone = refl

-- no entry is at 13 or past the end, and there the place stays; a header of version 4 or without the signature has none to show
no-entry :
    (walk_answer 1 listing 13 2 ≡ refused 18 0)
    × (place_after 1 listing 13 2 ≡ place_at 13 1)
    × (walk_answer 1 listing 1000 2 ≡ refused 18 0)
    × (walk_answer 1 (set listing 7 4) 12 2 ≡ refused 18 0)
    × (walk_answer 1 (set listing 0 0) 12 2 ≡ refused 18 0)
unfolding listing be16 be32 be32s eq_list before lacks zeros components_from components ok_component ok_components ok_name length_field compare ok_mode fixed_length entry_length need shift bind is_set ok_word plain_length read_plain read_name entry_of read_tail read_fixed read_entry ok_kind width_of of_kind walkable walk_read step_read walk_answer place_after
no-entry = (refl, refl, refl, refl, refl)

-- an unknown kind is refused before all else, and the place stays; of SHA-256 the same file has no entry at 12
other-kinds :
    (walk_answer 3 listing 12 2 ≡ refused 29 0)
    × (place_after 3 listing 12 2 ≡ place_at 12 1)
    × (walk_answer 0 [] 0 0 ≡ refused 29 0)
    × (walk_answer 2 listing 12 2 ≡ refused 18 0)
unfolding listing be16 be32 be32s eq_list before lacks zeros components_from components ok_component ok_components ok_name length_field compare ok_mode fixed_length entry_length need shift bind is_set ok_word plain_length read_plain read_name entry_of read_tail read_fixed read_entry ok_kind width_of of_kind walkable walk_read step_read walk_answer place_after
other-kinds = (refl, refl, refl, refl)

-- ---- SHA-256: one entry at 12, its object name of 32 bytes, up to 92; its name is one byte at 86

wide_entry : Entry
wide_entry = record {
  numbers = 1 ∷ 2 ∷ 3 ∷ 4 ∷ 5 ∷ 6 ∷ 0x81a4 ∷ 7 ∷ 8 ∷ 9 ∷ [];
  object = replicate 32 17;
  assume_valid = false;
  stage = 0;
  skip_worktree = false;
  intent_to_add = false;
  name = 97 ∷ [];
}

wide : List ℕ
wide =
    take 52 (set listing 11 1)
    ++ (replicate 32 17 ++ (0 ∷ 1 ∷ 97 ∷ 0 ∷ 0 ∷ 0 ∷ 0 ∷ 0 ∷ [])
    ++ replicate 32 0)

wide-walked :
    (walk_over 2 wide 2 (first_place 1) ≡ in_file wide_entry ∷ refused 18 0 ∷ [])
    × (place_after 2 wide 12 1 ≡ place_at 92 0)
    × (place_shown (entry_shown (name_place 32 12 (body_in 32 wide)) (walk_answer 2 wide 12 1)) ≡ Some (InFile 86 1))
    × (walk_answer 1 wide 12 1 ≡ refused 18 0)
unfolding listing wide wide_entry be16 be32 be32s eq_list before lacks zeros components_from components ok_component ok_components ok_name length_field compare ok_mode fixed_length entry_length need shift bind is_set ok_word plain_length read_plain read_name entry_of read_tail read_fixed read_entry name_place ok_kind width_of of_kind walkable walk_read step_read walk_answer place_after walk_over
wide-walked = (refl, refl, refl, refl)
