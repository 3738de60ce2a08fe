-- The definitions computed on data of two records, "a" and "b", each with its second stage only, with object names of 20 bytes and of 32.
use mathlib.Core.Path.{◌≡◌, refl}
use mathlib.Core.List.{List, [], ◌∷◌, ◌++◌}
use Prim.Native.Nat.{ℕ}
use lib.ListN.{drop, replicate}
use Rattle.format.specs.Bytes.{eq_list, before, lacks}
use Rattle.format.specs.Names.{components_from, components, ok_component, ok_components, ok_name, compare}
use Rattle.format.specs.Layout.{mode_text, some_stage}
use Rattle.format.specs.Reading.{need, shift, bind}
use Rattle.format.specs.Reader.{read_text, need_some, mode_in, read_mode, read_stage, read_stages, read_undo, read_undos}
use Rattle.std.specs.Prelude.{Some, None}
use Rattle.format.specs.Places.{after_undo, undo_start}
use Rattle.resolve_undo.specs.Answers.{records_read, value_of, undo_at, shown}

-- 13 bytes and w: the path b, the texts "0", "100644", "0", and the object name of w bytes b
abbrev one : ℕ → ℕ → List ℕ
one w b = b ∷ 0 ∷ 48 ∷ 0 ∷ 49 ∷ 48 ∷ 48 ∷ 54 ∷ 52 ∷ 52 ∷ 0 ∷ 48 ∷ 0 ∷ replicate w b

both_read : records_read (read_undos 20 0 66 [] (one 20 97 ++ one 20 98)) ≡ Some 2
unfolding eq_list before lacks components_from components ok_component ok_components ok_name compare mode_text some_stage need shift bind read_text need_some mode_in read_mode read_stage read_stages read_undo read_undos
both_read = refl

second-place : undo_start 20 0 1 [] (one 20 97 ++ one 20 98) ≡ 33
unfolding eq_list before lacks components_from components ok_component ok_components ok_name compare mode_text some_stage need shift bind read_text need_some mode_in read_mode read_stage read_stages read_undo after_undo undo_start
second-place = refl

not-rising : records_read (read_undos 20 0 66 [] (one 20 97 ++ one 20 97)) ≡ None
unfolding eq_list before lacks components_from components ok_component ok_components ok_name compare mode_text some_stage need shift bind read_text need_some mode_in read_mode read_stage read_stages read_undo read_undos
not-rising = refl

second-shown : shown 33 (undo_at 20 0 (drop 33 (one 20 97 ++ one 20 98)))
    ≡ Some (record {
      path = 33;
      path_length = 1;
      first = record { mode = 0; object = replicate 32 0 };
      second = record { mode = 0x81a4; object = replicate 20 98 ++ replicate 12 0 };
      third = record { mode = 0; object = replicate 32 0 };
    })
unfolding eq_list before lacks components_from components ok_component ok_components ok_name compare mode_text some_stage need shift bind read_text need_some mode_in read_mode read_stage read_stages read_undo value_of undo_at
second-shown = refl

wide-shown : shown 45 (undo_at 32 0 (drop 45 (one 32 97 ++ one 32 98)))
    ≡ Some (record {
      path = 45;
      path_length = 1;
      first = record { mode = 0; object = replicate 32 0 };
      second = record { mode = 0x81a4; object = replicate 32 98 };
      third = record { mode = 0; object = replicate 32 0 };
    })
unfolding eq_list before lacks components_from components ok_component ok_components ok_name compare mode_text some_stage need shift bind read_text need_some mode_in read_mode read_stage read_stages read_undo value_of undo_at
wide-shown = refl
