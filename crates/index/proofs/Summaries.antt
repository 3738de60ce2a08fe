-- What check says of an accepted file.
use mathlib.Core.Path.{◌≡◌, refl}
use mathlib.Core.List.{List}
use mathlib.Core.Option.{Option, none, some}
use Prim.Native.Nat.{ℕ}
use Rattle.std.specs.Prelude.{Ok}
use Rattle.std.specs.Prelude as P
use Rattle.std.specs.Prelude.{Some, None, option_map}
use Rattle.format.specs.Records as F
use Rattle.format.specs.Reading.{Read, good}
use Rattle.format.specs.Reader.{Contents}
use Rattle.extensions.specs.declared.Place.{Place}
use Rattle.extensions.specs.Found.{TreeFound, UndoFound}
use Rattle.answers.specs.Answers.{tree_count, undo_count, checked_of}
use Rattle.file_read.specs.declared.Parts.{Parts}
use Rattle.file_read.specs.Contents.{Contains}

-- how many items there are, by what was found
module _ (w : ℕ) (b : List ℕ) where
  tree-count : (o : Option F.Tree) (place : P.Option Place) → TreeFound w b o place → option_map (λ p. p.count) place ≡ tree_count o
  tree-count none None h = refl
  tree-count none (Some p) h = absurd h
  tree-count (some t) None h = absurd h
  tree-count (some t) (Some p) h = rw h.nodes

  undo-count : (o : Option (List F.Undo)) (place : P.Option Place) → UndoFound w b o place → option_map (λ p. p.count) place ≡ undo_count o
  undo-count none None h = refl
  undo-count none (Some p) h = absurd h
  undo-count (some us) None h = absurd h
  undo-count (some us) (Some p) h = rw h.records

pub check-says : (w : ℕ) (x : Read Contents) (b : List ℕ) (parts : Parts) (h : Contains w x b parts)
    → Ok
    (record {
      version = parts.version;
      entries = parts.count;
      end = parts.end;
      nodes = option_map (λ p. p.count) parts.found.tree;
      records = option_map (λ p. p.count) parts.found.undo;
      checksum = parts.checksum;
    })
    ≡ checked_of (good h.contents h.taken)
check-says w x b parts h =
    rw (
      h.version,
      h.checksum,
      h.end,
      h.counted,
      tree-count w b h.contents.records.cache_tree parts.found.tree h.tree,
      undo-count w b h.contents.records.resolve_undo parts.found.undo h.undo,
    )
    refl
