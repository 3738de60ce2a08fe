-- What the reading of a whole file has, and what the code answers of it. w is the width of an object name.
use Rattle.std.specs.Prelude.{◌≡◌, List, ℕ, ◌-◌, ◌≤◌, length, Result, Ok, Err, IfSome}
use Rattle.format.specs.Layout.{TREE, REUC}
use Rattle.format.specs.declared.Fault.{Fault}
use Rattle.format.specs.Refusals.{number_of}
use Rattle.format.specs.Reading.{Read, bad, good}
use Rattle.format.specs.Reader.{Contents}
use Rattle.format.specs.Places.{data_place}
use Rattle.answers.specs.Answers.{checksum_as}
use Rattle.entries_run.specs.Steps.{EntriesRead}
use Rattle.extensions.specs.Found.{TreeFound, UndoFound}
use Rattle.file_read.specs.declared.Parts.{Parts}

-- the reading x has the contents of which the code answers parts; b is the body
pub record Contains (w : ℕ) (x : Read Contents) (b : List ℕ) (parts : Parts) : Type 0 where
  pub contents : Contents
  pub taken : ℕ
  pub read : x ≡ good contents taken
  pub least : 12 ≤ length b
  pub most : length b ≤ 16777216
  pub version : contents.version ≡ parts.version
  pub checksum : checksum_as contents.checksum ≡ parts.checksum
  pub end : contents.end ≡ parts.end
  pub counted : length contents.records.entries ≡ parts.count
  pub entries : EntriesRead w parts.version parts.count b contents.records.entries (parts.end - 12)
  pub tree : TreeFound w b contents.records.cache_tree parts.found.tree
  pub undo : UndoFound w b contents.records.resolve_undo parts.found.undo
  pub tree_at : IfSome parts.found.tree (λ p. p.at ≡ data_place TREE parts.end b)
  pub undo_at : IfSome parts.found.undo (λ p. p.at ≡ data_place REUC parts.end b)

abbrev pub WholeOf : ℕ → Read Contents → List ℕ → Result Parts Fault → Type 0
WholeOf w x b (Err e) = x ≡ bad (number_of e.refusal) e.place
WholeOf w x b (Ok parts) = Contains w x b parts
