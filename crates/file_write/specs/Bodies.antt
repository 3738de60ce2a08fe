-- The records of the file that is written, and what the writing of its body leaves behind. b is the body of the file that was read,
-- w the width of an object name.
use Rattle.std.specs.Prelude.{◌≡◌, List, Bool, true, false, cond, ℕ, ◌+◌, ◌-◌, ◌≤◌, ◌<◌, length}
use Rattle.std.proofs.Math.Option.{Option, some}
use Rattle.format.specs.Records.{Entry, Tree, Records}
use Rattle.format.specs.Layout.{distinct}
use Rattle.format.specs.Writer.{write_body}
use Rattle.format.specs.Requests.{invalid_cache_tree, any_word}
use Rattle.fields.specs.Workspace.{Frame}
use Rattle.entries_run.specs.Steps.{EntriesRead, Room}
use Rattle.output.specs.Output.{Wrote}
use Rattle.extensions.specs.Found.{TreeFound, UndoFound}
use Rattle.entries.specs.declared.record.Fields.{Fields}
use Rattle.file_read.specs.declared.Parts.{Parts}
use Rattle.entries_edit.specs.declared.Edit.{Edit}
use Rattle.entries_edit.specs.declared.Edit.TheVariants as E
use Rattle.entries_edit.specs.declared.rest.WriteEnd.{WriteEnd}
use Rattle.entries_edit.specs.Edits.{edited, passes, Replaces}

-- ---- the records afterwards

-- whether an edit changes entries
abbrev pub changes : Edit → Bool
changes E.Keep = false
changes (E.Put k there) = true
changes (E.Remove k) = true

-- the cache tree, made invalid on the path to a name where entries are changed
unfoldable pub tree_after : ℕ → Bool → List ℕ → Option Tree → Option Tree
tree_after w touched name o = cond touched (invalid_cache_tree w name o) o

-- the records with an edit; e is what is put, or has the name of what is removed
unfoldable pub changed : ℕ → Edit → Entry → Records → Records
changed w edit e r = record {
  entries = edited edit e r.entries;
  cache_tree = tree_after w (changes edit) e.name r.cache_tree;
  resolve_undo = r.resolve_undo;
}

-- how many entries there are afterwards, of count
abbrev pub count_after : Edit → ℕ → ℕ
count_after E.Keep count = count
count_after (E.Put k true) count = count
count_after (E.Put k false) count = count + 1
count_after (E.Remove k) count = count - 1

-- ---- the body that was read

-- siblings of the tree differ in their names
abbrev pub SiblingsDiffer : Option Tree → Type 0
SiblingsDiffer o = (t : Tree) → o ≡ some t → distinct t.subtrees ≡ true

-- it has the records r, of which parts tell where they are
pub record BodyHas (w : ℕ) (b : List ℕ) (parts : Parts) (r : Records) : Type 0 where
  pub entries : EntriesRead w parts.version parts.count b r.entries (parts.end - 12)
  pub counted : length r.entries ≡ parts.count
  pub tree : TreeFound w b r.cache_tree parts.found.tree
  pub undo : UndoFound w b r.resolve_undo parts.found.undo
  pub differ : SiblingsDiffer r.cache_tree

-- it can be written with an edit; fields and name are those of the entry that is put
pub record WriteReady (w : ℕ) (b work : List ℕ) (parts : Parts) (edit : Edit) (fields : Fields) (name : List ℕ) : Type 0 where
  pub room : Room b work
  pub few : parts.count < 4294967295
  pub reach : passes edit ≤ parts.count
  pub stage : fields.stage ≤ 3
  pub short : length name ≤ 8192
  pub records : Records
  pub has : BodyHas w b parts records
  pub there : Replaces edit name records.entries

-- ---- what is written

-- the body of a version, with an edit; e is what is put
pub record BodyWritten (w : ℕ) (b : List ℕ) (parts : Parts) (work : List ℕ) (edit : Edit) (e : Entry) (version : ℕ) (out work' out' : List ℕ) (r : WriteEnd) : Type 0 where
  pub wrote : (x : Records) → BodyHas w b parts x → Replaces edit e.name x.entries → Wrote out 0 (write_body w version (changed w edit e x)) out' r.at
  pub extended : (x : Records) → BodyHas w b parts x → Replaces edit e.name x.entries → r.extended ≡ any_word (changed w edit e x).entries
  pub near : r.at ≤ 1125899906842624
  pub frame : Frame work work'
  pub out_long : length out' ≡ length out
