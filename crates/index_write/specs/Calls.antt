-- What the calls that write an index leave behind. kind is the kind of its object names.
use Rattle.std.specs.Prelude.{◌≡◌, List, [], true, cond, ℕ, ◌≤◌, length, ltb, Result, Ok, Err}
use Rattle.format.specs.Bytes.{fit32}
use Rattle.format.specs.Names.{ok_name}
use Rattle.format.specs.Records.{Records}
use Rattle.format.specs.Layout.{ok_mode}
use Rattle.format.specs.Reading.{Read, bad}
use Rattle.format.specs.declared.Refusal.{Refusal}
use Rattle.format.specs.Refusals.{number_of, Numbered}
use Rattle.format.specs.Requests.{ok_asked, writing, rewrite_request, put_request, remove_request}
use Rattle.format.specs.Places.{body_in}
use Rattle.kinds.specs.Kinds.{width_of, hash_of, read_kind}
use Rattle.fields.specs.Workspace.{Frame}
use Rattle.writing.specs.OneFile.{WritesBack}
use Rattle.entries.specs.declared.record.Fields.{Fields}
use Rattle.answers.specs.Answers.{cleared}
use Rattle.entries.specs.Record.{entry_with}
use Rattle.answers.specs.Writing.{requested, written_of, output_after}
use Rattle.file_read.specs.declared.Parts.{Parts}
use Rattle.file_read.specs.Contents.{Contains}
use Rattle.entries_edit.specs.declared.Edit.{Edit}
use Rattle.entries_edit.specs.Edits.{passes, Replaces}
use Rattle.file_write.specs.Bodies.{changed}
use Rattle.index_write.specs.declared.Request.{Request}
use Rattle.index_write.specs.declared.Request.TheVariants as Q

-- the answer x as the code gives it; the output and the workspace after it
pub record Writes (x : Read (List ℕ)) (out work out' work' : List ℕ) (r : Result ℕ Numbered) : Type 0 where
  pub said : r ≡ written_of x
  pub filled : out' ≡ output_after x out
  pub after : work' ≡ cleared work

-- and what was written: of the file f, in the version asked for, the one file of its records with a change
pub record Saves (kind : ℕ) (f : List ℕ) (asked : ℕ) (change : Records → Records) (x : Read (List ℕ)) (out work out' work' : List ℕ) (r : Result ℕ Numbered) : Type 0 where
  pub writes : Writes x out work out' work' r
  pub back : WritesBack (width_of kind) (hash_of kind) f asked change x

-- what its type says of a record: each number has 32 bits, the field for the object name 32 bytes
pub record Typed (fields : Fields) : Type 0 where
  pub numbers : fit32 (entry_with 32 fields []).numbers ≡ true
  pub object : length fields.object ≡ 32

-- ---- between the reading of a file and the writing

-- the file f was read, and parts tell where its records are; the workspace is long enough
pub record Opened (kind : ℕ) (f work : List ℕ) (parts : Parts) : Type 0 where
  pub room : 8192 ≤ length work
  pub contains : Contains (width_of kind) (read_kind kind f) (body_in (width_of kind) f) parts

-- and an edit is to be made; fields and name are those of the entry that is put
pub record Planned (kind : ℕ) (f work : List ℕ) (parts : Parts) (edit : Edit) (fields : Fields) (name : List ℕ) : Type 0 where
  pub opened : Opened kind f work parts
  pub reach : passes edit ≤ parts.count
  pub stage : fields.stage ≤ 3
  pub short : length name ≤ 8192
  pub there : Replaces edit name opened.contains.contents.records.entries

-- what is asked of the records that were read, with a name and the fields of the entry that is put
abbrev pub request_of : ℕ → Request → List ℕ → Fields → ℕ → ℕ → Records → Read (List ℕ)
request_of kind Q.Rewrite name fields asked room = rewrite_request (width_of kind) (hash_of kind) asked room
request_of kind Q.Put name fields asked room = put_request (width_of kind) (hash_of kind) asked (entry_with (width_of kind) fields name) room
request_of kind (Q.Remove stage) name fields asked room = remove_request (width_of kind) (hash_of kind) asked (record { name = name; stage = stage }) room

-- the fields and the name of a request that puts nothing
abbrev pub RequestFits : Request → List ℕ → Fields → Type 0
RequestFits Q.Rewrite name fields = (length name ≤ 8192) × (fields.stage ≤ 3)
RequestFits Q.Put name fields = Unit {0}
RequestFits (Q.Remove stage) name fields = fields.stage ≤ 3

-- where the version may be asked for, the request is refused
pub record Refuses (kind : ℕ) (f : List ℕ) (request : Request) (name : List ℕ) (fields : Fields) (n : ℕ) : Type 0 where
  pub is : (asked room : ℕ) → ok_asked asked ≡ true → requested (read_kind kind f) (request_of kind request name fields asked room) ≡ bad n 0

-- or it is an edit, written
pub record Changes (kind : ℕ) (f work : List ℕ) (parts : Parts) (request : Request) (name : List ℕ) (fields : Fields) (edit : Edit) : Type 0 where
  pub planned : Planned kind f work parts edit fields name
  pub is : (asked room : ℕ) → ok_asked asked ≡ true
      → requested (read_kind kind f) (request_of kind request name fields asked room)
      ≡ writing (width_of kind) (hash_of kind) asked room (changed (width_of kind) edit (entry_with (width_of kind) fields name) planned.opened.contains.contents.records)

abbrev pub plan_by : ℕ → List ℕ → List ℕ → Parts → Request → List ℕ → Fields → Result Edit Refusal → Type 0
plan_by kind f work parts request name fields (Err e) = Refuses kind f request name fields (number_of e)
plan_by kind f work parts request name fields (Ok edit) = Changes kind f work parts request name fields edit

pub record PlanFor (kind : ℕ) (f work : List ℕ) (parts : Parts) (request : Request) (name : List ℕ) (fields : Fields) (work' : List ℕ) (r : Result Edit Refusal) : Type 0 where
  pub frame : Frame work work'
  pub is : plan_by kind f work' parts request name fields r

-- the refusal of a record that is to be put, 0 where it is sound
unfoldable pub record_number : Fields → List ℕ → ℕ
record_number fields name = cond (ok_mode fields.mode) (cond (ltb fields.stage 4) (cond (ok_name name) 0 9) 8) 7
