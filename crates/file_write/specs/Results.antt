-- What the writing of a file leaves behind. b is the body of the file that was read, w the width of an object
-- name and of the checksum, hash the checksum's function.
use Rattle.std.specs.Prelude.{◌≡◌, List, ℕ, ◌≤◌, length, Result}
use Rattle.format.specs.Records.{Entry, Records}
use Rattle.format.specs.Reading.{Read}
use Rattle.format.specs.Refusals.{Numbered}
use Rattle.format.specs.Writer.{write_body}
use Rattle.format.specs.Requests.{any_word, writing}
use Rattle.fields.specs.Workspace.{Frame}
use Rattle.answers.specs.Writing.{written_of, output_after}
use Rattle.file_read.specs.declared.Parts.{Parts}
use Rattle.entries_edit.specs.declared.Edit.{Edit}
use Rattle.entries_edit.specs.declared.rest.WriteEnd.{WriteEnd}
use Rattle.entries_edit.specs.Edits.{Replaces}
use Rattle.file_write.specs.Bodies.{changed, BodyHas}

-- how long the body of a version is with an edit, and whether an entry needs the extended word; e is what is put
pub record Measured (w : ℕ) (b : List ℕ) (parts : Parts) (work : List ℕ) (edit : Edit) (e : Entry) (version : ℕ) (work' : List ℕ) (r : WriteEnd) : Type 0 where
  pub size : (x : Records) → BodyHas w b parts x → Replaces edit e.name x.entries → r.at ≡ length (write_body w version (changed w edit e x))
  pub extended : (x : Records) → BodyHas w b parts x → Replaces edit e.name x.entries → r.extended ≡ any_word (changed w edit e x).entries
  pub near : r.at ≤ 1125899906842624
  pub frame : Frame work work'

-- a request's answer x as the code gives it, and the output after it
pub record Answers (x : Read (List ℕ)) (out out' : List ℕ) (r : Result ℕ Numbered) : Type 0 where
  pub said : r ≡ written_of x
  pub filled : out' ≡ output_after x out

-- the file for a request, with an edit; e is what is put
pub record FileWritten (w : ℕ) (hash : List ℕ → List ℕ)
    (b : List ℕ) (parts : Parts) (work : List ℕ) (asked : ℕ) (edit : Edit) (e : Entry) (out work' out' : List ℕ) (r : Result ℕ Numbered)
    : Type 0 where
  pub answers : (x : Records) → BodyHas w b parts x → Replaces edit e.name x.entries
      → Answers (writing w hash asked (length out) (changed w edit e x)) out out' r
  pub frame : Frame work work'
