-- What an answer of read_header says of the file f. w is the width of an object name and of the checksum, hash the checksum's function.
use Rattle.std.specs.Prelude.{◌≡◌, List, Bool, true, false, ◌&&◌, ℕ, ◌+◌, ◌-◌, ◌≤◌, length, take, leb, Result, Ok, Err}
use Rattle.format.specs.Bytes.{be32}
use Rattle.format.specs.Checksum.{checksum_in}
use Rattle.format.specs.declared.Fault.{Fault}
use Rattle.format.specs.Refusals.{number_of}
use Rattle.format.specs.Reading.{bad}
use Rattle.format.specs.Reader.{read_body, read_file}
use Rattle.answers.specs.declared.Checksum.{Checksum}
use Rattle.answers.specs.declared.Checksum.TheVariants.{Matches, LeftOut, Wrong}
use Rattle.answers.specs.Answers.{checksum_as}
use Rattle.file_read.specs.declared.header.Opening.{Opening}

-- whether the format has the version v
unfoldable pub is_version : ℕ → Bool
is_version v = leb 2 v && leb v 4

abbrev pub is_wrong : Checksum → Bool
is_wrong Matches = false
is_wrong LeftOut = false
is_wrong Wrong = true

-- the header is accepted: what is left is to read the body, all but the last w bytes
pub record Opened (w : ℕ) (hash : List ℕ → List ℕ) (f : List ℕ) (h : Opening) : Type 0 where
  pub long : 12 + w ≤ length f
  pub short : length f ≤ 16777216
  pub least : 2 ≤ h.version
  pub most : h.version ≤ 4
  pub counted : h.count ≡ be32 (take (length f - w) f) 8
  pub checked : h.checksum ≡ checksum_as (checksum_in w hash f)
  pub read : read_file w hash f ≡ read_body w h.version (checksum_in w hash f) (take (length f - w) f)

abbrev pub HeaderOf : ℕ → (List ℕ → List ℕ) → List ℕ → Result Opening Fault → Type 0
HeaderOf w hash f (Err e) = read_file w hash f ≡ bad (number_of e.refusal) e.place
HeaderOf w hash f (Ok h) = Opened w hash f h
