-- What the functions of this crate answer, from what the reader of the format answers. A refusal is 17 always, so its number is left out. w is the width of
-- an object name.
use Rattle.std.specs.Prelude.{◌≡◌, List, [], ◌∷◌, true, false, cond, ℕ, zero, suc, ◌+◌, ◌-◌, ◌≤◌, ◌<◌, length, take, drop, replicate, eqb}
use Rattle.std.specs.Prelude as Code
use Rattle.std.specs.Prelude.{Some, None}
use Rattle.std.proofs.Math.Option.{Option, none, some}
use Rattle.format.specs.Records.{Undo}
use Rattle.format.specs.Reading.{Read, bad, good, bind}
use Rattle.format.specs.Reader.{read_mode, read_stages, read_undo}
use Rattle.entries.specs.Record.{wide_object}
use Rattle.resolve_undo.specs.declared.Record.{Record}
use Rattle.resolve_undo.specs.declared.Stage.{Stage}
use Rattle.resolve_undo.specs.declared.Shown.{Shown}

-- ---- modes

abbrev pub mode_found : Option ℕ → Code.Option ℕ
mode_found none = None
mode_found (some m) = Some m

-- a mode that was read at the place at, and the place after it
abbrev pub mode_read : ℕ → Read ℕ → Code.Option (ℕ × ℕ)
mode_read at (bad n p) = None
mode_read at (good m k) = Some (m, at + k)

-- the place after a mode is in the data
abbrev pub ModeWithin : ℕ → ℕ → Code.Option (ℕ × ℕ) → Type 0
ModeWithin at end None = Unit
ModeWithin at end (Some (m, next)) = (at < next) × (next ≤ end)

-- ---- one record

-- a mode, and then what k reads after it
unfoldable pub with_mode : ℕ → (ℕ → List ℕ → Read Undo) → List ℕ → Read Undo
with_mode p k s = bind (read_mode p s) λ m n. k m (drop n s)

-- the rest of a record, after its path
unfoldable pub read_modes : ℕ → ℕ → List ℕ → List ℕ → Read Undo
read_modes w p path = with_mode p λ a. with_mode p λ b. with_mode p λ c. read_stages w p path a b c

-- the number of bytes of a stage's object name: none where the stage is missing
unfoldable pub object_length : ℕ → ℕ → ℕ
object_length w mode = cond (eqb mode 0) 0 w

unfoldable pub objects_length : ℕ → Undo → ℕ
objects_length w u = object_length w u.first.mode + object_length w u.second.mode + object_length w u.third.mode

-- the object name of a stage whose bytes, where it is there, begin s
unfoldable pub object_in : ℕ → ℕ → List ℕ → List ℕ
object_in w mode s = cond (eqb mode 0) (replicate w 0) (take w s)

-- a record of k bytes that was read at the place at
abbrev pub record_of : ℕ → ℕ → Undo → ℕ → Record
record_of w at u k =
    record {
      path = length u.path;
      first = u.first.mode;
      second = u.second.mode;
      third = u.third.mode;
      objects = at + k - objects_length w u;
      next = at + k;
    }

abbrev pub record_read : ℕ → ℕ → Read Undo → Code.Option Record
record_read w at (bad n p) = None
record_read w at (good u k) = Some (record_of w at u k)

-- the place after a record is in the data
abbrev pub RecordWithin : ℕ → ℕ → Code.Option Record → Type 0
RecordWithin at end None = Unit
RecordWithin at end (Some r) = (at < r.next) × (r.next ≤ end)

-- r is what k reads at the place at, after a path of size bytes
abbrev pub RestRead : ℕ → ℕ → ℕ → List ℕ → (ℕ → List ℕ → List ℕ → Read Undo) → Code.Option Record → Type 0
RestRead w at size d k r =
    ((p : ℕ) (path : List ℕ) → length path ≡ size → r ≡ record_read w at (k p path (drop at d))) × RecordWithin at (length d) r

-- ---- all records

-- record number n of a list
unfoldable pub item : ℕ → List Undo → Option Undo
item n [] = none
item zero (u ∷ us) = some u
item (suc n) (u ∷ us) = item n us

-- the number of records
abbrev pub records_read : Read (List Undo) → Code.Option ℕ
records_read (bad n p) = None
records_read (good us k) = Some (length us)

-- ---- the record at a place

unfoldable pub value_of : Read Undo → Option Undo
value_of (bad n p) = none
value_of (good u k) = some u

-- the record that the bytes s begin with, whatever the path of the record before it
unfoldable pub undo_at : ℕ → ℕ → List ℕ → Option Undo
undo_at w p s = value_of (read_undo w p [] s)

-- a stage, shown; its object name is in 32 bytes, zeros after it
abbrev pub stage_shown : ℕ → List ℕ → Stage
stage_shown mode object = record { mode = mode; object = wide_object object }

-- a record at the place at, shown
abbrev pub shown : ℕ → Option Undo → Code.Option Shown
shown at none = None
shown at (some u) =
    Some
    (record {
      path = at;
      path_length = length u.path;
      first = stage_shown u.first.mode u.first.object;
      second = stage_shown u.second.mode u.second.object;
      third = stage_shown u.third.mode u.third.object;
    })
