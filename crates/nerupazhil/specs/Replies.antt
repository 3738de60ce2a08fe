-- What the calls for other languages leave behind: the replies and the object names, the workspace and the output.
use Rattle.std.specs.Prelude.{◌≡◌, List, ℕ, ◌-◌, drop, replicate, Option, None, Result, Ok, Err}
use Rattle.format.specs.Records as F
use Rattle.format.specs.Reading.{Read}
use Rattle.format.specs.Refusals.{Numbered}
use Rattle.answers.specs.declared.NodeAnswer.{NodeAnswer}
use Rattle.answers.specs.Answers.{View, cleared, work_after, entry_said, node_said, undo_said, entry_shown, node_shown, undo_shown}
use Rattle.answers.specs.Writing.{written_of, output_after}
use Rattle.kinds.specs.Kinds.{width_of, hash_of}
use Rattle.writing.specs.OneFile.{WritesBack}
use Rattle.walk.specs.declared.Place.{Place}
use Rattle.replies.specs.Arrays.{entry_reply, field_numbers, fields_shown, object_shown, node_reply, undo_reply, shown_in, step_reply, write_reply, NameInside}

-- ---- what the calls that show leave behind: the reply, whole, for the view v; the name that it points at, where it has one, is that of the
-- item, and it lies in its buffer. A name in the file is at the place at. w is the width of an object name

-- a number of an answer, and the entry count of a node, where it is valid; of a refusal 0 and none
abbrev pub number_shown : {A : Type 0} → (A → ℕ) → Result A Numbered → ℕ
number_shown number (Err x) = 0
number_shown number (Ok a) = number a

abbrev pub count_shown : Result NodeAnswer Numbered → Option ℕ
count_shown (Err x) = None
count_shown (Ok a) = a.count

-- an object name that is told in 32 bytes, those of the answer; zeros follow its w bytes
pub record Told (w : ℕ) (o object : List ℕ) : Type 0 where
  pub same : object ≡ o
  pub unused : drop w object ≡ replicate (32 - w) 0

pub record EntryReplies (w at : ℕ) (v : View F.Entry) (f work work' reply numbers object : List ℕ) : Type 0 where
  pub whole : reply ≡ entry_reply (entry_shown at v)
  pub fields : numbers ≡ field_numbers (fields_shown (entry_shown at v))
  pub object_is : Told w (fields_shown (entry_shown at v)).object object
  pub said : entry_said w (entry_shown at v) f work' ≡ v
  pub inside : NameInside reply f work'
  pub after : work' ≡ work_after v work

pub record NodeReplies (w at : ℕ) (v : View F.Item) (f reply object : List ℕ) : Type 0 where
  pub whole : reply ≡ node_reply (node_shown at v)
  pub object_is : Told w (object_shown (λ a. a.object) (node_shown at v)) object
  pub said : (work : List ℕ) → node_said w (node_shown at v) f work ≡ v
  pub inside : (work : List ℕ) → NameInside reply f work
  -- of an invalid node
  pub zeros : count_shown (node_shown at v) ≡ None → object ≡ replicate 32 0

-- of a missing stage
abbrev pub StageZeros : ℕ → List ℕ → Type 0
StageZeros mode object = mode ≡ 0 → object ≡ replicate 32 0

pub record UndoReplies (w at : ℕ) (v : View F.Undo) (f reply first second third : List ℕ) : Type 0 where
  pub whole : reply ≡ undo_reply (undo_shown at v)
  pub objects : Told w (object_shown (λ a. a.first) (undo_shown at v)) first × Told w (object_shown (λ a. a.second) (undo_shown at v)) second × Told w (object_shown (λ a. a.third) (undo_shown at v)) third
  pub said : (work : List ℕ) → undo_said w (undo_shown at v) f work ≡ v
  pub inside : (work : List ℕ) → NameInside reply f work
  pub zeros :
      StageZeros (number_shown (λ a. a.first_mode) (undo_shown at v)) first × StageZeros (number_shown (λ a. a.second_mode) (undo_shown at v)) second × StageZeros (number_shown (λ a. a.third_mode) (undo_shown at v)) third

pub record StepReplies (w at : ℕ) (v : View F.Entry) (next : Place) (f reply numbers object : List ℕ) : Type 0 where
  pub whole : reply ≡ step_reply (shown_in (entry_shown at v)) next
  pub fields : numbers ≡ field_numbers (fields_shown (entry_shown at v))
  pub object_is : Told w (fields_shown (entry_shown at v)).object object
  pub said : (work : List ℕ) → entry_said w (entry_shown at v) f work ≡ v
  pub inside : (work : List ℕ) → NameInside reply f work

-- ---- the calls that write

-- the answer x; the output and the workspace after it; what was written is, of the file f and in the version asked for, the one file of its
-- records with a change
pub record WriteReplies (kind : ℕ) (f : List ℕ) (asked : ℕ) (change : F.Records → F.Records) (x : Read (List ℕ)) (out work out' work' reply : List ℕ) : Type 0 where
  pub said : reply ≡ write_reply (written_of x)
  pub filled : out' ≡ output_after x out
  pub after : work' ≡ cleared work
  pub back : WritesBack (width_of kind) (hash_of kind) f asked change x
