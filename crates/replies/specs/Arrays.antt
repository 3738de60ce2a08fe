-- The answers of the calls as lists of exactly so many numbers, as another language has them behind a pointer. The first number is the refusal, 0 of a success, the
-- second its place; all that does not apply is 0.
use Rattle.std.specs.Prelude.{List, [], ◌∷◌, ◌++◌, cond, not, ℕ, ◌+◌, ◌-◌, ◌≤◌, length, take, get_or, replicate, eqb, is_some, Result, Ok, Err}
use Rattle.std.specs.Option.{unwrap_or}
use Rattle.format.specs.Layout.{bit}
use Rattle.format.specs.Refusals.{Numbered}
use Rattle.entries.specs.declared.record.Fields.{Fields}
use Rattle.entries.specs.Record.{no_fields}
use Rattle.answers.specs.declared.Checksum.{Checksum}
use Rattle.answers.specs.declared.Checksum.TheVariants.{Matches, LeftOut, Wrong}
use Rattle.answers.specs.declared.Summary.{Summary}
use Rattle.answers.specs.declared.Shown.{Shown}
use Rattle.answers.specs.declared.Shown.TheVariants as S
use Rattle.answers.specs.declared.EntryAnswer.{EntryAnswer}
use Rattle.answers.specs.declared.NodeAnswer.{NodeAnswer}
use Rattle.answers.specs.declared.UndoAnswer.{UndoAnswer}
use Rattle.answers.specs.Answers.{part_in}
use Rattle.walk.specs.declared.Place.{Place}

-- ---- a refusal: its number, its place, zeros; n numbers

abbrev pub refusal_reply : ℕ → Numbered → List ℕ
refusal_reply n x = x.number ∷ x.place ∷ replicate (n - 2) 0

-- ---- check: 16 numbers, of which 6 are for what check may tell later

abbrev pub is_left_out : Checksum → ℕ
is_left_out Matches = 0
is_left_out LeftOut = 1
is_left_out Wrong = 0

-- version, entries, the byte where they end, whether there is a cache tree, its nodes, whether there is a resolve-undo extension, its records,
-- whether the checksum was left out
abbrev pub check_reply : Result Summary Numbered → List ℕ
check_reply (Err x) = refusal_reply 16 x
check_reply (Ok s) =
    0 ∷ 0 ∷ s.version ∷ s.entries ∷ s.end
    ∷ bit (is_some s.nodes) ∷ unwrap_or s.nodes 0 ∷ bit (is_some s.records) ∷ unwrap_or s.records 0 ∷ is_left_out s.checksum
    ∷ replicate 6 0

-- ---- what is shown

-- where its name is: the buffer, 1 the file, 2 the workspace; the offset in it, the length
abbrev pub name_reply : Shown → List ℕ
name_reply (S.InFile at n) = 0 ∷ 0 ∷ 1 ∷ at ∷ n ∷ []
name_reply (S.InWorkspace n) = 0 ∷ 0 ∷ 2 ∷ 0 ∷ n ∷ []

-- or a refusal
abbrev pub shown_reply : Result Shown Numbered → List ℕ
shown_reply (Err x) = refusal_reply 5 x
shown_reply (Ok s) = name_reply s

-- where the name of an entry is
abbrev pub shown_in : Result EntryAnswer Numbered → Result Shown Numbered
shown_in (Err x) = Err x
shown_in (Ok a) = Ok a.shown

abbrev pub entry_reply : Result EntryAnswer Numbered → List ℕ
entry_reply r = shown_reply (shown_in r)

-- level, whether the count is valid, the count, the number of subtrees
abbrev pub node_reply : Result NodeAnswer Numbered → List ℕ
node_reply (Err x) = refusal_reply 9 x
node_reply (Ok a) = name_reply a.shown ++ (a.level ∷ bit (is_some a.count) ∷ unwrap_or a.count 0 ∷ a.subtrees ∷ [])

-- the modes of its stages
abbrev pub undo_reply : Result UndoAnswer Numbered → List ℕ
undo_reply (Err x) = refusal_reply 8 x
undo_reply (Ok a) = name_reply a.shown ++ (a.first_mode ∷ a.second_mode ∷ a.third_mode ∷ [])

-- the place after the entry, and how many remain there
abbrev pub step_reply : Result Shown Numbered → Place → List ℕ
step_reply (Err x) next = refusal_reply 7 x
step_reply (Ok s) next = name_reply s ++ (next.at ∷ next.left ∷ [])

-- the fields of an entry but its object name and its name
abbrev pub field_numbers : Fields → List ℕ
field_numbers x =
    x.ctime_seconds ∷ x.ctime_nanoseconds ∷ x.mtime_seconds ∷ x.mtime_nanoseconds ∷ x.dev ∷ x.ino ∷ x.mode ∷ x.uid ∷ x.gid ∷ x.size
    ∷ bit x.assume_valid ∷ x.stage ∷ bit x.skip_worktree ∷ bit x.intent_to_add
    ∷ []

-- the fields beside a reply: zeros and false of a refusal
abbrev pub fields_shown : Result EntryAnswer Numbered → Fields
fields_shown (Err x) = no_fields
fields_shown (Ok a) = a.fields

-- an object name beside a reply: zeros of a refusal
abbrev pub object_shown : {A : Type 0} → (A → List ℕ) → Result A Numbered → List ℕ
object_shown object (Err x) = replicate 32 0
object_shown object (Ok a) = object a

-- ---- the calls that write, the start of a walk

abbrev pub write_reply : Result ℕ Numbered → List ℕ
write_reply (Err x) = refusal_reply 3 x
write_reply (Ok n) = 0 ∷ 0 ∷ n ∷ []

abbrev pub start_reply : Result ℕ Numbered → List ℕ
start_reply (Err x) = refusal_reply 4 x
start_reply (Ok n) = 0 ∷ 0 ∷ 12 ∷ n ∷ []

-- ---- what a program reads from a reply

abbrev pub refusal_in : List ℕ → ℕ
refusal_in reply = get_or reply 0 0

abbrev pub place_in : List ℕ → ℕ
place_in reply = get_or reply 1 0

-- the buffer that a name is a part of
unfoldable pub buffer_in : List ℕ → (file work : List ℕ) → List ℕ
buffer_in reply file work = cond (eqb (get_or reply 2 0) 1) file (cond (eqb (get_or reply 2 0) 2) work [])

-- the bytes that a name points at
unfoldable pub bytes_in : List ℕ → (file work : List ℕ) → List ℕ
bytes_in reply file work = part_in (get_or reply 3 0) (get_or reply 4 0) (buffer_in reply file work)

abbrev pub NameInside : List ℕ → (file work : List ℕ) → Type 0
NameInside reply file work = get_or reply 3 0 + get_or reply 4 0 ≤ length (buffer_in reply file work)

-- an object name: the first w of 32 bytes
abbrev pub object_in : ℕ → List ℕ → List ℕ
object_in w object = take w object

-- the fields of an entry: as a call shows them, and as a caller gives them to put
abbrev pub given_fields : (numbers object : List ℕ) → Fields
given_fields numbers object = record {
  ctime_seconds = get_or numbers 0 0;
  ctime_nanoseconds = get_or numbers 1 0;
  mtime_seconds = get_or numbers 2 0;
  mtime_nanoseconds = get_or numbers 3 0;
  dev = get_or numbers 4 0;
  ino = get_or numbers 5 0;
  mode = get_or numbers 6 0;
  uid = get_or numbers 7 0;
  gid = get_or numbers 8 0;
  size = get_or numbers 9 0;
  object = object;
  assume_valid = not (eqb (get_or numbers 10 0) 0);
  stage = get_or numbers 11 0;
  skip_worktree = not (eqb (get_or numbers 12 0) 0);
  intent_to_add = not (eqb (get_or numbers 13 0) 0);
}
