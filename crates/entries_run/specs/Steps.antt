-- Where names are, and what a step over an entry leaves behind. w is the width of an object name.
use Rattle.std.specs.Prelude.{◌≡◌, List, Result, Ok, Err, ◌++◌, Bool, true, false, cond, ℕ, ◌+◌, ◌-◌, ◌/◌, ◌%◌, ◌≤◌, ◌<◌, length, take, drop, eqb}
use Rattle.std.proofs.Math.Option.{Option, none, some}
use Rattle.std.proofs.Math.ListN.{get_elem?}
use Rattle.format.specs.Bytes.{be16}
use Rattle.format.specs.Names.{compare, common, rises}
use Rattle.format.specs.declared.Refusal.{Refusal}
use Rattle.format.specs.declared.Fault.{Fault}
use Rattle.format.specs.Refusals.{number_of, Numbered, denied, numbered, numbered_at}
use Rattle.format.specs.Records.{Entry, Key, start}
use Rattle.format.specs.Layout.{fixed_length}
use Rattle.format.specs.Reading.{Read, bad, good, shift}
use Rattle.format.specs.Reader.{is_set, read_n, entry_of, read_tail, read_entry, read_entries}
use Rattle.format.specs.Places.{entry_place, name_place}
use Rattle.fields.specs.Begun.{Begun}
use Rattle.fields.specs.Workspace.{Frame}
use Rattle.entries.specs.declared.Head.{Head}
use Rattle.entries.specs.Answers.{read_head, fixed_of, head_length, Size, HeadPassed}
use Rattle.entries_run.specs.declared.Cursor.{Cursor}
use Rattle.entries_run.specs.declared.Step.{Step}
use Rattle.entries_run.specs.declared.Sought.{Sought}
use Rattle.entries_run.specs.declared.Standing.{Standing}

-- ---- places

-- a name of len bytes: first in the workspace in version 4, at its start in the body b in versions 2 and 3
unfoldable pub name_at : ℕ → List ℕ → List ℕ → ℕ → ℕ → List ℕ
name_at v b work start len = cond (eqb v 4) (take len work) (take len (drop start b))

-- a cursor by its parts
abbrev pub cursor_of : ℕ → ℕ → ℕ → ℕ → Cursor
cursor_of at start len stage = record { at = at; start = start; len = len; stage = stage }

-- where it is known, the name before a cursor begins a sound one
abbrev pub KnownBegun : Bool → List ℕ → Type 0
KnownBegun known name = known ≡ true → Begun name

-- the name and the stage before a cursor
abbrev pub key_at : ℕ → List ℕ → List ℕ → Cursor → Key
key_at v b work c = record { name = name_at v b work c.start c.len; stage = c.stage }

-- the entry at a place, from what a step over it says
abbrev pub entry_at : ℕ → ℕ → List ℕ → List ℕ → ℕ → Step → Entry
entry_at w v b work at st = entry_of w (drop at b) st.flags st.word (name_at v b work st.next.start st.next.len)

-- a cursor in the body b; the name before it ends at or before it
pub record Inside (b : List ℕ) (c : Cursor) : Type 0 where
  pub small : length b ≤ 16777216
  pub inside : c.at ≤ length b
  pub behind : c.start + c.len ≤ c.at
  pub short : c.len ≤ 8192

-- and the bytes h before the name of the entry there
pub record HeadAt (b : List ℕ) (c : Cursor) (h : Head) : Type 0 where
  pub cursor : Inside b c
  pub most : h.length ≤ 76
  pub there : c.at + h.length ≤ length b

-- what a function answers that reads these bytes at a place, whether they were read before or not
pub record HeadRead (w : ℕ) (again : Bool) (v : ℕ) (b : List ℕ) (at : ℕ) (r : Result Head Refusal) : Type 0 where
  pub first : again ≡ false → (p : ℕ) → numbered r ≡ fixed_of (read_head w v p (drop at b))
  pub later : again ≡ true → HeadPassed w b at r
  pub sized : (h : Head) → r ≡ Ok h → Size w (drop at b) h
  pub there : at + head_length r ≤ length b

-- and the number N after them, in version 4
pub record NumberAt (b work : List ℕ) (c : Cursor) (h : Head) (n took : ℕ) : Type 0 where
  pub head : HeadAt b c h
  pub number : (p : ℕ) → read_n p c.len (drop (c.at + h.length) b) ≡ good n took
  pub fits : n ≤ c.len
  pub more : c.at + h.length + took ≤ length b
  pub room : 8192 ≤ length work

-- a body and a workspace that the run of entries takes
pub record Room (b work : List ℕ) : Type 0 where
  pub least : 12 ≤ length b
  pub most : length b ≤ 16777216
  pub room : 8192 ≤ length work

-- ---- two names

-- how the name t, of stage n, compares to the name s, of stage m
pub record StandingOf (s t : List ℕ) (m n : ℕ) (r : Standing) : Type 0 where
  pub rises : r.rises ≡ rises (compare s t) m n
  pub common : r.common ≡ common s t
  pub fits : r.common ≤ length s

-- of the first p bytes of the workspace the last n are replaced by s
pub record NameRebuilt (work : List ℕ) (p n : ℕ) (s : List ℕ) (k l : ℕ) (work' : List ℕ) (r : Standing) : Type 0 where
  pub rises : r.rises ≡ rises (compare (take p work) (take (p - n) work ++ s)) k l
  pub common : r.common ≡ common (take p work) (take (p - n) work ++ s)
  pub held : work' ≡ take (p - n) work ++ (s ++ drop (p - n + length s) work)

-- ---- one step

-- a step over an entry with the bytes h before its name
abbrev pub step_of : Head → ℕ → ℕ → ℕ → ℕ → Step
step_of h common at start len = record {
  head = h.length;
  flags = h.flags;
  word = h.word;
  common = common;
  next = record { at = at; start = start; len = len; stage = h.flags / 4096 % 4 };
}

-- an answer as the reader gives it, for the entry at a place that the reader calls p
abbrev pub read_of : ℕ → ℕ → List ℕ → List ℕ → ℕ → ℕ → Result Step Refusal → Read Entry
read_of w v b work at p (Err e) = bad (number_of e) p
read_of w v b work at p (Ok st) = good (entry_at w v b work at st) (st.next.at - at)

-- the parts of a step
pub record StepFound (w : ℕ) (v : ℕ) (b work : List ℕ) (c : Cursor) (work' : List ℕ) (st : Step) : Type 0 where
  pub next : Inside b st.next
  pub flags : st.flags ≡ be16 (drop c.at b) (40 + w)
  pub head : st.head ≡ fixed_length w (is_set 16384 st.flags)
  pub least : 40 + w + 2 ≤ st.head
  pub begins : eqb v 4 ≡ false → st.next.start ≡ c.at + st.head
  pub ahead : c.at + st.head < st.next.at
  pub stage : st.next.stage ≡ st.flags / 4096 % 4
  pub common : st.common ≡ common (name_at v b work c.start c.len) (name_at v b work' st.next.start st.next.len)

-- what a function leaves behind that reads an entry as read does, at each place: the answer r, and work', which was work
pub record StepAnswered (w : ℕ) (read : ℕ → Read Entry) (v : ℕ) (b work : List ℕ) (c : Cursor) (work' : List ℕ) (r : Result Step Refusal) : Type 0 where
  pub same : (p : ℕ) → read p ≡ read_of w v b work' c.at p r
  pub found : (st : Step) → r ≡ Ok st → StepFound w v b work c work' st
  pub frame : Frame work work'
  pub plain : eqb v 4 ≡ false → work' ≡ work

-- what a function leaves behind that passes an entry, which was read before, without its tests: where read reads one, what StepAnswered w says;
-- in any case a place in the body
pub record StepRepeated (w : ℕ) (read : ℕ → Read Entry) (v : ℕ) (b work : List ℕ) (c : Cursor) (work' : List ℕ) (r : Result Step Refusal) : Type 0 where
  pub same : (p : ℕ) (e : Entry) (m : ℕ) → read p ≡ good e m → StepAnswered w read v b work c work' r
  pub inside : (st : Step) → r ≡ Ok st → Inside b st.next
  pub common : (st : Step) → r ≡ Ok st → st.common ≤ st.next.len
  pub frame : Frame work work'

-- the one or the other, whether the entry was read before or not
pub record StepTested (w : ℕ) (again : Bool) (read : ℕ → Read Entry) (v : ℕ) (b work : List ℕ) (c : Cursor) (work' : List ℕ) (r : Result Step Refusal) : Type 0 where
  pub first : again ≡ false → StepAnswered w read v b work c work' r
  pub later : StepRepeated w read v b work c work' r

-- what read_entry reads after the bytes h
unfoldable pub read_rest : ℕ → ℕ → List ℕ → List ℕ → Cursor → Head → ℕ → Read Entry
read_rest w v b work c h p = shift h.length (read_tail w v (key_at v b work c) p h.length h.flags h.word (drop c.at b))

-- a step over the entry at a cursor
abbrev pub EntryStepped : ℕ → ℕ → List ℕ → List ℕ → Cursor → List ℕ → Result Step Refusal → Type 0
EntryStepped w v b work c work' r = StepAnswered w (λ p. read_entry w v (key_at v b work c) p (drop c.at b)) v b work c work' r

-- the same over an entry that was read before
abbrev pub EntryPassed : ℕ → ℕ → List ℕ → List ℕ → Cursor → List ℕ → Result Step Refusal → Type 0
EntryPassed w v b work c work' r = StepRepeated w (λ p. read_entry w v (key_at v b work c) p (drop c.at b)) v b work c work' r

-- ---- the run

-- before the first entry is the empty name
abbrev pub first_cursor : Cursor
first_cursor = cursor_of 12 0 0 0

-- n entries of the body b, from a cursor on
abbrev pub run_from : ℕ → ℕ → ℕ → List ℕ → List ℕ → Cursor → Read (List Entry)
run_from w v n b work c = read_entries w v n (key_at v b work c) c.at (drop c.at b)

-- n entries of the body b after the key k, from a place on, were read: es, m bytes
abbrev pub ReadAfter : ℕ → ℕ → ℕ → List ℕ → Key → ℕ → List Entry → ℕ → Type 0
ReadAfter w v n b k at es m = read_entries w v n k at (drop at b) ≡ good es m

-- from a cursor on
abbrev pub RunRead : ℕ → ℕ → ℕ → List ℕ → List ℕ → Cursor → List Entry → ℕ → Type 0
RunRead w v n b work c es m = ReadAfter w v n b (key_at v b work c) c.at es m

-- from the first entry on
abbrev pub EntriesRead : ℕ → ℕ → ℕ → List ℕ → List Entry → ℕ → Type 0
EntriesRead w v count b es m = ReadAfter w v count b start 12 es m

-- count entries of the body b were read
abbrev pub AllRead : ℕ → ℕ → ℕ → List ℕ → Type 0
AllRead w v count b = (es : List Entry) × (m : ℕ) × EntriesRead w v count b es m

-- n entries, and perhaps more after them, were read from a cursor on
pub record Readable (w : ℕ) (v n : ℕ) (b work : List ℕ) (c : Cursor) : Type 0 where
  pub more : ℕ
  pub entries : List Entry
  pub taken : ℕ
  pub run : RunRead w v (n + more) b work c entries taken

-- where entries end, or the refusal's number and place
abbrev pub run_of : Read (List Entry) → Result ℕ Numbered
run_of (bad n p) = denied n p
run_of (good es m) = Ok (12 + m)

-- the end, 0 of a refusal
abbrev pub end_of : Result ℕ Fault → ℕ
end_of (Ok e) = e
end_of (Err f) = 0

-- what the run of count entries leaves behind
pub record RunAnswered (w : ℕ) (v : ℕ) (b work : List ℕ) (count : ℕ) (work' : List ℕ) (r : Result ℕ Fault) : Type 0 where
  pub same : numbered_at r ≡ run_of (read_entries w v count start 12 (drop 12 b))
  pub inside : end_of r ≤ length b
  pub frame : Frame work work'

-- ---- entry number k

-- the entry that was sought
abbrev pub sought_in : ℕ → ℕ → List ℕ → List ℕ → Result Sought Fault → Option Entry
sought_in w v b work (Ok s) = some (entry_at w v b work s.at s.step)
sought_in w v b work (Err f) = none

-- where the parts of the entry at a place are
pub record EntryPlaced (w : ℕ) (b : List ℕ) (at : ℕ) (st : Step) : Type 0 where
  pub fixed : at + (40 + w) ≤ length b
  pub name : st.next.start + st.next.len ≤ length b
  pub short : st.next.len ≤ 8192
  pub stage : st.next.stage ≡ st.flags / 4096 % 4

-- of a body with more than k entries, entry k was found: its place and, in versions 2 and 3, that of its name
pub record SeekAnswered (w : ℕ) (v : ℕ) (b work : List ℕ) (k : ℕ) (work' : List ℕ) (r : Result Sought Fault) : Type 0 where
  pub entry : (count : ℕ) (es : List Entry) (m : ℕ) → EntriesRead w v count b es m → k < count → get_elem? es k ≡ sought_in w v b work' r
  pub placed : (s : Sought) → r ≡ Ok s → EntryPlaced w b s.at s.step
  pub place : (s : Sought) → r ≡ Ok s → s.at ≡ entry_place w v k b
  pub name : (s : Sought) → r ≡ Ok s → eqb v 4 ≡ false → s.step.next.start ≡ name_place w s.at b
  pub frame : Frame work work'
