-- What each call answers, from the file's reading and the workspace: numbers, places, values, and the workspace afterwards.
use Rattle.std.specs.Prelude.{◌≡◌, List, [], ◌++◌, Bool, true, false, cond, ℕ, ◌+◌, ◌-◌, ◌≤◌, length, take, drop, replicate, eqb, leb, ltb, Some, None, Result, Ok, Err}
use Rattle.std.specs.Prelude as P
use Rattle.std.proofs.Math.Option.{Option, none, some}
use Rattle.std.proofs.Math.ListN.{get_elem?}
use Rattle.format.specs.Records as F
use Rattle.format.specs.Checksum as M
use Rattle.format.specs.Reading.{Read, bad, good}
use Rattle.format.specs.Reader.{Contents}
use Rattle.format.specs.Refusals.{Numbered, denied}
use Rattle.answers.specs.declared.Checksum.{Checksum}
use Rattle.answers.specs.declared.Checksum.TheVariants.{Matches, LeftOut, Wrong}
use Rattle.answers.specs.declared.Summary.{Summary}
use Rattle.answers.specs.declared.Shown.{Shown}
use Rattle.answers.specs.declared.Shown.TheVariants as S
use Rattle.answers.specs.declared.EntryAnswer.{EntryAnswer}
use Rattle.answers.specs.declared.NodeAnswer.{NodeAnswer}
use Rattle.answers.specs.declared.UndoAnswer.{UndoAnswer}
use Rattle.entries.specs.Record.{wide_object, entry_with, fields_of}

-- ---- the workspace

-- shorter than 8,192 bytes
unfoldable pub too_small : List ℕ → Bool
too_small work = ltb (length work) 8192

-- the reading of a file with a workspace: 19 where that is too small
unfoldable pub in_room : {A : Type 0} → List ℕ → Read A → Read A
in_room work x = cond (too_small work) (bad 19 0) x

-- the first 8,192 bytes are zero; nothing is written where it is too small
unfoldable pub cleared : List ℕ → List ℕ
cleared work = cond (too_small work) work (replicate 8192 0 ++ drop 8192 work)

-- a name is first, zeros follow
unfoldable pub holding : List ℕ → List ℕ → List ℕ
holding name work = name ++ (replicate (8192 - length name) 0 ++ drop 8192 work)

-- ---- check

-- how many nodes, or records, there are, where the file has the extension
abbrev pub tree_count : Option F.Tree → P.Option ℕ
tree_count none = None
tree_count (some t) = Some (length (F.tree_items t))

abbrev pub undo_count : Option (List F.Undo) → P.Option ℕ
undo_count none = None
undo_count (some us) = Some (length us)

abbrev pub checksum_as : M.Checksum → Checksum
checksum_as M.matches = Matches
checksum_as M.left_out = LeftOut
checksum_as M.wrong = Wrong

abbrev pub summary_of : Contents → Summary
summary_of c = record {
  version = c.version;
  entries = length c.records.entries;
  end = c.end;
  nodes = tree_count c.records.cache_tree;
  records = undo_count c.records.resolve_undo;
  checksum = checksum_as c.checksum;
}

abbrev pub checked_of : Read Contents → Result Summary Numbered
checked_of (bad n p) = denied n p
checked_of (good c m) = Ok (summary_of c)

-- the answer of check
unfoldable pub check_answer : List ℕ → Read Contents → Result Summary Numbered
check_answer work r = checked_of (in_room work r)

-- ---- what is shown: a refusal's number and place, or an item whose name is a part of the file or of the workspace

pub data View (A : Type 0) : Type 0 where
  refused : ℕ → ℕ → View A
  in_file : A → View A
  in_workspace : A → View A

-- item k of a list, 18 where there is none
abbrev pub pick : {A : Type 0} → Bool → Option A → View A
pick packed none = refused 18 0
pick true (some a) = in_workspace a
pick false (some a) = in_file a

abbrev pub listed : {A : Type 0} → Option (List A) → ℕ → View A
listed none k = refused 18 0
listed (some xs) k = pick false (get_elem? xs k)

abbrev pub items_of : Option F.Tree → Option (List F.Item)
items_of none = none
items_of (some t) = some (F.tree_items t)

abbrev pub entry_of : ℕ → Read Contents → View F.Entry
entry_of k (bad n p) = refused n p
entry_of k (good c m) = pick (eqb c.version 4) (get_elem? c.records.entries k)

abbrev pub node_of : ℕ → Read Contents → View F.Item
node_of k (bad n p) = refused n p
node_of k (good c m) = listed (items_of c.records.cache_tree) k

abbrev pub undo_of : ℕ → Read Contents → View F.Undo
undo_of k (bad n p) = refused n p
undo_of k (good c m) = listed c.records.resolve_undo k

-- the answers of entry k, tree node k and resolve-undo record k
unfoldable pub entry_answer : List ℕ → ℕ → Read Contents → View F.Entry
entry_answer work k r = entry_of k (in_room work r)

unfoldable pub node_answer : List ℕ → ℕ → Read Contents → View F.Item
node_answer work k r = node_of k (in_room work r)

unfoldable pub undo_answer : List ℕ → ℕ → Read Contents → View F.Undo
undo_answer work k r = undo_of k (in_room work r)

-- the workspace after an entry was shown
abbrev pub work_after : View F.Entry → List ℕ → List ℕ
work_after (refused n p) work = cleared work
work_after (in_file e) work = cleared work
work_after (in_workspace e) work = holding e.name work

-- ---- what the answers of the code say. w is the width of an object name: of the 32 bytes that an answer has for one only the first w are read

-- the n bytes at a place, none where they are not all there
unfoldable pub part_in : ℕ → ℕ → List ℕ → List ℕ
part_in at n s = cond (leb (at + n) (length s)) (take n (drop at s)) []

-- the name that an answer points at
unfoldable pub name_in : Shown → List ℕ → List ℕ → List ℕ
name_in (S.InFile at n) file work = part_in at n file
name_in (S.InWorkspace n) file work = part_in 0 n work

-- the same of a call's answer: none of a refusal
unfoldable pub name_told : Result Shown Numbered → List ℕ → List ℕ → List ℕ
name_told (Err x) file work = []
name_told (Ok s) file work = name_in s file work

-- an answer as a view of the item that it shows
abbrev pub view_of : {A : Type 0} → Shown → A → View A
view_of (S.InFile at n) a = in_file a
view_of (S.InWorkspace n) a = in_workspace a

abbrev pub entry_in : ℕ → List ℕ → List ℕ → EntryAnswer → F.Entry
entry_in w file work a = entry_with w a.fields (name_in a.shown file work)

unfoldable pub entry_said : ℕ → Result EntryAnswer Numbered → List ℕ → List ℕ → View F.Entry
entry_said w (Err x) file work = refused x.number x.place
entry_said w (Ok a) file work = view_of a.shown (entry_in w file work a)

abbrev pub count_with : P.Option ℕ → F.Count
count_with (Some n) = F.valid n
count_with None = F.invalid

abbrev pub item_in : ℕ → List ℕ → List ℕ → NodeAnswer → F.Item
item_in w file work a = record {
  node = record { name = name_in a.shown file work; count = count_with a.count; object = take w a.object };
  level = a.level;
  subtrees = a.subtrees;
}

unfoldable pub node_said : ℕ → Result NodeAnswer Numbered → List ℕ → List ℕ → View F.Item
node_said w (Err x) file work = refused x.number x.place
node_said w (Ok a) file work = view_of a.shown (item_in w file work a)

abbrev pub stage_with : ℕ → List ℕ → F.Stage
stage_with mode object = record { mode = mode; object = object }

abbrev pub undo_in : ℕ → List ℕ → List ℕ → UndoAnswer → F.Undo
undo_in w file work a = record {
  path = name_in a.shown file work;
  first = stage_with a.first_mode (take w a.first);
  second = stage_with a.second_mode (take w a.second);
  third = stage_with a.third_mode (take w a.third);
}

unfoldable pub undo_said : ℕ → Result UndoAnswer Numbered → List ℕ → List ℕ → View F.Undo
undo_said w (Err x) file work = refused x.number x.place
undo_said w (Ok a) file work = view_of a.shown (undo_in w file work a)

-- ---- the answers of the code, whole. A refusal has its number and its place

-- the number of an entry count, where it is valid
abbrev pub count_shown : F.Count → P.Option ℕ
count_shown (F.valid n) = Some n
count_shown F.invalid = None

-- an item, whose name is where s says
abbrev pub entry_as : Shown → F.Entry → EntryAnswer
entry_as s e = record { shown = s; fields = fields_of e }

abbrev pub node_as : Shown → F.Item → NodeAnswer
node_as s i = record { shown = s; level = i.level; count = count_shown i.node.count; subtrees = i.subtrees; object = wide_object i.node.object }

abbrev pub undo_as : Shown → F.Undo → UndoAnswer
undo_as s u = record {
  shown = s;
  first_mode = u.first.mode;
  second_mode = u.second.mode;
  third_mode = u.third.mode;
  first = wide_object u.first.object;
  second = wide_object u.second.object;
  third = wide_object u.third.object;
}

-- the answer that shows a view, from that of an item. A name in the file is at the place at, one in the workspace at its start
abbrev pub shown_as : {A R : Type 0} → (Shown → A → R) → (A → List ℕ) → ℕ → View A → Result R Numbered
shown_as show name at (refused n p) = denied n p
shown_as show name at (in_file a) = Ok (show (S.InFile at (length (name a))) a)
shown_as show name at (in_workspace a) = Ok (show (S.InWorkspace (length (name a))) a)

abbrev pub entry_shown : ℕ → View F.Entry → Result EntryAnswer Numbered
entry_shown at v = shown_as entry_as (λ e. e.name) at v

abbrev pub node_shown : ℕ → View F.Item → Result NodeAnswer Numbered
node_shown at v = shown_as node_as (λ i. i.node.name) at v

abbrev pub undo_shown : ℕ → View F.Undo → Result UndoAnswer Numbered
undo_shown at v = shown_as undo_as (λ u. u.path) at v

-- a name lies in its buffer
abbrev pub Inside : Shown → (file work : List ℕ) → Type 0
Inside (S.InFile at n) file work = at + n ≤ length file
Inside (S.InWorkspace n) file work = n ≤ length work

-- where an answer points at one
abbrev pub NameInside : {R : Type 0} → (R → Shown) → Result R Numbered → (file work : List ℕ) → Type 0
NameInside part (Err x) file work = Unit
NameInside part (Ok a) file work = Inside (part a) file work

-- an answer shows v: it is the one that does, the bytes that it points at are the name, and they lie in their buffer, the file or the workspace. One
-- record for entries, nodes, resolve-undo records and steps: shown is the answer of a view, says the view of an answer, part where it points
pub record Shows {A R : Type 0} (shown : ℕ → View A → Result R Numbered) (says : Result R Numbered → List ℕ → List ℕ → View A) (part : R → Shown) (at : ℕ) (v : View A) (file work : List ℕ) (r : Result R Numbered) : Type 0 where
  pub whole : r ≡ shown at v
  pub said : says r file work ≡ v
  pub inside : NameInside part r file work

abbrev pub EntryShown : ℕ → ℕ → View F.Entry → List ℕ → List ℕ → Result EntryAnswer Numbered → Type 0
EntryShown w at v file work r = Shows entry_shown (entry_said w) (λ a. a.shown) at v file work r

abbrev pub NodeShown : ℕ → ℕ → View F.Item → List ℕ → List ℕ → Result NodeAnswer Numbered → Type 0
NodeShown w at v file work r = Shows node_shown (node_said w) (λ a. a.shown) at v file work r

abbrev pub UndoShown : ℕ → ℕ → View F.Undo → List ℕ → List ℕ → Result UndoAnswer Numbered → Type 0
UndoShown w at v file work r = Shows undo_shown (undo_said w) (λ a. a.shown) at v file work r
