-- A walk over the entries of a file of version 2 or 3: its start, the next entry, the place after it. w is the width of an object name and of the checksum, kind the
-- kind of object names, which has one.
use Rattle.std.specs.Prelude.{List, [], ◌∷◌, Bool, cond, ◌&&◌, ◌||◌, ℕ, zero, suc, ◌+◌, ◌-◌, length, take, drop, eqb, leb, ltb, Result, Ok}
use Rattle.format.specs.Bytes.{be32, eq_list}
use Rattle.format.specs.Records.{Entry, start}
use Rattle.format.specs.Layout.{DIRC}
use Rattle.format.specs.Reading.{Read, bad, good, need}
use Rattle.format.specs.Reader.{Contents, read_entry}
use Rattle.format.specs.Places.{body_in, taken}
use Rattle.format.specs.Refusals.{Numbered, denied}
use Rattle.kinds.specs.Kinds.{width_of, of_kind}
use Rattle.answers.specs.declared.EntryAnswer.{EntryAnswer}
use Rattle.answers.specs.Answers.{View, refused, in_file, in_workspace, in_room, EntryShown}
use Rattle.walk.specs.declared.Place.{Place}

-- ---- the start: refusals of the file as every call gives them, then 4 for version 4, else how many entries there are

abbrev pub started_of : Read Contents → Result ℕ Numbered
started_of (bad n p) = denied n p
started_of (good c m) = cond (eqb c.version 4) (denied 4 0) (Ok (length c.records.entries))

unfoldable pub start_answer : List ℕ → Read Contents → Result ℕ Numbered
start_answer work x = started_of (in_room work x)

abbrev pub place_at : ℕ → ℕ → Place
place_at at left = record { at = at; left = left }

-- before the first entry, n remaining
abbrev pub first_place : ℕ → Place
first_place n = place_at 12 n

-- ---- one step, whatever the file, the place and the number of entries that remain

-- whether the header is one of version 2 or 3
unfoldable pub walkable : ℕ → List ℕ → Bool
walkable w f = leb (12 + w) (length f) && (eq_list (take 4 f) DIRC && (eqb (be32 f 4) 2 || eqb (be32 f 4) 3))

-- every refusal is 18 at place 0
abbrev pub or18 : {A : Type 0} → Read A → Read A
or18 (bad n p) = bad 18 0
or18 (good a m) = good a m

-- the next entry. It is read as the first one of a file is, after the empty name: so it has to be sound under 6 to 10, and order is not looked at
unfoldable pub walk_read : ℕ → List ℕ → ℕ → ℕ → Read Entry
walk_read w f at left = need (ltb 0 left && walkable w f) 18 0 (or18 (read_entry w (be32 f 4) start at (drop at (body_in w f))))

-- the same for a kind. A step takes no workspace: an unknown kind is refused with 29 before all else
unfoldable pub step_read : ℕ → List ℕ → ℕ → ℕ → Read Entry
step_read kind f at left = of_kind kind (walk_read (width_of kind) f at left)

abbrev pub view_in : Read Entry → View Entry
view_in (bad n p) = refused n p
view_in (good e m) = in_file e

-- what it shows
unfoldable pub walk_answer : ℕ → List ℕ → ℕ → ℕ → View Entry
walk_answer kind f at left = view_in (step_read kind f at left)

-- its name
abbrev pub name_shown : View Entry → List ℕ
name_shown (refused n p) = []
name_shown (in_file e) = e.name
name_shown (in_workspace e) = e.name

-- the place after it, with one fewer to come; where there is none, the place stays
unfoldable pub place_after : ℕ → List ℕ → ℕ → ℕ → Place
place_after kind f at left = place_at (at + taken (step_read kind f at left)) (left - 1)

-- ---- many steps

-- the place after k of them
unfoldable pub place_after_all : ℕ → List ℕ → ℕ → Place → Place
place_after_all kind f zero p = p
place_after_all kind f (suc k) p = place_after_all kind f k (place_after kind f p.at p.left)

-- what k of them show
unfoldable pub walk_over : ℕ → List ℕ → ℕ → Place → List (View Entry)
walk_over kind f zero p = []
walk_over kind f (suc k) p = walk_answer kind f p.at p.left ∷ walk_over kind f k (place_after kind f p.at p.left)

-- ---- what the answer of the code shows

-- v, whose name is the part of the file at the place at
pub record StepShows (w at : ℕ) (v : View Entry) (f : List ℕ) (r : Result EntryAnswer Numbered) : Type 0 where
  pub shows : (work : List ℕ) → EntryShown w at v f work r
