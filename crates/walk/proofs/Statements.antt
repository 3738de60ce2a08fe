-- What a walk over a whole file of a kind shows; work is the workspace. The calls answer start_answer, walk_answer and place_after: so their promises in
-- crates/walk/src/lib.rt say. A walk begins at first_place n, and advances by place_after.
use mathlib.Core.Path.{◌≡◌}
use mathlib.Core.List.{List, map}
use mathlib.Core.Bool.{false}
use Rattle.std.proofs.Common.{Ok}
use Prim.Native.Nat.{ℕ, ◌≤◌, ◌<◌}
use lib.ListN.{length, get_elem?}
use lib.Dec.{eqb}
use Rattle.format.specs.Records.{Entry}
use Rattle.format.specs.Reading.{good}
use Rattle.format.specs.Reader.{Contents}
use Rattle.format.specs.Places.{body_in, name_place, entry_name_place}
use Rattle.kinds.specs.Kinds.{width_of, read_kind}
use Rattle.answers.specs.Answers.{View, refused, in_file, pick, entry_answer}
use Rattle.walk.specs.declared.Place.{Place}
use Rattle.walk.specs.Walks.{start_answer, first_place, walk_answer, place_after_all, walk_over}

-- what is shown after k steps of a walk over n entries
abbrev pub shown_after : ℕ → List ℕ → ℕ → ℕ → View Entry
shown_after kind f n k = let p : Place = place_after_all kind f k (first_place n) in walk_answer kind f p.at p.left

module _ (kind : ℕ) (f : List ℕ) where
  pub record WholeWalk : Type 0 where
    -- over an accepted file of version 2 or 3, entries 0, 1, 2 and so on, with every field, then 18 for ever
    pub each : (c : Contents) (m : ℕ) → read_kind kind f ≡ good c m → eqb c.version 4 ≡ false
        → (k : ℕ) → shown_after kind f (length c.records.entries) k ≡ pick false (get_elem? c.records.entries k)
    -- as many steps as there are entries show all of them, in order
    pub all : (c : Contents) (m : ℕ) → read_kind kind f ≡ good c m → eqb c.version 4 ≡ false
        → walk_over kind f (length c.records.entries) (first_place (length c.records.entries)) ≡ map in_file c.records.entries
    -- where start says that n entries are before a walk, step k shows what entry k shows
    pub started : (work : List ℕ) (n : ℕ) → start_answer work (read_kind kind f) ≡ Ok n
        → (k : ℕ) → shown_after kind f n k ≡ entry_answer work k (read_kind kind f)
    -- with the same answer, whole: the name's place is the same
    pub placed : (work : List ℕ) (n : ℕ) → start_answer work (read_kind kind f) ≡ Ok n
        → (k : ℕ) → k < n → name_place (width_of kind) (place_after_all kind f k (first_place n)).at (body_in (width_of kind) f) ≡ entry_name_place (width_of kind) k f
    -- and 18 where none remain
    pub ended : (work : List ℕ) (n : ℕ) → start_answer work (read_kind kind f) ≡ Ok n → (k : ℕ) → n ≤ k → shown_after kind f n k ≡ refused 18 0
