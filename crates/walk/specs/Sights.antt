-- What the code sees of the entry at a place. w is the width of an object name.
use Rattle.std.specs.Prelude.{◌≡◌, List, ℕ, ◌+◌, ◌≤◌, length, take, drop, Option, Some, None}
use Rattle.format.specs.Records.{Entry}
use Rattle.format.specs.Reading.{Read, bad, good}
use Rattle.format.specs.Reader.{entry_of}
use Rattle.format.specs.Places.{name_place}
use Rattle.walk.specs.declared.Sight.{Sight}

-- as the reader gives it, at a place of the body b
abbrev pub sight_read : ℕ → List ℕ → ℕ → Option Sight → Read Entry
sight_read w b at None = bad 18 0
sight_read w b at (Some s) = good (entry_of w (drop at b) s.head.flags s.head.word (take s.name.length (drop (at + s.head.length) b))) (s.head.length + s.name.taken)

-- where the parts of the entry are
pub record PartsInside (w : ℕ) (b : List ℕ) (at : ℕ) (s : Sight) : Type 0 where
  pub fixed : at + (42 + w) ≤ length b
  pub start : at + s.head.length ≡ name_place w at b
  pub name : at + s.head.length + s.name.length ≤ length b
  pub end : at + s.head.length + s.name.taken ≤ length b

pub record Sees (w : ℕ) (x : Read Entry) (b : List ℕ) (at : ℕ) (r : Option Sight) : Type 0 where
  pub same : x ≡ sight_read w b at r
  pub parts : (s : Sight) → r ≡ Some s → PartsInside w b at s
