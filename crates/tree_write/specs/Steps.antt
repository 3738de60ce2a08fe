-- Siblings of which those on the path to a name's directory are made invalid: one step along them. w is the width of an object name.
use Rattle.std.specs.Prelude.{◌≡◌, List, ◌++◌, ℕ, ◌+◌, ◌-◌, ◌*◌, ◌≤◌, ◌<◌, length, drop}
use Rattle.format.specs.Records.{Forest}
use Rattle.format.specs.Writer.{write_forest}
use Rattle.format.specs.Requests.{invalid_path}
use Rattle.tree_counts.specs.Counts.{SoundForest}
use Rattle.tree_nodes.specs.Flat.{Reads}
use Rattle.output.specs.Output.{Wrote}
use Rattle.tree_write.specs.declared.PathPlace.{PathPlace}
use Rattle.tree_write.specs.Written.{Room}

-- the bounds of a place: each step adds fewer than 2 ^ 32 trees that follow
pub record StepBounds (w : ℕ) (d name : List ℕ) (way : PathPlace) : Type 0 where
  pub room : Room w d way.place way.at
  pub named : way.from ≤ length name
  pub few : way.later ≤ way.place * 4294967296

-- what is still to write from a place on is s: the siblings that are left, then the trees that follow
pub record ToWrite (w : ℕ) (d name : List ℕ) (way : PathPlace) (s : List ℕ) : Type 0 where
  pub siblings : Forest
  pub taken : ℕ
  pub trees : Forest
  pub more : ℕ
  pub sound : SoundForest siblings
  pub reads : Reads w (drop way.place d) siblings way.left taken
  pub follow : Reads w (drop taken (drop way.place d)) trees way.later more
  pub is : s ≡ write_forest (invalid_path w (drop way.from name) siblings) ++ write_forest trees

-- a step writes a first part of it
pub record Part (w : ℕ) (d name out : List ℕ) (way : PathPlace) (s out' : List ℕ) (r : PathPlace) : Type 0 where
  pub part : List ℕ
  pub rest : List ℕ
  pub whole : s ≡ part ++ rest
  pub wrote : Wrote out way.at part out' r.at
  pub left : ToWrite w d name r rest

-- it takes nodes or leaves fewer siblings, and what it writes is not longer than what it takes
pub record Stepped (w : ℕ) (d name out : List ℕ) (way : PathPlace) (out' : List ℕ) (r : PathPlace) : Type 0 where
  pub ready : StepBounds w d name r
  pub long : length out' ≡ length out
  pub less : (length d - r.place) * 4294967296 + r.left < (length d - way.place) * 4294967296 + way.left
  pub short : r.at + way.place ≤ way.at + r.place
  pub wrote : (s : List ℕ) → ToWrite w d name way s → Part w d name out way s out' r
