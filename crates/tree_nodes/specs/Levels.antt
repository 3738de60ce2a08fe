-- The level of a node, by a pass over the nodes one after another. A stack says how many siblings are still to come on each level down to
-- that of the next node, the deepest first. w is the width of an object name.
use Rattle.std.specs.Prelude.{◌≡◌, List, [], ◌∷◌, ℕ, zero, suc, ◌-◌, ◌≤◌, ◌<◌, length, get_or}
use Rattle.format.specs.Records.{Tree, Item, tree_items}
use Rattle.format.specs.Reading.{good}
use Rattle.format.specs.Reader.{read_nodes}
use Rattle.format.specs.Places.{node_start}
use Rattle.tree_nodes.specs.declared.passes.NodePlace.{NodePlace}

-- the counts of an array on its first n levels, as a stack
unfoldable pub stack_of : List ℕ → ℕ → List ℕ
stack_of remaining zero = []
stack_of remaining (suc levels) = get_or remaining levels 0 ∷ stack_of remaining levels

-- without the levels on which no siblings are left; the root's stays
unfoldable pub climbed : List ℕ → List ℕ
climbed [] = []
climbed (n ∷ []) = n ∷ []
climbed (zero ∷ m ∷ st) = climbed (m ∷ st)
climbed (suc n ∷ m ∷ st) = suc n ∷ m ∷ st

-- after a node with k subtrees
unfoldable pub passed : ℕ → List ℕ → List ℕ
passed k [] = []
passed k (n ∷ st) = climbed (k ∷ (n - 1) ∷ st)

-- node number k of the data d: where it begins, and its level where the data are a tree that has it
pub record NodeFound (w : ℕ) (d : List ℕ) (k : ℕ) (r : NodePlace) : Type 0 where
  pub place : r.place ≡ node_start w k d
  pub inside : r.place ≤ length d
  pub level : (t : Tree) (m : ℕ) (z : Item) → read_nodes w 0 d ≡ good t m → k < length (tree_items t) → r.level ≡ (get_or (tree_items t) k z).level
