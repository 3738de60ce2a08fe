-- The format's readings as this crate's functions answer them. Every fault is 15, so an answer has no number. w is the width of
-- an object name.
use Rattle.std.specs.Prelude.{List, cond, ◌&&◌, ℕ, ◌+◌, ◌-◌, length, leb, Option, Some, None}
use Rattle.std.proofs.Math.Option as M
use Rattle.format.specs.Bytes.{digits, decimal, value_from, value}
use Rattle.format.specs.Records as Records
use Rattle.format.specs.Reading.{Read, bad, good}
use Rattle.format.specs.Reader.{Head}
use Rattle.tree_nodes.specs.declared.node.Node.{Node}

-- ---- decimals

-- a decimal of at most limit
unfoldable pub number_in : ℕ → List ℕ → Option ℕ
number_in limit t = cond (decimal t && leb (value t) limit) (Some (value t)) None

-- digits, after those that said v
unfoldable pub number_from : ℕ → ℕ → List ℕ → Option ℕ
number_from limit v t = cond (digits t && leb (value_from v t) limit) (Some (value_from v t)) None

-- ---- the parts of a node. next is the place after the part, at the place where it begins

-- a count's number, none where it is invalid, and the length of the object name
abbrev pub counted : Records.Count → Option ℕ
counted (Records.valid n) = Some n
counted Records.invalid = None

abbrev pub object_after : ℕ → Option ℕ → ℕ
object_after w (Some n) = w
object_after w None = 0

abbrev pub object_length : ℕ → Records.Count → ℕ
object_length w c = object_after w (counted c)

unfoldable pub count_of : M.Option Records.Count → Option (Option ℕ)
count_of M.none = None
count_of (M.some c) = Some (counted c)

unfoldable pub count_at : ℕ → Read Records.Count → Option (Option ℕ × ℕ)
count_at at (bad n p) = None
count_at at (good c m) = Some (counted c, at + m)

unfoldable pub subtrees_at : ℕ → Read ℕ → Option (ℕ × ℕ)
subtrees_at at (bad n p) = None
subtrees_at at (good n m) = Some (n, at + m)

-- ---- a whole node

abbrev pub node_of : ℕ → ℕ → Head → ℕ → Node
node_of w at h m = record {
  nul = at + length h.node.name;
  count = counted h.node.count;
  subtrees = h.subtrees;
  object = at + m - object_length w h.node.count;
  next = at + m;
}

unfoldable pub node_at : ℕ → ℕ → Read Head → Option Node
node_at w at (bad n p) = None
node_at w at (good h m) = Some (node_of w at h m)
