-- The whole data of TREE but for its entry counts, and what this crate answers for it. w is the width of an object name.
use Rattle.std.specs.Prelude.{List, ℕ, length, eqb, Option, Some, None}
use Rattle.format.specs.Records.{Tree, tree_items}
use Rattle.format.specs.Layout.{distinct}
use Rattle.format.specs.Reading.{Read, bad, good, need, bind}
use Rattle.format.specs.Reader.{read_nodes}
use Rattle.cache_tree.specs.declared.list.Listed.{Listed}

unfoldable pub read_shape : ℕ → ℕ → List ℕ → Read Tree
read_shape w p s =
    bind (read_nodes w p s) λ t m.
    need (eqb m (length s)) 15 p (need (distinct t.subtrees) 15 p (good t 0))

-- all nodes, in which no two siblings have the same name
unfoldable pub read_distinct : ℕ → List ℕ → Read Tree
read_distinct w s = bind (read_nodes w 0 s) λ t m. need (distinct t.subtrees) 15 0 (good t 0)

-- the bytes, the number of nodes
unfoldable pub nodes_at : Read Tree → Option Listed
nodes_at (bad n p) = None
nodes_at (good t m) = Some (record { next = m; nodes = length (tree_items t) })

-- the number of nodes
unfoldable pub tree_of : Read Tree → Option ℕ
tree_of (bad n p) = None
tree_of (good t m) = Some (length (tree_items t))

-- the same reading of data at the place p; every fault is 15
abbrev pub placed : {A : Type 0} → ℕ → Read A → Read A
placed p (bad n q) = bad 15 p
placed p (good a m) = good a m
