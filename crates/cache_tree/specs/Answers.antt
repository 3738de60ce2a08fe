-- The format's readings as this crate's functions answer them. Every fault is 15, so an answer has no number. w is the width of an object name.
use Rattle.std.specs.Prelude.{List, Bool, true, ◌&&◌, ℕ, zero, suc, ◌+◌, drop, Option, Some, None}
use Rattle.format.specs.Records.{Forest, nil, tree}
use Rattle.format.specs.Layout.{ok_node_name, distinct}
use Rattle.format.specs.Reading.{Read, bad, good, need, bind}
use Rattle.format.specs.Reader.{read_node, read_forest}
use Rattle.cache_tree.specs.declared.list.Listed.{Listed}
use Rattle.tree_nodes.specs.Flat.{size}

-- one node and all below it, with at most the given number of levels
unfoldable pub read_one : ℕ → ℕ → List ℕ → Read Forest
read_one w zero s = bad 15 0
read_one w (suc levels) s =
    bind (read_node w 0 s) λ h m.
    need (ok_node_name h.node.name) 15 0 (bind (read_forest w 0 levels h.subtrees (drop m s)) λ kids n. good (tree h.node kids nil) 0)

-- whether in each list further down no two siblings have the same name
unfoldable pub distinct_below : Forest → Bool
distinct_below nil = true
distinct_below (tree n kids after) = distinct kids && distinct_below after

-- a reading that is refused unless a test holds for what was read
unfoldable pub tested : (Forest → Bool) → Read Forest → Read Forest
tested ok (bad n p) = bad n p
tested ok (good f m) = need (ok f) 15 0 (good f m)

-- siblings that begin at a place
unfoldable pub list_at : ℕ → Read Forest → Option Listed
list_at at (bad n p) = None
list_at at (good f m) = Some (record { next = at + m; nodes = size f })

-- a node and its list of subtrees
abbrev pub rooted : Listed → Listed
rooted l = record { next = l.next; nodes = l.nodes + 1 }
