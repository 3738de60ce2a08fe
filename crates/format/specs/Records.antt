-- The records of an index. w, where it is, is the width of an object name: 20 bytes for SHA-1.
use Rattle.std.specs.Prelude.{List, [], ◌∷◌, ◌++◌, Bool, ℕ, suc, get_or}
use Rattle.std.proofs.Math.Option.{Option}

-- numbers: ctime seconds, ctime nanoseconds, mtime seconds, mtime nanoseconds, dev, ino, mode, uid, gid, size
pub record Entry : Type 0 where
  pub numbers : List ℕ
  pub object : List ℕ
  pub assume_valid : Bool
  pub stage : ℕ
  pub skip_worktree : Bool
  pub intent_to_add : Bool
  pub name : List ℕ

unfoldable pub mode_of : Entry → ℕ
mode_of e = get_or e.numbers 6 0

-- what the order of entries goes by
pub record Key : Type 0 where
  pub name : List ℕ
  pub stage : ℕ

abbrev pub key_of : Entry → Key
key_of e = record { name = e.name; stage = e.stage }

-- before the first entry is the empty name
abbrev pub start : Key
start = record { name = []; stage = 0 }

-- ---- the cache tree

-- an entry count, or "invalid"
pub data Count : Type 0 where
  valid : ℕ → Count
  invalid : Count

-- one node; the object name of an invalid one is zeros
pub record Node : Type 0 where
  pub name : List ℕ
  pub count : Count
  pub object : List ℕ

-- a list of sibling nodes: the first, the list of its subtrees, and the siblings after it
pub data Forest : Type 0 where
  nil : Forest
  tree : Node → Forest → Forest → Forest

pub record Tree : Type 0 where
  pub root : Node
  pub subtrees : Forest

-- how many siblings there are
unfoldable pub width : Forest → ℕ
width nil = 0
width (tree n kids more) = suc (width more)

-- a node as it is listed, with its level and its number of subtrees
pub record Item : Type 0 where
  pub node : Node
  pub level : ℕ
  pub subtrees : ℕ

-- top-down and depth first, l being the siblings' level
unfoldable pub items : ℕ → Forest → List Item
items l nil = []
items l (tree n kids more) = record { node = n; level = l; subtrees = width kids } ∷ (items (suc l) kids ++ items l more)

unfoldable pub tree_items : Tree → List Item
tree_items t = record { node = t.root; level = 1; subtrees = width t.subtrees } ∷ items 2 t.subtrees

-- ---- resolve undo

-- one stage; mode 0 says that it is missing, and its object name is then zeros
pub record Stage : Type 0 where
  pub mode : ℕ
  pub object : List ℕ

pub record Undo : Type 0 where
  pub path : List ℕ
  pub first : Stage
  pub second : Stage
  pub third : Stage

-- ---- all of them

pub record Records : Type 0 where
  pub entries : List Entry
  pub cache_tree : Option Tree
  pub resolve_undo : Option (List Undo)
