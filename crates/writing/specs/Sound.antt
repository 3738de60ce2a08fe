-- Records that a file can have, said without bytes of a file. w is the width of an object name.
use Rattle.std.specs.Prelude.{◌≡◌, List, [], ◌∷◌, true, false, ℕ, suc, ◌≤◌, ◌<◌, length, replicate, eqb}
use Rattle.std.proofs.Math.Option.{some}
use Rattle.format.specs.Bytes.{fit32, lacks}
use Rattle.format.specs.Names.{ok_name, compare, is_below, rises}
use Rattle.format.specs.Records.{Entry, mode_of, Key, key_of, start, Count, valid, invalid, Node, Forest, nil, tree, Tree, width, Stage, Undo, Records}
use Rattle.format.specs.Layout.{when, ok_mode, ok_node_name, distinct, ok_tree_counts, some_stage, names}
use Rattle.format.specs.Requests.{any_word}

-- ---- entries

-- an entry by itself
pub record SoundEntry (w : ℕ) (e : Entry) : Type 0 where
  pub ten : length e.numbers ≡ 10
  pub fit : fit32 e.numbers ≡ true
  pub mode : ok_mode (mode_of e) ≡ true
  pub object : length e.object ≡ w
  pub stage : e.stage < 4
  pub name : ok_name e.name ≡ true

-- entries that rise from the key k
pub data SoundEntries (w : ℕ) : Key → List Entry → Type 0 where
  entries_none : {k : Key} → SoundEntries w k []
  entries_next :
      {k : Key} {e : Entry} {es : List Entry} →
      SoundEntry w e →
      rises (compare k.name e.name) k.stage e.stage ≡ true →
      SoundEntries w (key_of e) es →
      SoundEntries w k (e ∷ es)

-- ---- the cache tree

-- an entry count and the object name beside it
abbrev pub SoundCount : ℕ → Count → List ℕ → Type 0
SoundCount w (valid n) object = (n ≤ 2147483647) × (length object ≡ w)
SoundCount w invalid object = object ≡ replicate w 0

pub record SoundNode (w : ℕ) (n : Node) (subtrees : ℕ) : Type 0 where
  pub named : lacks 0 n.name ≡ true
  pub counted : SoundCount w n.count n.object
  pub subtrees_fit : subtrees ≤ 2147483647

-- siblings with at most the given number of levels
pub data SoundSiblings (w : ℕ) : ℕ → Forest → Type 0 where
  siblings_none : {levels : ℕ} → SoundSiblings w levels nil
  siblings_next :
      {levels : ℕ} {n : Node} {kids after : Forest} →
      ok_node_name n.name ≡ true →
      SoundNode w n (width kids) →
      SoundSiblings w levels kids →
      SoundSiblings w (suc levels) after →
      SoundSiblings w (suc levels) (tree n kids after)

-- ns are the entries' names
pub record SoundTree (w : ℕ) (ns : List (List ℕ)) (t : Tree) : Type 0 where
  pub root_name : t.root.name ≡ []
  pub root_node : SoundNode w t.root (width t.subtrees)
  pub rest : SoundSiblings w 127 t.subtrees
  pub differ : distinct t.subtrees ≡ true
  pub counts : ok_tree_counts ns t ≡ true

-- ---- resolve undo

abbrev pub SoundStage : ℕ → Stage → Type 0
SoundStage w s = when (eqb s.mode 0) (s.object ≡ replicate w 0) ((ok_mode s.mode ≡ true) × (length s.object ≡ w))

-- a record after one of the path previous
pub record SoundUndo (w : ℕ) (previous : List ℕ) (u : Undo) : Type 0 where
  pub path : ok_name u.path ≡ true
  pub order : is_below (compare previous u.path) ≡ true
  pub stages : some_stage u ≡ true
  pub first : SoundStage w u.first
  pub second : SoundStage w u.second
  pub third : SoundStage w u.third

pub data SoundUndos (w : ℕ) : List ℕ → List Undo → Type 0 where
  undos_none : {previous : List ℕ} → SoundUndos w previous []
  undos_next : {previous : List ℕ} {u : Undo} {us : List Undo} → SoundUndo w previous u → SoundUndos w u.path us → SoundUndos w previous (u ∷ us)

-- ---- all of them

pub record SoundRecords (w : ℕ) (r : Records) : Type 0 where
  pub entries : SoundEntries w start r.entries
  pub cache_tree : (t : Tree) → r.cache_tree ≡ some t → SoundTree w (names r.entries) t
  pub resolve_undo : (us : List Undo) → r.resolve_undo ≡ some us → SoundUndos w [] us

-- records that can be written in the version v: version 2 has no extended word
pub record Writable (w v : ℕ) (r : Records) : Type 0 where
  pub sound : SoundRecords w r
  pub two_to_four : (2 ≤ v) × (v ≤ 4)
  pub no_word : v ≡ 2 → any_word r.entries ≡ false
