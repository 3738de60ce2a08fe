-- The walk over the names in a directory, part by part: names with no further "/", or the names under one component. q is the directory's name,
-- with its last "/".
use Rattle.std.specs.Prelude.{◌≡◌, List, ◌∷◌, Bool, true, ◌&&◌, ℕ, ◌+◌, ◌≤◌, ◌<◌, length, drop, eqb, Some, is_some}
use Rattle.format.specs.Records.{Forest}
use Rattle.format.specs.Reading.{good}
use Rattle.format.specs.Reader.{read_node, read_forest}
use Rattle.fields.specs.Workspace.{Frame}
use Rattle.tree_nodes.specs.declared.node.Node.{Node}
use Rattle.tree_nodes.specs.Answers.{node_at}
use Rattle.tree_nodes.specs.Flat.{Reads}
use Rattle.entries_run.specs.Steps.{name_at}
use Rattle.tree_counts.specs.Counts.{counts_hold, matched, SoundForest}
use Rattle.directories.specs.Names.{begins}
use Rattle.tree_counts.specs.Runs.{NamesPassed}
use Rattle.entries_directory.specs.declared.Front.{Front}
use Rattle.tree_check.specs.declared.walk.Directory.{Directory}
use Rattle.tree_check.specs.declared.walk.Part.{Part}
use Rattle.tree_check.specs.declared.walk.Part.TheVariants as P
use Rattle.entries_directory.specs.Ahead.{FrontFits, Ahead, After}
use Rattle.tree_check.specs.Components.{LookedUp}
use Rattle.tree_check.specs.Nodes.{agrees_with}

-- ---- a directory

-- the one of a node, with a name of q bytes
abbrev pub entered : Node → ℕ → Front → Directory
entered node q s = record { at = node.next; k = node.subtrees; count = node.count; q = q; ahead = s.ahead }

-- its subtrees are in the data d, and the first of the entries ahead has as many bytes as its name
pub record WalkReady (d : List ℕ) (dir : Directory) (b work : List ℕ) (s : Front) : Type 0 where
  pub inside : dir.at ≤ length d
  pub small : length d ≤ 16777216
  pub fits : FrontFits b s
  pub few : s.ahead < 4294967296
  pub room : 8192 ≤ length work
  pub some : 1 ≤ s.ahead
  pub long : dir.q ≤ s.cursor.len

-- ---- one part

-- of the names in the directory q, from whole on, done were passed before it; its test holds or not, and in it found nodes have a count of at least 1
pub record Moved (w : ℕ) (valid : Bool) (f : Forest) (q : List ℕ) (whole done : List (List ℕ)) (v : ℕ) (b work : List ℕ) (holds : Bool) (found : ℕ) (front : Front) : Type 0 where
  pub now_done : List (List ℕ)
  pub rest : List (List ℕ)
  pub last : List ℕ
  pub passed : NamesPassed f q whole now_done rest
  pub tested : counts_hold valid now_done f ≡ (counts_hold valid done f && holds)
  pub sum : matched now_done f ≡ matched done f + found
  pub in_it : begins q last ≡ true
  pub after : After w v b work front last rest

-- it was passed: fewer entries are ahead
pub record PartPassed (w : ℕ) (d : List ℕ) (dir : Directory) (b : List ℕ) (v : ℕ) (work : List ℕ) (s : Front) (work' : List ℕ) (holds : Bool) (r : Front) : Type 0 where
  pub fits : FrontFits b r
  pub less : r.ahead < s.ahead
  pub frame : Frame work work'
  pub moved : (f : Forest) (m : ℕ) → SoundForest f → Reads w (drop dir.at d) f dir.k m
      → (p x : List ℕ) (xs : List (List ℕ)) → Ahead w v b work s x xs → begins p x ≡ true → length p ≡ dir.q
      → (whole done : List (List ℕ)) → NamesPassed f p whole done (x ∷ xs)
      → Moved w (is_some dir.count) f p whole done v b work' holds 0 r

-- it is in the directory below, of the node at a place
pub record PartEntered (w : ℕ) (d : List ℕ) (dir : Directory) (b : List ℕ) (v : ℕ) (work : List ℕ) (s : Front) (work' : List ℕ) (below : Directory) : Type 0 where
  pub same : work' ≡ work
  pub place : ℕ
  pub node : Node
  pub read : Some node ≡ node_at w place (read_node w 0 (drop place d))
  pub look : LookedUp w d dir.at dir.k (name_at v b work s.cursor.start s.cursor.len) s.cursor.len dir.q (Some (record { end = below.q; node = Some place }))
  pub is : below ≡ entered node below.q s

abbrev pub taken_by : ℕ → List ℕ → Directory → List ℕ → ℕ → List ℕ → Front → List ℕ → Part → Type 0
taken_by w d dir b v work s work' (P.Passed holds r) = PartPassed w d dir b v work s work' holds r
taken_by w d dir b v work s work' (P.Entered below) = PartEntered w d dir b v work s work' below

pub record Taken (w : ℕ) (d : List ℕ) (dir : Directory) (b : List ℕ) (v : ℕ) (work : List ℕ) (s : Front) (work' : List ℕ) (part : Part) : Type 0 where
  pub is : taken_by w d dir b v work s work' part

-- ---- all entries ahead

-- the root's directory has all names, and of the nodes below the root expected ones have a count of at least 1
pub record Walked (w : ℕ) (d : List ℕ) (root : Directory) (expected : ℕ) (b : List ℕ) (v : ℕ) (work : List ℕ) (s : Front) (work' : List ℕ) (r : Bool) : Type 0 where
  pub frame : Frame work work'
  pub is : (f : Forest) (n : ℕ) → SoundForest f → read_forest w 0 127 root.k (drop root.at d) ≡ good f n
      → (x : List ℕ) (xs : List (List ℕ)) → Ahead w v b work s x xs
      → r ≡ (agrees_with root.count (length (x ∷ xs)) && (counts_hold (is_some root.count) (x ∷ xs) f && eqb (matched (x ∷ xs) f) expected))
