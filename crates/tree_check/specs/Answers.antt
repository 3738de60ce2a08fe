-- Whether the counts of a cache tree are right. d is its data, b the body with the entries, v the version, work and work' the workspace before and after.
use Rattle.std.specs.Prelude.{◌≡◌, List, Bool, true, ◌&&◌, ℕ, length, drop, eqb, is_some}
use Rattle.format.specs.Records.{Entry, Forest, Tree}
use Rattle.format.specs.Layout.{distinct, ok_tree_counts, names}
use Rattle.format.specs.Reading.{good}
use Rattle.format.specs.Reader.{read_forest, read_nodes}
use Rattle.fields.specs.Workspace.{Frame}
use Rattle.entries_run.specs.Steps.{EntriesRead}
use Rattle.tree_nodes.specs.declared.node.Node.{Node}
use Rattle.tree_check.specs.Nodes.{agrees_with}
use Rattle.tree_counts.specs.Counts.{counts_hold, matched, SoundForest}

-- of the walk over all entries, where of the nodes below the root expected ones have a count of at least 1
pub record RootWalked (w : ℕ) (d : List ℕ) (root : Node) (expected : ℕ) (b : List ℕ) (v count : ℕ) (work work' : List ℕ) (r : Bool) : Type 0 where
  pub frame : Frame work work'
  pub is : (es : List Entry) (m : ℕ) → EntriesRead w v count b es m
      → (f : Forest) (n : ℕ) → SoundForest f → read_forest w 0 127 root.subtrees (drop root.next d) ≡ good f n
      → r ≡ (agrees_with root.count (length (names es)) && (counts_hold (is_some root.count) (names es) f && eqb (matched (names es) f) expected))

-- of the whole
pub record CountsTold (w : ℕ) (d b : List ℕ) (v count : ℕ) (work work' : List ℕ) (r : Bool) : Type 0 where
  pub frame : Frame work work'
  pub is : (es : List Entry) (m : ℕ) (t : Tree) (n : ℕ) → EntriesRead w v count b es m → read_nodes w 0 d ≡ good t n
      → distinct t.subtrees ≡ true → r ≡ ok_tree_counts (names es) t
