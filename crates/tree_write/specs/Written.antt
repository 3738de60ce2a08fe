-- What is written of nodes that are in the data d of a cache tree, from a place on. w is the width of an object name.
use Rattle.std.specs.Prelude.{◌≡◌, List, true, ℕ, ◌+◌, ◌≤◌, length, drop, Some}
use Rattle.format.specs.Records.{Forest, Tree}
use Rattle.format.specs.Layout.{distinct}
use Rattle.format.specs.Reading.{good}
use Rattle.format.specs.Reader.{Head, read_node, read_nodes}
use Rattle.format.specs.Writer.{write_node, write_forest}
use Rattle.format.specs.Requests.{invalid_node, invalid_path}
use Rattle.tree_counts.specs.Counts.{SoundForest}
use Rattle.tree_nodes.specs.declared.node.Node.{Node}
use Rattle.tree_nodes.specs.Answers.{node_at}
use Rattle.tree_nodes.specs.Flat.{trees_length, Reads}
use Rattle.output.specs.Output.{Wrote}
use Rattle.tree_write.specs.declared.Passed.{Passed}

-- the data are a file's at most, the output's place is not far beyond the data's, and an object name has a byte or more
pub record Room (w : ℕ) (d : List ℕ) (place at : ℕ) : Type 0 where
  pub inside : place ≤ length d
  pub few : length d ≤ 16777216
  pub near : at ≤ 562949953421312 + place
  pub wide : 1 ≤ w

-- the node that is read at a place
pub record NodeHere (w : ℕ) (d : List ℕ) (place : ℕ) (node : Node) : Type 0 where
  pub read : Some node ≡ node_at w place (read_node w 0 (drop place d))

-- what is written of a node, as it is or made invalid
abbrev pub as_is : Head → List ℕ
as_is h = write_node h.node h.subtrees

abbrev pub made_invalid : ℕ → Head → List ℕ
made_invalid w h = write_node (invalid_node w h.node) h.subtrees

-- one of the two was written; it is not longer than the node
pub record NodeWritten (w : ℕ) (text : Head → List ℕ) (d : List ℕ) (place : ℕ) (node : Node) (out : List ℕ) (at : ℕ) (out' : List ℕ) (r : ℕ) : Type 0 where
  pub wrote : (h : Head) (m : ℕ) → read_node w 0 (drop place d) ≡ good h m → Wrote out at (text h) out' r
  pub short : r + place ≤ at + node.next

-- n trees were written as they are, up to a place of the data and one of the output
pub record TreesWritten (w : ℕ) (d : List ℕ) (place n : ℕ) (out : List ℕ) (at : ℕ) (out' : List ℕ) (r : Passed) : Type 0 where
  pub wrote : (f : Forest) (m : ℕ) → Reads w (drop place d) f n m → Wrote out at (write_forest f) out' r.at
  pub ended : r.place ≡ place + trees_length w n (drop place d)
  pub within : r.place ≤ length d
  pub short : r.at + place ≤ at + r.place

-- k siblings were written, those on the path to a name's directory made invalid
pub record WayWritten (w : ℕ) (name d : List ℕ) (place k : ℕ) (out : List ℕ) (at : ℕ) (out' : List ℕ) (r : ℕ) : Type 0 where
  pub wrote : (f : Forest) (m : ℕ) → SoundForest f → Reads w (drop place d) f k m → Wrote out at (write_forest (invalid_path w name f)) out' r
  pub short : r + place ≤ at + length d

-- a text of the tree that the whole data say was written
pub record WholeWritten (w : ℕ) (text : Tree → List ℕ) (d out : List ℕ) (at : ℕ) (out' : List ℕ) (r : ℕ) : Type 0 where
  pub wrote : (t : Tree) (m : ℕ) → read_nodes w 0 d ≡ good t m → distinct t.subtrees ≡ true → Wrote out at (text t) out' r
  pub short : r ≤ at + length d
