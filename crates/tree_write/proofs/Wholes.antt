-- The whole data of a cache tree. w is the width of an object name.
use mathlib.Core.Path.{◌≡◌, sym}
use mathlib.Core.List.{List, ◌++◌, append-nil}
use mathlib.Core.Bool.{true}
use Prim.Native.Nat.{ℕ}
use lib.ListN.{drop}
use Rattle.format.specs.Records.{nil, tree, Tree, width}
use Rattle.format.specs.Layout.{distinct}
use Rattle.format.specs.Reading.{good}
use Rattle.format.specs.Reader.{read_node, read_nodes}
use Rattle.format.specs.Writer.{write_node, write_forest, write_tree}
use Rattle.format.specs.Requests.{invalid_node, invalid_path, invalid_tree}
use Rattle.tree_counts.specs.Counts.{SoundForest}
use Rattle.tree_counts.proofs.Readings.{nodes-plain}
use Rattle.tree_nodes.specs.declared.node.Node as Code
use Rattle.std.specs.Prelude.{None}
use Rattle.tree_nodes.specs.Answers.{node_at}
use Rattle.format_laws.proofs.Lists.{drop-to}
use Rattle.tree_nodes.specs.Flat.{reads_none, reads_more}
use Rattle.tree_nodes.proofs.Flat.{reads-width}
use Rattle.tree_nodes.specs.Flat.{TreeAt}
use Rattle.tree_nodes.proofs.Trees.{reads_at, NodeAt, node_at_lem, no-bad, tree_at}
use Rattle.output.specs.Output.{Wrote}
use Rattle.output.proofs.Laws.{wrote_then}
use Rattle.tree_write.specs.declared.Passed.{Passed}
use Rattle.tree_write.specs.Written.{NodeHere, made_invalid, NodeWritten, TreesWritten, WayWritten}
use Rattle.tree_write.proofs.Paths.{path-width}

-- a tree is a list of one node
tree-text : (t : Tree) → write_forest (tree t.root t.subtrees nil) ≡ write_tree t
unfolding write_tree write_forest
tree-text t = rw (append-nil (write_forest t.subtrees))

invalid-text : (w : ℕ) (name : List ℕ) (t : Tree) (k : ℕ) → width t.subtrees ≡ k
    → write_tree (invalid_tree w name t) ≡ write_node (invalid_node w t.root) k ++ write_forest (invalid_path w name t.subtrees)
unfolding write_tree invalid_tree
invalid-text w name t k e = rw (path-width w name t.subtrees, e)

module _ (w : ℕ) (d : List ℕ) (t : Tree) (m : ℕ) (q : read_nodes w 0 d ≡ good t m) where
  tree-here : TreeAt w d 0 t
  tree-here = tree_at d t m q

  pub whole-copied : (out out' : List ℕ) (at : ℕ) (passed : Passed) → TreesWritten w d 0 1 out at out' passed → Wrote out at (write_tree t) out' passed.at
  whole-copied out out' at passed written =
      rw (tree-text t) at (written.wrote (tree t.root t.subtrees nil) _ (reads_more tree-here.node tree-here.kids reads_none))

  pub whole-none : {X : Type 0} → None ≡ node_at w 0 (read_node w 0 (drop 0 d)) → X
  whole-none e = absurd (no-bad w 0 tree-here.own _ _ tree-here.node e)

  module _ (node : Code.Node) (here : NodeHere w d 0 node) (differ : distinct t.subtrees ≡ true) (name : List ℕ) where
    node-here : NodeAt node 0 tree-here.own (record { node = t.root; subtrees = tree-here.subtrees })
    node-here = node_at_lem w node 0 tree-here.own _ _ tree-here.node here.read

    pub whole-invalid : (out out₁ out' : List ℕ) (at end r : ℕ)
        → NodeWritten w (made_invalid w) d 0 node out at out₁ end
        → WayWritten w name d node.next node.subtrees out₁ end out' r
        → Wrote out at (write_tree (invalid_tree w name t)) out' r
    whole-invalid out out₁ out' at end r root rest =
        let sound : SoundForest t.subtrees = record { plainly = nodes-plain w 0 d t m q; differ = differ } in
        let next = drop-to d 0 tree-here.own node.next node-here.next in
        let kids = reads_at _ _ _ _ _ _ tree-here.kids next (sym node-here.subtrees) in
        let text = invalid-text w name t tree-here.subtrees (reads-width _ _ _ _ tree-here.kids) in
        rw text (wrote_then _ _ _ _ _ _ _ _ (root.wrote _ _ tree-here.node) (rest.wrote t.subtrees _ sound kids))
