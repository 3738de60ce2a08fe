-- Trees that are written one after another. Those that are still to write are one list of siblings. w is the width of an object name.
use mathlib.Core.Path.{◌≡◌, refl, ap, ◌∙◌}
use mathlib.Core.List.{List, [], ◌++◌, append_assoc}
use Prim.Native.Nat.{ℕ, ◌+◌, ◌-◌, ◌≤◌, ◌<◌}
use native.Mathlib.Omega.{arith}
use lib.ListN.{drop}
use Rattle.format.specs.Records.{Node, Forest, nil, tree, width}
use Rattle.format.specs.Reader.{read_node}
use Rattle.format.specs.Writer.{write_node, write_forest}
use Rattle.tree_nodes.specs.declared.node.Node as Code
use Rattle.std.specs.Prelude.{None}
use Rattle.tree_nodes.specs.Answers.{node_at}
use Rattle.format_laws.proofs.Lists.{drop-to}
use Rattle.tree_nodes.specs.Flat.{Reads}
use Rattle.tree_nodes.proofs.Flat.{reads-width}
use Rattle.tree_nodes.proofs.Trees.{First, reads_first, reads-empty}
use Rattle.tree_nodes.proofs.Trees.{chain, reads-chain, reads_at, NodeAt, node_at_lem, no-bad}
use Rattle.output.specs.Output.{Wrote}
use Rattle.output.proofs.Laws.{wrote_nothing, wrote_then}
use Rattle.tree_write.specs.Written.{NodeHere, as_is, NodeWritten}

-- ---- two lists of siblings

pub write-nil : write_forest nil ≡ []
unfolding write_forest
write-nil = refl

pub write-tree : (n : Node) (kids after : Forest) → write_forest (tree n kids after) ≡ write_node n (width kids) ++ (write_forest kids ++ write_forest after)
unfolding write_forest
write-tree n kids after = refl

pub write-chain : (f g : Forest) → write_forest (chain f g) ≡ write_forest f ++ write_forest g
unfolding chain write_forest
write-chain nil g = refl
write-chain (tree n kids after) g = rw (write-chain after g) (simp append_assoc)

-- ---- the trees that are still to write: with them, s is written at a place of out₀

pub record TreesToWrite (w : ℕ) (d out₀ : List ℕ) (at : ℕ) (s : List ℕ) (place pending : ℕ) (out : List ℕ) (end : ℕ) : Type 0 where
  pub trees : Forest
  pub taken : ℕ
  pub reads : Reads w (drop place d) trees pending taken
  pub rest : (out' : List ℕ) (r : ℕ) → Wrote out end (write_forest trees) out' r → Wrote out₀ at s out' r

pub left-start : {w : ℕ} (d out : List ℕ) (place n at : ℕ) (f : Forest) (m : ℕ) → Reads w (drop place d) f n m → TreesToWrite w d out at (write_forest f) place n out at
left-start d out place n at f m r = record { trees = f; taken = m; reads = r; rest = λ out' e wrote. wrote }

module _ {w : ℕ} (d out₀ : List ℕ) (at : ℕ) (s : List ℕ) (place pending : ℕ) (out : List ℕ) (end : ℕ) (x : TreesToWrite w d out₀ at s place pending out end) where
  pub left_end : pending ≤ 0 → Wrote out₀ at s out end
  left_end l =
      let none : write_forest x.trees ≡ [] = ap write_forest (reads-empty _ _ _ _ x.reads l) ∙ write-nil in
      x.rest out end (rw none (wrote_nothing out end))

  module _ (some : 0 < pending) where
    first_of : First w (drop place d) x.trees pending
    first_of = reads_first _ _ _ _ x.reads some

    pub left-stop : {X : Type 0} → None ≡ node_at w place (read_node w 0 (drop place d)) → X
    left-stop e = absurd (no-bad w place first_of.own first_of.head _ first_of.node e)

    module _ (node : Code.Node) (here : NodeHere w d place node) (out₁ : List ℕ) (end₁ : ℕ)
        (written : NodeWritten w as_is d place node out end out₁ end₁) where
      node-here : NodeAt node place first_of.own first_of.head
      node-here = node_at_lem w node place first_of.own first_of.head _ first_of.node here.read

      -- a node, and then its subtrees and its later siblings
      whole : write_forest x.trees ≡ write_node first_of.head.node first_of.head.subtrees ++ write_forest (chain first_of.kids first_of.after)
      whole =
          let n = first_of.head.node in
          let kids = first_of.kids in
          let after = first_of.after in
          ap write_forest first_of.is
          ∙ write-tree n kids after
          ∙ rw (reads-width _ _ _ _ first_of.reads_kids, write-chain kids after)

      pub left-on : TreesToWrite w d out₀ at s node.next (pending - 1 + node.subtrees) out₁ end₁
      left-on =
          let k : first_of.head.subtrees + (pending - 1) ≡ pending - 1 + node.subtrees = omega (arith, node-here.subtrees) in
          let from = drop-to d place first_of.own node.next node-here.next in
          record {
            trees = chain first_of.kids first_of.after;
            taken = first_of.below + first_of.rest;
            reads = reads_at _ _ _ _ _ _ (reads-chain _ _ _ _ _ _ _ first_of.reads_kids first_of.reads_after) from k;
            rest = λ out' r last. x.rest out' r (rw whole (wrote_then _ _ _ _ _ _ _ _ (written.wrote first_of.head first_of.own first_of.node) last));
          }
