-- Laws of the whole data of TREE: the root and its list, the tests after it, node number k. w is the width of an object name.
use mathlib.Core.Path.{◌≡◌, refl, ap, ◌∙◌}
use mathlib.Core.List.{List}
use mathlib.Core.Bool.{Bool, true, false}
use Prim.Native.Nat.{ℕ, ◌+◌, ◌-◌, ◌≤◌, ◌<◌}
use native.Mathlib.Nat.{add-zero}
use native.Mathlib.Omega.{arith}
use lib.ListN.{length, get_or, drop}
use lib.Seq.{length-take-le}
use lib.Dec.{eqb}
use borrow.Author.Tests.{eq-eqb, ne_eqb}
use Rattle.format.specs.Records.{Node, Forest, nil, tree, Tree, Item, items, tree_items}
use Rattle.format.specs.Layout.{distinct, ok_tree_counts}
use Rattle.format.specs.Reading.{Read, bad, good, need, shift, bind}
use Rattle.format.specs.Reader.{Head, read_node, read_forest, read_nodes, read_tree}
use Rattle.tree_nodes.specs.declared.node.Node as Code
use Rattle.std.specs.Prelude.{Some, None}
use Rattle.cache_tree.specs.declared.list.Listed.{Listed}
use Rattle.tree_nodes.specs.Answers.{node_at}
use Rattle.tree_nodes.specs.Flat.{size}
use Rattle.cache_tree.specs.Answers.{tested, list_at}
use Rattle.format.specs.Places.{node_start}
use Rattle.cache_tree.specs.Shape.{read_shape, read_distinct, nodes_at, tree_of}
use Rattle.tree_nodes.proofs.Nodes.{NodeIs}
use Rattle.cache_tree.proofs.Lists.{rooted_all}
use Rattle.tree_nodes.proofs.Flat.{items-size, reads-item, Shown}
use Rattle.tree_nodes.proofs.Trees.{tree-items, tree-reads}

-- ---- the format's reading of TREE is this one, and then the test of the counts

module _ (c : Tree → Bool) (p : ℕ) (t : Tree) (m : ℕ) where
  last-test : (b : Bool) → shift m (need b 16 p (good t 0)) ≡ shift (m + 0) (need b 16 p (good t 0))
  last-test b = rw (add-zero m)

  after-tests : (a b : Bool) → shift m (need a 15 p (need b 15 p (need (c t) 16 p (good t 0)))) ≡ bind (shift m (need a 15 p (need b 15 p (good t 0)))) λ u k. need (c u) 16 p (good u 0)
  unfolding shift need bind
  after-tests true true = last-test (c t)
  after-tests true false = refl
  after-tests false b = refl

pub tree-counts : (w : ℕ) (ns : List (List ℕ)) (p : ℕ) (s : List ℕ) → read_tree w ns p s ≡ bind (read_shape w p s) λ t m. need (ok_tree_counts ns t) 16 p (good t 0)
unfolding read_tree read_shape bind
tree-counts w ns p s = by (read_nodes w p s)
  where
    by : (x : Read Tree) →
        bind x (λ t m. need (eqb m (length s)) 15 p (need (distinct t.subtrees) 15 p (need (ok_tree_counts ns t) 16 p (good t 0))))
        ≡ bind (bind x (λ t m. need (eqb m (length s)) 15 p (need (distinct t.subtrees) 15 p (good t 0)))) λ t m. need (ok_tree_counts ns t) 16 p (good t 0)
    by (bad n q) = refl
    by (good t m) = after-tests (ok_tree_counts ns) p t m (eqb m (length s)) (distinct t.subtrees)

-- ---- all nodes

pub record NodesAre (w : ℕ) (d : List ℕ) (next n : ℕ) : Type 0 where
  pub of : Tree
  pub reads : read_nodes w 0 d ≡ good of next
  pub nodes : n ≡ length (tree_items of)
  pub differ : distinct of.subtrees ≡ true

module _ {w : ℕ} (d : List ℕ) (l : Listed) where
  nodes-tested : (t : Tree) (m : ℕ) → read_nodes w 0 d ≡ good t m → (b : Bool) → distinct t.subtrees ≡ b → Some l ≡ nodes_at (shift m (need b 15 0 (good t 0))) → NodesAre w d l.next l.nodes
  unfolding need shift nodes_at
  nodes-tested t m q false f e = absurd (cc)
  nodes-tested t m q true f e =
      let h : l ≡ record { next = m + 0; nodes = length (tree_items t) } = cc in
      let i : l.next ≡ m + 0 = ap (λ (x : Listed). x.next) h in
      let j : m ≡ l.next = omega arith in
      record { of = t; reads = q ∙ ap (λ (k : ℕ). good t k) j; nodes = ap (λ (x : Listed). x.nodes) h; differ = f }

  nodes-are-by : (x : Read Tree) → read_nodes w 0 d ≡ x → Some l ≡ nodes_at (bind x λ t m. need (distinct t.subtrees) 15 0 (good t 0)) → NodesAre w d l.next l.nodes
  unfolding bind nodes_at
  nodes-are-by (bad a p) q e = absurd (cc)
  nodes-are-by (good t m) q e = nodes-tested t m q (distinct t.subtrees) refl e

  pub nodes-are : Some l ≡ nodes_at (read_distinct w d) → NodesAre w d l.next l.nodes
  unfolding read_distinct
  nodes-are e = nodes-are-by (read_nodes w 0 d) refl e

no-root-by : (w : ℕ) (x : Read Head) (a : Head → ℕ → Read Tree) (c : Tree → ℕ → Read Tree) → None ≡ node_at w 0 x → nodes_at (bind (bind x a) c) ≡ None
unfolding node_at bind nodes_at
no-root-by w (bad n p) a c e = refl
no-root-by w (good h m) a c e = absurd (cc)

root-nodes : (t : Tree) → length (tree_items t) ≡ size t.subtrees + 1
unfolding tree_items
root-nodes t = let e : length (items 2 t.subtrees) ≡ size t.subtrees = items-size 2 t.subtrees in omega arith

rooted-tested : (m k : ℕ) (n : Node) (f : Forest) (b : Bool) → nodes_at (shift (m + (k + 0)) (need b 15 0 (good (record { root = n; subtrees = f }) 0))) ≡ rooted_all (list_at m (need b 15 0 (good f k)))
unfolding nodes_at shift need list_at
rooted-tested m k n f false = refl
rooted-tested m k n f true = let i : m + (k + 0) + 0 ≡ m + k = omega arith in rw (i, root-nodes (record { root = n; subtrees = f }))

nodes-rooted-by : (m : ℕ) (n : Node) (y : Read Forest) →
    nodes_at (bind (shift m (bind y λ kids k. good (record { root = n; subtrees = kids }) 0)) λ t j. need (distinct t.subtrees) 15 0 (good t 0)) ≡ rooted_all (list_at m (tested distinct y))
unfolding nodes_at bind shift tested list_at
nodes-rooted-by m n (bad a p) = refl
nodes-rooted-by m n (good f k) = rooted-tested m k n f (distinct f)

module _ (w : ℕ) (d : List ℕ) where
  pub nodes-no-root : None ≡ node_at w 0 (read_node w 0 d) → nodes_at (read_distinct w d) ≡ None
  unfolding read_distinct read_nodes
  nodes-no-root e = no-root-by w (read_node w 0 d) _ _ e

  module _ (root : Code.Node) (is : NodeIs w d 0 root) where
    name-length : length is.head.node.name ≡ root.nul
    name-length =
        let a = is.ended in
        let b = is.within in
        let c : root.nul - 0 ≤ length d = omega arith in
        ap length is.name ∙ length-take-le (root.nul - 0) d c ∙ omega arith

    root-reads : read_node w 0 d ≡ good is.head root.next
    root-reads = let e : root.next - 0 ≡ root.next = omega arith in is.reads ∙ ap (λ (n : ℕ). good is.head n) e

    pub nodes-named : (root.nul ≡ 0 → ⊥) → nodes_at (read_distinct w d) ≡ None
    unfolding read_distinct read_nodes bind shift need nodes_at
    nodes-named e = rw (root-reads, name-length, ne_eqb _ _ e)

    module _ (empty : root.nul ≡ 0) where
      root-list : read_nodes w 0 d ≡ shift root.next (bind (read_forest w 0 127 root.subtrees (drop root.next d)) λ kids n. good (record { root = is.head.node; subtrees = kids }) 0)
      unfolding read_nodes bind need
      root-list = rw (root-reads, name-length, eq-eqb _ _ empty, is.subtrees)

      pub nodes-rooted : nodes_at (read_distinct w d) ≡ rooted_all (list_at root.next (tested distinct (read_forest w 0 127 root.subtrees (drop root.next d))))
      unfolding read_distinct
      nodes-rooted = rw root-list (nodes-rooted-by root.next is.head.node (read_forest w 0 127 root.subtrees (drop root.next d)))

-- ---- the tests after the nodes

module _ (w : ℕ) (d : List ℕ) where
  -- two equal names, and no other test matters
  equal_by : (t : Tree) (m : ℕ) (a b : Bool) → None ≡ nodes_at (shift m (need b 15 0 (good t 0))) → tree_of (shift m (need a 15 0 (need b 15 0 (good t 0)))) ≡ None
  unfolding shift need nodes_at tree_of
  equal_by t m true true e = absurd (cc)
  equal_by t m true false e = refl
  equal_by t m false b e = refl

  no-nodes-by : (x : Read Tree) → None ≡ nodes_at (bind x λ t m. need (distinct t.subtrees) 15 0 (good t 0)) → tree_of (bind x λ t m. need (eqb m (length d)) 15 0 (need (distinct t.subtrees) 15 0 (good t 0))) ≡ None
  unfolding bind nodes_at tree_of
  no-nodes-by (bad a p) e = refl
  no-nodes-by (good t m) e = equal_by t m (eqb m (length d)) (distinct t.subtrees) e

  pub tree-no-nodes : None ≡ nodes_at (read_distinct w d) → tree_of (read_shape w 0 d) ≡ None
  unfolding read_shape read_distinct
  tree-no-nodes e = no-nodes-by (read_nodes w 0 d) e

  module _ (next n : ℕ) (are : NodesAre w d next n) where
    pub tree-longer : (next ≡ length d → ⊥) → tree_of (read_shape w 0 d) ≡ None
    unfolding read_shape bind shift need tree_of
    tree-longer e = rw (are.reads, ne_eqb _ _ e)

    pub tree-shaped : next ≡ length d → tree_of (read_shape w 0 d) ≡ Some n
    unfolding read_shape bind shift need tree_of
    tree-shaped whole = rw (are.reads, eq-eqb _ _ whole, are.differ, ← are.nodes)

-- ---- node number k

-- it is where k nodes have passed
pub tree-item : {w : ℕ} (d : List ℕ) (t : Tree) (m : ℕ) → read_nodes w 0 d ≡ good t m → (k : ℕ) (z : Item) → k < length (tree_items t) → Shown w (drop (node_start w k d) d) (get_or (tree_items t) k z)
tree-item d t m e k z lt =
    let f : Forest = tree t.root t.subtrees nil in
    let r = tree-reads d t m e in
    let few : k < size f = omega (arith, ap length (tree-items t), items-size 1 f) in
    rw (tree-items t) (reads-item d f 1 r.taken r.reads 1 k z few)
