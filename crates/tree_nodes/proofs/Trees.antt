-- Laws of trees that are in the data: two lists of siblings as one, the node at a place, a whole tree. w is the width of an object name.
use mathlib.Core.Path.{◌≡◌, refl, sym, ap, ◌∙◌, subst}
use mathlib.Core.List.{List, append-nil}
use Prim.Native.Nat.{ℕ, ◌+◌, ◌-◌, ◌≤◌, ◌<◌, suc}
use native.Mathlib.Nat.{zero-add, suc-add}
use native.Mathlib.Omega.{arith}
use lib.ListN.{take, drop, length}
use lib.Seq.{drop-drop}
use lib.Dec.{eqb}
use Rattle.format.specs.Bytes.{before}
use Rattle.format.specs.Records.{Forest, nil, tree, Tree, items, tree_items}
use Rattle.format.specs.Reading.{Read, good}
use Rattle.format.specs.Reader.{Head, read_nodes, read_node, read_forest}
use Rattle.format_laws.proofs.Readings.{need-inv, bind_inv, good-inv}
use Rattle.tree_nodes.specs.Answers.{counted, node_of, node_at}
use Rattle.tree_nodes.specs.Flat.{Reads, reads_none, reads_more, TreeAt, trees_length, name_of}
use Rattle.tree_nodes.proofs.Flat.{forest-reads, Levels, levels_none, levels_more, forest-shape, trees-none, trees-step, reads-length}
use Rattle.tree_nodes.proofs.Nodes.{NodeIs, node-named}
use Rattle.tree_nodes.specs.declared.node.Node as Code
use Rattle.std.specs.Prelude.{Some, None}

-- a tree is a list of one node
pub tree-items : (t : Tree) → tree_items t ≡ items 1 (tree t.root t.subtrees nil)
unfolding tree_items items
tree-items t = rw (append-nil (items 2 t.subtrees))

pub record TreeReads (w : ℕ) (d : List ℕ) (t : Tree) : Type 0 where
  pub taken : ℕ
  pub reads : Reads w d (tree t.root t.subtrees nil) 1 taken
  pub levels : Levels 128 (tree t.root t.subtrees nil)

pub tree-reads : {w : ℕ} (d : List ℕ) (t : Tree) (m : ℕ) → read_nodes w 0 d ≡ good t m → TreeReads w d t
unfolding read_nodes
tree-reads {w} d t m e =
    bind_inv (read_node w 0 d) _ t m e λ h a i q r is.
    need-inv (eqb (length h.node.name) 0) 15 0 _ t i r λ ok r₁.
    bind_inv (read_forest w 0 127 h.subtrees (drop a d)) _ t i r₁ λ kids b j q₁ r₂ is₁.
    let u : Tree = record { root = h.node; subtrees = kids } in
    let same : u ≡ t = cc in
    let below = forest-shape 127 h.subtrees (drop a d) kids b q₁ in
    let found : TreeReads w d u = record { taken = _; reads = reads_more q below.0 reads_none; levels = levels_more below.1 levels_none } in
    rw (← same) found

pub record First (w : ℕ) (s : List ℕ) (f : Forest) (k : ℕ) : Type 0 where
  pub head : Head
  pub kids : Forest
  pub after : Forest
  pub own : ℕ
  pub below : ℕ
  pub rest : ℕ
  pub is : f ≡ tree head.node kids after
  pub node : read_node w 0 s ≡ good head own
  pub reads_kids : Reads w (drop own s) kids head.subtrees below
  pub reads_after : Reads w (drop below (drop own s)) after (k - 1) rest

pub reads_first : {w : ℕ} (s : List ℕ) (f : Forest) (k m : ℕ) → Reads w s f k m → 0 < k → First w s f k
reads_first s _ _ _ reads_none l = absurd (omega arith)
reads_first {w} s _ _ _ (reads_more {h = h} {kids = kids} {after = after} {a = a} {b = b} {c = c} {k = k} q r t) l =
    let e : k ≡ suc k - 1 = omega arith in
    record {
      head = h;
      kids = kids;
      after = after;
      own = a;
      below = b;
      rest = c;
      is = refl;
      node = q;
      reads_kids = r;
      reads_after = subst (λ (n : ℕ). Reads w (drop b (drop a s)) after n c) e t;
    }

pub reads-empty : {w : ℕ} (s : List ℕ) (f : Forest) (k m : ℕ) → Reads w s f k m → k ≤ 0 → f ≡ nil
reads-empty s _ _ _ reads_none l = refl
reads-empty s _ _ _ (reads_more q r t) l = absurd (omega arith)

-- a node and its subtrees reach up to the sibling after it
pub first-length : {w : ℕ} (s : List ℕ) (f : Forest) (k : ℕ) (x : First w s f k) → trees_length w 1 s ≡ x.own + x.below
first-length {w} s f k x =
    let e : trees_length w 1 s ≡ x.own + trees_length w (0 + x.head.subtrees) (drop x.own s) = trees-step w 0 s x.head x.own x.node in
    let i : trees_length w (x.head.subtrees + 0) (drop x.own s) ≡ x.below + trees_length w 0 (drop x.below (drop x.own s)) = reads-length _ _ _ _ x.reads_kids 0 in
    let z : trees_length w 0 (drop x.below (drop x.own s)) ≡ 0 = trees-none w (drop x.below (drop x.own s)) in
    let same : trees_length w (0 + x.head.subtrees) (drop x.own s) ≡ trees_length w (x.head.subtrees + 0) (drop x.own s) = ap (λ (n : ℕ). trees_length w n (drop x.own s)) (omega arith) in
    omega arith

pub first-named : {w : ℕ} (s : List ℕ) (f : Forest) (k : ℕ) (x : First w s f k) → name_of s ≡ x.head.node.name
unfolding name_of
first-named {w} s f k x = sym (node-named w 0 s x.head x.own x.node).0

-- the bytes from a place to the NUL are the name of the node there
pub name_is : (d : List ℕ) (at nul : ℕ) → nul ≡ at + before 0 (drop at d) → take (nul - at) (drop at d) ≡ name_of (drop at d)
unfolding name_of
name_is d at nul e = let i : nul - at ≡ before 0 (drop at d) = omega arith in rw i

pub node-name-is : {w : ℕ} (d : List ℕ) (at : ℕ) (node : Code.Node) → NodeIs w d at node → take (node.nul - at) (drop at d) ≡ name_of (drop at d)
unfolding name_of
node-name-is {w} d at node is = sym is.name ∙ (node-named w 0 (drop at d) is.head (node.next - at) is.reads).0

-- ---- two lists of siblings

-- the siblings f and then g
unfoldable pub chain : Forest → Forest → Forest
chain nil g = g
chain (tree n kids after) g = tree n kids (chain after g)

pub reads-chain : {w : ℕ} (s : List ℕ) (f g : Forest) (k j m n : ℕ) → Reads w s f k m → Reads w (drop m s) g j n → Reads w s (chain f g) (k + j) (m + n)
unfolding chain
reads-chain s _ g _ j _ n reads_none t = rw (zero-add j, zero-add n) t
reads-chain s _ g _ j _ n (reads_more {h = h} {kids = kids} {after = after} {a = a} {b = b} {c = c} {k = k} q r u) t =
    let e : drop (a + (b + c)) s ≡ drop c (drop b (drop a s)) = sym (drop-drop c b (drop a s) ∙ drop-drop (b + c) a s) in
    let i : a + (b + (c + n)) ≡ a + (b + c) + n = omega arith in
    rw (suc-add k j, ← i) (reads_more q r (reads-chain _ _ _ _ _ _ _ u (rw e at t)))

pub reads_at : {w : ℕ} (s t : List ℕ) (f : Forest) (k j m : ℕ) → Reads w s f k m → s ≡ t → k ≡ j → Reads w t f j m
reads_at s t f k j m r e i = rw (← e, ← i) r

-- ---- the node at a place

-- the node that is at a place, as it is read
pub record NodeAt (node : Code.Node) (place own : ℕ) (h : Head) : Type 0 where
  pub count : node.count ≡ counted h.node.count
  pub subtrees : node.subtrees ≡ h.subtrees
  pub next : node.next ≡ place + own

pub node_at_lem : (w : ℕ) (node : Code.Node) (place own : ℕ) (h : Head) (r : Read Head) → r ≡ good h own → Some node ≡ node_at w place r → NodeAt node place own h
unfolding node_at
node_at_lem w node place own h r q e =
    let is : node ≡ node_of w place h own = good-is (e ∙ ap (node_at w place) q) in
    rw is record { count = refl; subtrees = refl; next = refl }
  where
    good-is : {x y : Code.Node} → Some x ≡ Some y → x ≡ y
    good-is e = cc

pub no-bad : (w place own : ℕ) (h : Head) (r : Read Head) → r ≡ good h own → None ≡ node_at w place r → ⊥
unfolding node_at
no-bad w place own h r q e = let z : ◌≡◌ {A = ℕ} 0 1 = bad-good (e ∙ ap (node_at w place) q) in omega arith
  where
    bad-good : {x : Code.Node} → None ≡ Some x → ◌≡◌ {A = ℕ} 0 1
    bad-good e = cc

-- ---- a whole tree

pub tree_at : {w : ℕ} (d : List ℕ) (t : Tree) (n : ℕ) → read_nodes w 0 d ≡ good t n → TreeAt w d 0 t
unfolding read_nodes
tree_at d t n e =
    bind_inv _ _ _ _ e λ h a i q r is.
    need-inv _ _ _ _ _ _ r λ named r₁.
    bind_inv _ _ _ _ r₁ λ kids b j q₁ r₂ is₁.
    good-inv _ _ _ _ r₂ λ same z.
    rw (← same) (record { subtrees = h.subtrees; own = a; below = b; node = q; kids = forest-reads 127 h.subtrees (drop a d) kids b q₁ })
