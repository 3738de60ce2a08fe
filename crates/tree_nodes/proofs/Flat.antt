-- Laws of the nodes one after another: how far k of them reach, and how a list of siblings is among them. w is the width of an object name.
use mathlib.Core.Path.{◌≡◌, refl, sym, ap, ◌∙◌, ap₂}
use mathlib.Core.List.{List, [], ◌∷◌, ◌++◌}
use mathlib.Core.Bool.{Bool, true, false}
use Prim.Native.Nat.{ℕ, zero, suc, ◌+◌, ◌*◌, ◌-◌, ◌≤◌, ◌<◌}
use native.Mathlib.Nat.{add-zero, zero-add, suc-add, add_assoc}
use native.Mathlib.Omega.{arith}
use lib.ListN.{length, get_or, drop, length-drop, get_or-append, length-append}
use lib.Seq.{drop-drop, get_or-append-add}
use lib.Dec.{ltb}
use borrow.Author.Tests.{ltb-true, ltb-false}
use Rattle.format.specs.Bytes.{before}
use Rattle.format.specs.Records.{Node, Forest, nil, tree, width, Item, items}
use Rattle.format.specs.Layout.{has, ok_node_name}
use Rattle.format.specs.Reading.{Read, bad, good, need, bind}
use Rattle.format.specs.Reader.{Head, read_text, read_node, read_siblings, read_forest}
use Rattle.format_laws.proofs.Lists.{drop-to}
use Rattle.format_laws.proofs.Numbers.{suc-pred}
use Rattle.format_laws.proofs.Readings.{bad-good, good-inv, need-inv, bind_inv}
use Rattle.tree_nodes.specs.Answers.{node_at}
use Rattle.tree_nodes.specs.Flat.{size, length_of, trees_length, name_of, rest_of, names_of, has_name, Reads, reads_none, reads_more}
use Rattle.format.specs.Places.{node_start}
use Rattle.tree_nodes.proofs.Readings.{node-took}
use Rattle.tree_nodes.proofs.Nodes.{node-named, NodeIs, no_node}
use Rattle.tree_nodes.specs.declared.node.Node as Code
use Rattle.std.specs.Prelude.{None}

pub items-size : (l : ℕ) (f : Forest) → length (items l f) ≡ size f
unfolding items size
items-size l nil = refl
items-size l (tree n kids more) = ap suc (length-append (items (suc l) kids) (items l more) ∙ ap₂ ◌+◌ (items-size (suc l) kids) (items-size l more))

-- ---- k nodes with all below them, with no fuel

-- by what is read of a node
node-cases : (w : ℕ) {P : Type 0} (s : List ℕ) → ((n p : ℕ) → read_node w 0 s ≡ bad n p → P) → ((h : Head) (m : ℕ) → read_node w 0 s ≡ good h m → 1 ≤ m → m ≤ length s → P) → P
node-cases w {P} s f g = by (read_node w 0 s) refl
  where
    by : (x : Read Head) → read_node w 0 s ≡ x → P
    by (bad n p) e = f n p e
    by (good h m) e = g h m e ((node-took w 0 s).of h m e).0 ((node-took w 0 s).of h m e).1

node-nil : (w : ℕ) → read_node w 0 [] ≡ bad 15 0
unfolding read_node read_text before need bind
node-nil w = refl

same-fuel : (w f g k : ℕ) (s : List ℕ) → length s ≤ f → length s ≤ g → length_of w f k s ≡ length_of w g k s
unfolding length_of
same-fuel w zero zero k s l u = refl
same-fuel w zero (suc g) zero s l u = refl
same-fuel w zero (suc g) (suc k) [] l u = rw (node-nil w)
same-fuel w zero (suc g) (suc k) (x ∷ s) l u = absurd (omega arith)
same-fuel w (suc f) zero zero s l u = refl
same-fuel w (suc f) zero (suc k) [] l u = rw (node-nil w)
same-fuel w (suc f) zero (suc k) (x ∷ s) l u = absurd (omega arith)
same-fuel w (suc f) (suc g) zero s l u = refl
same-fuel w (suc f) (suc g) (suc k) s l u =
    node-cases w s
    (λ n p e. rw e)
    (λ h m e some most.
    let d : length (drop m s) ≡ length s - m = length-drop m s in
    rw e (ap (λ (i : ℕ). m + i) (same-fuel w f g (k + h.subtrees) (drop m s) (omega arith) (omega arith))))

pub trees-none : (w : ℕ) (s : List ℕ) → trees_length w 0 s ≡ 0
unfolding trees_length length_of
trees-none w [] = refl
trees-none w (x ∷ s) = refl

pub trees-bad : (w k n p : ℕ) (s : List ℕ) → read_node w 0 s ≡ bad n p → trees_length w (suc k) s ≡ length s
unfolding trees_length length_of
trees-bad w k n p [] e = refl
trees-bad w k n p (x ∷ s) e = rw e

pub trees-step : (w k : ℕ) (s : List ℕ) (h : Head) (m : ℕ) → read_node w 0 s ≡ good h m → trees_length w (suc k) s ≡ m + trees_length w (k + h.subtrees) (drop m s)
unfolding trees_length length_of
trees-step w k [] h m e = bad-good 15 0 h m (sym (node-nil w) ∙ e)
trees-step w k (x ∷ s) h m e =
    let b : (1 ≤ m) × (m ≤ length (x ∷ s)) = (node-took w 0 (x ∷ s)).of h m e in
    let d : length (drop m (x ∷ s)) ≡ length (x ∷ s) - m = length-drop m (x ∷ s) in
    rw e (ap (λ (i : ℕ). m + i) (same-fuel w (length s) (length (drop m (x ∷ s))) (k + h.subtrees) (drop m (x ∷ s)) (omega arith) (omega arith)))

-- ---- a list of siblings that was read

-- siblings with at most the given number of levels
pub data Levels : ℕ → Forest → Type 0 where
  levels_none : {l : ℕ} → Levels l nil
  levels_more : {l : ℕ} {n : Node} {kids after : Forest} → Levels l kids → Levels (suc l) after → Levels (suc l) (tree n kids after)

reads-is : {w : ℕ} (l : ℕ) (s : List ℕ) (f g : Forest) (k m n : ℕ) → Reads w s f k m × Levels l f → f ≡ g → m ≡ n → Reads w s g k n × Levels l g
reads-is l s f g k m n r e i = rw (← e, ← i) r

pub forest-shape : {w : ℕ} (l k : ℕ) (s : List ℕ) (f : Forest) (m : ℕ) → read_forest w 0 l k s ≡ good f m → Reads w s f k m × Levels l f
unfolding read_forest read_siblings
forest-shape zero zero s f m e = good-inv nil f 0 m e (λ same size. reads-is zero s nil f 0 0 m (reads_none, levels_none) same size)
forest-shape zero (suc k) s f m e = bad-good 15 0 f m e
forest-shape (suc l) zero s f m e = good-inv nil f 0 m e (λ same size. reads-is (suc l) s nil f 0 0 m (reads_none, levels_none) same size)
forest-shape {w} (suc l) (suc k) s f m e =
    bind_inv (read_node w 0 s) _ f m e λ h a i q r is.
    need-inv (ok_node_name h.node.name) 15 0 _ f i r λ ok r₁.
    bind_inv (read_forest w 0 l h.subtrees (drop a s)) _ f i r₁ λ kids b j q₁ r₂ is₁.
    bind_inv (read_forest w 0 (suc l) k (drop b (drop a s))) _ f j r₂ λ after c o q₂ r₃ is₂.
    good-inv (tree h.node kids after) f 0 o r₃ λ same z.
    let below = forest-shape l h.subtrees (drop a s) kids b q₁ in
    let rest = forest-shape (suc l) k (drop b (drop a s)) after c q₂ in
    reads-is (suc l) s _ f (suc k) _ m (reads_more q below.0 rest.0, levels_more below.1 rest.1) same (omega arith)

pub forest-reads : {w : ℕ} (l k : ℕ) (s : List ℕ) (f : Forest) (m : ℕ) → read_forest w 0 l k s ≡ good f m → Reads w s f k m
forest-reads l k s f m e = (forest-shape l k s f m e).0

-- ---- what is where

pub place_none : (w : ℕ) (s : List ℕ) → node_start w 0 s ≡ 0
unfolding node_start
place_none w s = refl

pub place-step : (w k : ℕ) (s : List ℕ) (h : Head) (m : ℕ) → read_node w 0 s ≡ good h m → node_start w (suc k) s ≡ m + node_start w k (drop m s)
unfolding node_start
place-step w k s h m e = rw e

pub place-bad : (w k n p : ℕ) (s : List ℕ) → read_node w 0 s ≡ bad n p → node_start w (suc k) s ≡ length s
unfolding node_start
place-bad w k n p s e = rw e

pub reads-width : {w : ℕ} (s : List ℕ) (f : Forest) (k m : ℕ) → Reads w s f k m → width f ≡ k
unfolding width
reads-width s _ _ _ reads_none = refl
reads-width s _ _ _ (reads_more q r t) = ap suc (reads-width _ _ _ _ t)

pub drops : (a b c : ℕ) (s : List ℕ) → drop c (drop b (drop a s)) ≡ drop (a + (b + c)) s
drops a b c s = drop-drop c b (drop a s) ∙ drop-drop (b + c) a s

-- three parts of a node: its own bytes, its subtrees, its later siblings
three : (a b c x y z u : ℕ) → x ≡ a + y → y ≡ b + z → z ≡ c + u → x ≡ a + (b + c) + u
three a b c x y z u e f g = omega arith

pub reads-length : {w : ℕ} (s : List ℕ) (f : Forest) (k m : ℕ) → Reads w s f k m → (j : ℕ) → trees_length w (k + j) s ≡ m + trees_length w j (drop m s)
reads-length {w} s _ _ _ reads_none j = rw (zero-add j, zero-add (trees_length w j s))
reads-length {w} s _ _ _ (reads_more {h = h} {a = a} {b = b} {c = c} {k = k} q r t) j =
    let e : k + j + h.subtrees ≡ h.subtrees + (k + j) = omega arith in
    rw (suc-add k j, ← drops a b c s)
    (three a b c _ _ _ _
    (trees-step w (k + j) s h a q ∙ ap (λ (i : ℕ). a + trees_length w i (drop a s)) e)
    (reads-length _ _ _ _ r (k + j))
    (reads-length _ _ _ _ t j))

pub reads-places : {w : ℕ} (s : List ℕ) (f : Forest) (k m : ℕ) → Reads w s f k m → (j : ℕ) → node_start w (size f + j) s ≡ m + node_start w j (drop m s)
unfolding size
reads-places {w} s _ _ _ reads_none j = rw (zero-add j, zero-add (node_start w j s))
reads-places {w} s _ _ _ (reads_more {h = h} {kids = kids} {after = after} {a = a} {b = b} {c = c} {k = k} q r t) j =
    rw (suc-add (size kids + size after) j, add_assoc (size kids) (size after) j, ← drops a b c s)
    (three a b c _ _ _ _ (place-step w (size kids + (size after + j)) s h a q) (reads-places _ _ _ _ r (size after + j)) (reads-places _ _ _ _ t j))

-- ---- names

unfoldable pub sibling_names : Forest → List (List ℕ)
sibling_names nil = []
sibling_names (tree n kids after) = n.name ∷ sibling_names after

pub reads-names : {w : ℕ} (s : List ℕ) (f : Forest) (k m : ℕ) → Reads w s f k m → names_of w k s ≡ sibling_names f
unfolding names_of sibling_names name_of rest_of
reads-names s _ _ _ reads_none = refl
reads-names {w} s _ _ _ (reads_more {h = h} {a = a} {b = b} q r t) =
    let g = node-named w 0 s h a q in
    let e : trees_length w 1 s ≡ a + trees_length w (0 + h.subtrees) (drop a s) = trees-step w 0 s h a q in
    let i : trees_length w (h.subtrees + 0) (drop a s) ≡ b + trees_length w 0 (drop b (drop a s)) = reads-length _ _ _ _ r 0 in
    let z : trees_length w 0 (drop b (drop a s)) ≡ 0 = trees-none w (drop b (drop a s)) in
    let same : trees_length w (0 + h.subtrees) (drop a s) ≡ trees_length w (h.subtrees + 0) (drop a s) = ap (λ (n : ℕ). trees_length w n (drop a s)) (omega arith) in
    let l : trees_length w 1 s ≡ a + b = omega arith in
    rw (l, ← drop-drop b a s, ← g.0) (ap (λ (x : List (List ℕ)). h.node.name ∷ x) (reads-names _ _ _ _ t))

pub has-names : (x : List ℕ) (f : Forest) → has x f ≡ has_name x (sibling_names f)
unfolding has has_name sibling_names
has-names x nil = refl
has-names x (tree n kids after) = rw (has-names x after)

-- ---- the items of a list

-- an item is the node that is read there
pub record Shown (w : ℕ) (s : List ℕ) (i : Item) : Type 0 where
  pub taken : ℕ
  pub reads : read_node w 0 s ≡ good (record { node = i.node; subtrees = i.subtrees }) taken

pub shown-at : {w : ℕ} (s t : List ℕ) (i j : Item) → Shown w s i → s ≡ t → i ≡ j → Shown w t j
shown-at s t i j x e f = rw (← e, ← f) x

below_or : {P : Type 0} (j n : ℕ) → (j < n → P) → ((i : ℕ) → j ≡ n + i → P) → P
below_or {P} j n f g = by (ltb j n) refl
  where
    by : (t : Bool) → ltb j n ≡ t → P
    by true e = f (ltb-true j n e)
    by false e = g (j - n) (omega (arith, ltb-false j n e))

pub reads-item : {w : ℕ} (s : List ℕ) (f : Forest) (k m : ℕ) → Reads w s f k m → (l j : ℕ) (z : Item) → j < size f → Shown w (drop (node_start w j s) s) (get_or (items l f) j z)
unfolding items size
reads-item s _ _ _ reads_none l j z h = absurd (omega arith)
reads-item {w} s _ _ _ (reads_more {h = h} {kids = kids} {a = a} q r t) l zero z lt = rw (place_none w s) (record { taken = a; reads = q ∙ ap (λ (n : ℕ). good (record { node = h.node; subtrees = n }) a) (sym (reads-width _ _ _ _ r)) })
reads-item {w} s _ _ _ (reads_more {h = h} {kids = kids} {after = after} {a = a} {b = b} {c = c} q r t) l (suc j) z lt =
    let xs = items (suc l) kids in
    let n : length (items (suc l) kids) ≡ size kids = items-size (suc l) kids in
    below_or j (size kids)
    (λ (below : j < size kids).
    shown-at _ _ _ _ (reads-item _ _ _ _ r (suc l) j z below) (drop-drop _ a s ∙ ap (λ (i : ℕ). drop i s) (sym (place-step w j s h a q))) (sym (get_or-append xs (items l after) z j (omega arith))))
    (λ i (e : j ≡ size kids + i).
    let p : node_start w (suc j) s ≡ a + (b + node_start w i (drop b (drop a s))) = place-step w j s h a q ∙ ap (λ (x : ℕ). a + x) (ap (λ (x : ℕ). node_start w x (drop a s)) e ∙ reads-places _ _ _ _ r i) in
    let at_j : j ≡ length xs + i = omega arith in
    shown-at _ _ _ _ (reads-item _ _ _ _ t l i z (omega arith)) (drops a b _ s ∙ ap (λ (x : ℕ). drop x s) (sym p)) (sym (ap (λ (x : ℕ). get_or (xs ++ items l after) x z) at_j ∙ get_or-append-add xs (items l after) i z)))

-- ---- a flat pass over n trees: it began at a place, has come to another, and pending trees are still to pass. Each node takes a byte or more, so that
-- their number stays far below 2 ^ 64

pub record FlatPass (d : List ℕ) (at n place pending : ℕ) : Type 0 where
  pub least : at ≤ place
  pub inside : place ≤ length d
  pub few : pending ≤ n + (place - at) * 4294967296

pub flat_start : (d : List ℕ) (at n : ℕ) → at ≤ length d → FlatPass d at n at n
flat_start d at n inside = record { least = omega arith; inside = inside; few = omega arith }

-- a node is passed: its subtrees are to pass, and fewer bytes are left
module _ {w : ℕ} (d : List ℕ) (at n place pending : ℕ) (p : FlatPass d at n place pending) (node : Code.Node) (is : NodeIs w d place node) where
  pub flat-more : node.subtrees < 4294967296 → FlatPass d at n node.next (pending - 1 + node.subtrees)
  flat-more few =
      let a = is.named in
      let b = is.ended in
      let c = p.least in
      let e = p.few in
      record { least = omega arith; inside = is.within; few = omega arith }

  pub flat-less : length d - node.next < length d - place
  flat-less = let a = is.named in let b = is.ended in let c = is.within in omega arith

-- ---- from a place on

module _ (w : ℕ) (d : List ℕ) (place left : ℕ) where
  pub place_end : left ≤ 0 → place + node_start w left (drop place d) ≡ place
  place_end h = let z : left ≡ 0 = omega arith in rw (z, place_none w (drop place d), add-zero place)

  pub trees-end : left ≤ 0 → place + trees_length w left (drop place d) ≡ place
  trees-end h = let z : left ≡ 0 = omega arith in rw (z, trees-none w (drop place d), add-zero place)

  module _ (some : 0 < left) where
    module _ (node : Code.Node) (is : NodeIs w d place node) where
      rest-is : drop (node.next - place) (drop place d) ≡ drop node.next d
      rest-is = let a = is.named in let b = is.ended in drop-to d place (node.next - place) node.next (omega arith)

      pub place-more : place + node_start w left (drop place d) ≡ node.next + node_start w (left - 1) (drop node.next d)
      place-more =
          let a = is.named in
          let b = is.ended in
          let e : node_start w left (drop place d) ≡ node.next - place + node_start w (left - 1) (drop node.next d) =
          ap (λ (k : ℕ). node_start w k (drop place d)) (suc-pred left some) ∙ place-step w (left - 1) (drop place d) is.head (node.next - place) is.reads ∙ rw rest-is in
          omega arith

      pub trees-more : place + trees_length w left (drop place d) ≡ node.next + trees_length w (left - 1 + node.subtrees) (drop node.next d)
      trees-more =
          let a = is.named in
          let b = is.ended in
          let e : trees_length w left (drop place d) ≡ node.next - place + trees_length w (left - 1 + node.subtrees) (drop node.next d) =
          ap (λ (k : ℕ). trees_length w k (drop place d)) (suc-pred left some) ∙ trees-step w (left - 1) (drop place d) is.head (node.next - place) is.reads ∙ rw (rest-is, is.subtrees) in
          omega arith

    module _ (inside : place ≤ length d) (none : None ≡ node_at w place (read_node w 0 (drop place d))) where
      pub place-stop : place + node_start w left (drop place d) ≡ length d
      place-stop =
          no_node w d place none λ n p q.
          let e : node_start w left (drop place d) ≡ length (drop place d) = ap (λ (k : ℕ). node_start w k (drop place d)) (suc-pred left some) ∙ place-bad w (left - 1) n p (drop place d) q in
          let l : length (drop place d) ≡ length d - place = length-drop place d in
          omega arith

      pub trees-stop : place + trees_length w left (drop place d) ≡ length d
      trees-stop =
          no_node w d place none λ n p q.
          let e : trees_length w left (drop place d) ≡ length (drop place d) = ap (λ (k : ℕ). trees_length w k (drop place d)) (suc-pred left some) ∙ trees-bad w (left - 1) n p (drop place d) q in
          let l : length (drop place d) ≡ length d - place = length-drop place d in
          omega arith
