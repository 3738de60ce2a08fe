-- Every fault of the data of TREE is 15 at the extension's place, and what is read does not hang on that place. w is the width of an object name.
use mathlib.Core.Path.{◌≡◌, refl, sym, ap, ◌∙◌}
use mathlib.Core.List.{List}
use mathlib.Core.Bool.{Bool, true, false, ◌&&◌}
use mathlib.Core.Option.{Option, none, some}
use Prim.Native.Nat.{ℕ, zero, suc}
use lib.ListN.{length, drop}
use lib.Dec.{eqb, leb, ltb}
use Rattle.format.specs.Bytes.{before, decimal, value}
use Rattle.format.specs.Records as Records
use Rattle.format.specs.Records.{Forest, Tree}
use Rattle.format.specs.Layout.{ok_node_name, distinct}
use Rattle.format.specs.Reading.{Read, bad, good, need, shift, bind}
use Rattle.format.specs.Reader.{read_text, count_in, need_some, read_count, read_subtrees, read_object, read_node, read_siblings, read_forest, read_nodes}
use Rattle.std.specs.Prelude as P
use Rattle.cache_tree.specs.Shape.{read_shape, tree_of, placed}

shift-placed : {A : Type 0} (p m : ℕ) (r : Read A) → shift m (placed p r) ≡ placed p (shift m r)
unfolding shift
shift-placed p m (bad n q) = refl
shift-placed p m (good a k) = refl

bind-placed : {A B : Type 0} (p : ℕ) (x y : Read A) (k l : A → ℕ → Read B) → x ≡ placed p y → ((a : A) (m : ℕ) → k a m ≡ placed p (l a m)) → bind x k ≡ placed p (bind y l)
unfolding bind
bind-placed p x (bad n q) k l e f = rw e
bind-placed p x (good a m) k l e f = rw (e, f a m) (shift-placed p m (l a m))

need-placed : {A : Type 0} (p : ℕ) (b : Bool) (x y : Read A) → x ≡ placed p y → need b 15 p x ≡ placed p (need b 15 0 y)
unfolding need
need-placed p true x y e = e
need-placed p false x y e = refl

some-placed : {A B : Type 0} (p : ℕ) (o : Option A) (k : A → Read B) → ((a : A) → k a ≡ placed p (k a)) → need_some o 15 p k ≡ placed p (need_some o 15 0 k)
unfolding need_some
some-placed p none k f = refl
some-placed p (some a) k f = f a

module _ (p : ℕ) where
  text-placed : (b : ℕ) (s : List ℕ) → read_text b 15 p s ≡ placed p (read_text b 15 0 s)
  unfolding read_text
  text-placed b s = need-placed p (ltb (before b s) (length s)) _ _ refl

  count-placed : (s : List ℕ) → read_count p s ≡ placed p (read_count 0 s)
  unfolding read_count
  count-placed s = bind-placed p _ _ _ _ (text-placed 32 s) (λ t m. some-placed p (count_in t) _ (λ c. refl))

  subtrees-placed : (s : List ℕ) → read_subtrees p s ≡ placed p (read_subtrees 0 s)
  unfolding read_subtrees
  subtrees-placed s = bind-placed p _ _ _ _ (text-placed 10 s) (λ t m. need-placed p (decimal t && leb (value t) 2147483647) _ _ refl)

  module _ (w : ℕ) where
    object-placed : (c : Records.Count) (s : List ℕ) → read_object w p c s ≡ placed p (read_object w 0 c s)
    unfolding read_object
    object-placed (Records.valid n) s = need-placed p (leb w (length s)) _ _ refl
    object-placed Records.invalid s = refl

    node-placed : (s : List ℕ) → read_node w p s ≡ placed p (read_node w 0 s)
    unfolding read_node
    node-placed s =
        bind-placed p _ _ _ _ (text-placed 0 s) λ name m.
        bind-placed p _ _ _ _ (count-placed (drop m s)) λ count n.
        bind-placed p _ _ _ _ (subtrees-placed (drop n (drop m s))) λ k o.
        bind-placed p _ _ _ _ (object-placed count (drop o (drop n (drop m s)))) λ object q. refl

    siblings-placed : (go start : ℕ → List ℕ → Read Forest) → ((k : ℕ) (s : List ℕ) → go k s ≡ placed p (start k s)) → (k : ℕ) (s : List ℕ) → read_siblings w p go k s ≡ placed p (read_siblings w 0 start k s)
    unfolding read_siblings
    siblings-placed go start f zero s = refl
    siblings-placed go start f (suc k) s =
        bind-placed p _ _ _ _ (node-placed s) λ h m.
        need-placed p (ok_node_name h.node.name) _ _
        (bind-placed p _ _ _ _ (f h.subtrees (drop m s)) λ kids n.
        bind-placed p _ _ _ _ (siblings-placed go start f k (drop n (drop m s))) λ after o. refl)

    forest-placed : (l k : ℕ) (s : List ℕ) → read_forest w p l k s ≡ placed p (read_forest w 0 l k s)
    unfolding read_forest
    forest-placed zero zero s = refl
    forest-placed zero (suc k) s = refl
    forest-placed (suc l) k s = siblings-placed (read_forest w p l) (read_forest w 0 l) (forest-placed l) k s

    nodes-placed : (s : List ℕ) → read_nodes w p s ≡ placed p (read_nodes w 0 s)
    unfolding read_nodes
    nodes-placed s =
        bind-placed p _ _ _ _ (node-placed s) λ h m.
        need-placed p (eqb (length h.node.name) 0) _ _
        (bind-placed p _ _ _ _ (forest-placed 127 h.subtrees (drop m s)) λ kids n. refl)

    pub shape-placed : (s : List ℕ) → read_shape w p s ≡ placed p (read_shape w 0 s)
    unfolding read_shape
    shape-placed s =
        bind-placed p _ _ _ _ (nodes-placed s) λ t m.
        need-placed p (eqb m (length s)) _ _ (need-placed p (distinct t.subtrees) _ _ refl)

-- the answer at any place
tree_placed : (w p : ℕ) (d : List ℕ) → tree_of (read_shape w 0 d) ≡ tree_of (read_shape w p d)
unfolding tree_of
tree_placed w p d = sym (ap tree_of (shape-placed p w d) ∙ by (read_shape w 0 d))
  where
    by : (x : Read Tree) → tree_of (placed p x) ≡ tree_of x
    by (bad n q) = refl
    by (good t m) = refl

pub answered : (w : ℕ) (d : List ℕ) (r : P.Option ℕ) → tree_of (read_shape w 0 d) ≡ r → (p : ℕ) → r ≡ tree_of (read_shape w p d)
answered w d r e p = sym e ∙ tree_placed w p d

-- a refusal is 15 at the place
pub tree-fault : (w p : ℕ) (d : List ℕ) → P.None ≡ tree_of (read_shape w p d) → read_shape w p d ≡ bad 15 p
unfolding tree_of
tree-fault w p d e = shape-placed p w d ∙ by (read_shape w 0 d) (e ∙ sym (tree_placed w p d))
  where
    by : (x : Read Tree) → P.None ≡ tree_of x → placed p x ≡ bad 15 p
    by (bad n q) e = refl
    by (good t m) e = absurd (cc)
