-- Laws of the pass that finds a node's level: the stack of what remains, what it says of the items that are still to come, and the loop. w is the
-- width of an object name.
use mathlib.Core.Path.{◌≡◌, refl, sym, ap, subst, ◌∙◌}
use mathlib.Core.List.{List, [], ◌∷◌, ◌++◌, append-nil, append_assoc}
use Prim.Native.Nat.{ℕ, zero, suc, ◌+◌, ◌-◌, ◌≤◌, ◌<◌}
use native.Mathlib.Omega.{arith}
use lib.ListN.{length, get_or, set, drop, length-set}
use lib.Seq.{get_or-set_same, get_or-set_other}
use Rattle.format.specs.Records.{Forest, nil, tree, width, Tree, Item, items, tree_items}
use Rattle.format.specs.Reading.{good}
use Rattle.format.specs.Reader.{Head, read_node, read_nodes}
use Rattle.format_laws.proofs.Lists.{drop-to}
use Rattle.format_laws.proofs.Readings.{bad-good}
use Rattle.tree_nodes.specs.declared.node.Node as Code
use Rattle.std.specs.Prelude.{None}
use Rattle.tree_nodes.specs.Answers.{node_at}
use Rattle.tree_nodes.proofs.Nodes.{NodeIs, no_node}
use Rattle.tree_nodes.specs.Flat.{Reads, reads_none, reads_more}
use Rattle.tree_nodes.specs.Levels.{stack_of, climbed, passed}
use Rattle.tree_nodes.proofs.Flat.{Levels, levels_more, drops}
use Rattle.tree_nodes.proofs.Trees.{tree-items, tree-reads}

-- ---- an array as a stack

stack-length : (r : List ℕ) (levels : ℕ) → length (stack_of r levels) ≡ levels
unfolding stack_of
stack-length r zero = refl
stack-length r (suc levels) = ap suc (stack-length r levels)

-- what is stored further down does not matter
stack-under : (r : List ℕ) (levels i x : ℕ) → levels ≤ i → stack_of (set r i x) levels ≡ stack_of r levels
unfolding stack_of
stack-under r zero i x h = refl
stack-under r (suc levels) i x h = rw (get_or-set_other r i levels x 0 (λ e. omega arith), stack-under r levels i x (omega arith))

stack_set : (r : List ℕ) (depth x : ℕ) → depth < length r → stack_of (set r depth x) (suc depth) ≡ x ∷ stack_of r depth
unfolding stack_of
stack_set r depth x h = rw (get_or-set_same r depth x 0 h, stack-under r depth depth x (omega arith))

-- a node is passed: its number of subtrees is k, and x of its siblings are left
module _ (r : List ℕ) (depth x k : ℕ) (less : x ≡ get_or r depth 0 - 1) where
  pub passed-leaf : depth < length r → k ≡ 0 → climbed (stack_of (set r depth x) (suc depth)) ≡ passed k (stack_of r (suc depth))
  unfolding stack_of climbed passed
  passed-leaf h none = ap climbed (stack_set r depth x h) ∙ rw (none, less)

  pub passed-node : (below : ℕ) → below ≡ suc depth → below < length r → climbed (stack_of (set (set r depth x) below k) (suc below)) ≡ passed k (stack_of r (suc depth))
  unfolding stack_of passed
  passed-node below is h =
      let long : below < length (set r depth x) = rw (length-set r depth x) h in
      ap climbed (stack_set (set r depth x) below k long ∙ ap (λ (st : List ℕ). k ∷ st) (ap (stack_of (set r depth x)) is ∙ stack_set r depth x (omega arith) ∙ rw less refl))

-- ---- the climb

climb-some : (n : ℕ) (st : List ℕ) → 0 < n → climbed (n ∷ st) ≡ n ∷ st
unfolding climbed
climb-some zero st h = absurd (omega arith)
climb-some (suc n) [] h = refl
climb-some (suc n) (m ∷ st) h = refl

climb-climbed : (st : List ℕ) → climbed (climbed st) ≡ climbed st
unfolding climbed
climb-climbed [] = refl
climb-climbed (n ∷ []) = refl
climb-climbed (zero ∷ m ∷ st) = climb-climbed (m ∷ st)
climb-climbed (suc n ∷ m ∷ st) = refl

climb-length : (st : List ℕ) → length (climbed st) ≤ length st
unfolding climbed
climb-length [] = omega arith
climb-length (n ∷ []) = omega arith
climb-length (zero ∷ m ∷ st) = let l = climb-length (m ∷ st) in omega arith
climb-length (suc n ∷ m ∷ st) = omega arith

module _ (r : List ℕ) (depth : ℕ) where
  -- it ends where siblings remain, or at the root
  pub climb-stays : 0 < get_or r depth 0 → climbed (stack_of r (suc depth)) ≡ stack_of r (suc depth)
  unfolding stack_of
  climb-stays h = climb-some (get_or r depth 0) (stack_of r depth) h

  pub climb-root : depth ≤ 0 → climbed (stack_of r (suc depth)) ≡ stack_of r 1
  unfolding climbed stack_of
  climb-root h = let z : depth ≡ 0 = omega arith in subst (λ (d : ℕ). climbed (stack_of r (suc d)) ≡ stack_of r 1) (sym z) refl

pub climb-more : (r : List ℕ) (depth : ℕ) → 0 < depth → get_or r depth 0 ≤ 0 → climbed (stack_of r (suc depth)) ≡ climbed (stack_of r (suc (depth - 1)))
unfolding climbed stack_of
climb-more r zero some h = absurd (omega arith)
climb-more r (suc depth) some h =
    let z : get_or r (suc depth) 0 ≡ 0 = omega arith in
    let e : suc depth - 1 ≡ depth = omega arith in
    rw (e, z)

-- ---- the items that are still to come

-- Pending w s st is: on each level of the stack st its number of siblings are in s, the deepest first, each followed by all below it; is are
-- the items of all of them
data Pending (w : ℕ) : List ℕ → List ℕ → List Item → Type 0 where
  pending_none : {s : List ℕ} → Pending w s [] []
  pending_list :
      {s : List ℕ} {f : Forest} {l n m : ℕ} {st : List ℕ} {is rest : List Item} →
      Reads w s f n m →
      Levels l f →
      l + length st ≡ 128 →
      Pending w (drop m s) st rest →
      is ≡ items (suc (length st)) f ++ rest →
      Pending w s (n ∷ st) is

-- a level on which none are left
pending-up : {w : ℕ} (s st : List ℕ) (is : List Item) (n : ℕ) → n ≡ 0 → Pending w s (n ∷ st) is → Pending w s st is
unfolding items
pending-up s st is _ z (pending_list reads_none l b p e) = rw e p
pending-up s st is _ z (pending_list (reads_more q r t) l b p e) = absurd (omega arith)

pending-climbed : {w : ℕ} (s st : List ℕ) (is : List Item) → Pending w s st is → Pending w s (climbed st) is
unfolding climbed
pending-climbed s [] is p = p
pending-climbed s (n ∷ []) is p = p
pending-climbed s (zero ∷ m ∷ st) is p = pending-climbed s (m ∷ st) is (pending-up s (m ∷ st) is 0 refl p)
pending-climbed s (suc n ∷ m ∷ st) is p = p

-- as many levels as there may be
pending-deep : {w : ℕ} (s st : List ℕ) (is : List Item) (n : ℕ) → 0 < n → Pending w s (n ∷ st) is → length st ≤ 127
pending-deep s st is _ h (pending_list reads_none l b p e) = absurd (omega arith)
pending-deep s st is _ h (pending_list (reads_more q r t) (levels_more k a) b p e) = omega arith

-- a node is next
record Next (w : ℕ) (s : List ℕ) (n : ℕ) (st : List ℕ) (is : List Item) : Type 0 where
  item : Item
  rest : List Item
  split : is ≡ item ∷ rest
  level : item.level ≡ suc (length st)
  head : Head
  taken : ℕ
  reads : read_node w 0 s ≡ good head taken
  pending : Pending w (drop taken s) (head.subtrees ∷ (n - 1) ∷ st) rest

pending_next : {w : ℕ} (s st : List ℕ) (is : List Item) (n : ℕ) → 0 < n → Pending w s (n ∷ st) is → Next w s n st is
unfolding items
pending_next s st is _ h (pending_list reads_none l b p e) = absurd (omega arith)
pending_next {w} s st is _ h (pending_list {rest = more} (reads_more {h = head} {kids = kids} {after = after} {a = a} {b = b} {c = c} {k = k} q r t) (levels_more {l = l} below beside) sum p e) =
    let item : Item = record { node = head.node; level = suc (length st); subtrees = width kids } in
    let under : List Item = items (suc (suc (length st))) kids in
    let later : List Item = items (suc (length st)) after ++ more in
    let last : Pending w (drop c (drop b (drop a s))) st more = rw (drops a b c s) p in
    let rest : Pending w (drop b (drop a s)) (k ∷ st) later = pending_list t beside sum last refl in
    let one : suc k - 1 ≡ k = omega arith in
    let levels : l + suc (length st) ≡ 128 = omega arith in
    record {
      item = item;
      rest = under ++ later;
      split = e ∙ ap (λ x. item ∷ x) (append_assoc under (items (suc (length st)) after) more);
      level = refl;
      head = head;
      taken = a;
      reads = q;
      pending = rw one (pending_list r below levels rest refl);
    }

pending-all : {w : ℕ} (s : List ℕ) (is : List Item) → Pending w s [] is → length is ≡ 0
pending-all s _ pending_none = refl

-- where the climb has ended and not all is passed
climbed-next : {w : ℕ} (s : List ℕ) (n : ℕ) (st : List ℕ) (is : List Item) → climbed (n ∷ st) ≡ n ∷ st → Pending w s (n ∷ st) is → 0 < length is → Next w s n st is
unfolding climbed
climbed-next s zero [] is is_climbed p some = let none = pending-all s is (pending-up s [] is 0 refl p) in absurd (omega arith)
climbed-next s zero (m ∷ st) is is_climbed p some = let l = climb-length (m ∷ st) in absurd (omega (arith, ap length is_climbed))
climbed-next s (suc n) st is is_climbed p some = pending_next s st is (suc n) (omega arith) p

-- ---- the loop

-- after some nodes, left before node number k of the tree t: what is still to come from place on
record Remains (w : ℕ) (d : List ℕ) (k : ℕ) (t : Tree) (place left : ℕ) (st : List ℕ) : Type 0 where
  rest : List Item
  pending : Pending w (drop place d) st rest
  is_climbed : climbed st ≡ st
  more : left < length rest
  same : (z : Item) → get_or (tree_items t) k z ≡ get_or rest left z

-- the same for any tree that the data may be
pub record Passing (w : ℕ) (d : List ℕ) (k place left : ℕ) (st : List ℕ) : Type 0 where
  of : (t : Tree) (m : ℕ) → read_nodes w 0 d ≡ good t m → k < length (tree_items t) → Remains w d k t place left st

pub passing-start : {w : ℕ} (d : List ℕ) (k : ℕ) (st : List ℕ) → st ≡ 1 ∷ [] → Passing w d k 0 k st
unfolding climbed
passing-start d k st one =
    record {
      of = λ t m e few.
          let r = tree-reads d t m e in
          record {
            rest = tree_items t;
            pending = rw one (pending_list r.reads r.levels refl pending_none (tree-items t ∙ sym (append-nil (items 1 (tree t.root t.subtrees nil)))));
            is_climbed = rw one;
            more = few;
            same = λ z. refl;
          };
    }

rest-item : (is : List Item) (i : Item) (rest : List Item) (z : Item) (left : ℕ) → is ≡ i ∷ rest → 0 < left → get_or is left z ≡ get_or rest (left - 1) z
rest-item is i rest z zero e some = absurd (omega arith)
rest-item is i rest z (suc left) e some = let one : suc left - 1 ≡ left = omega arith in rw (e, one)

module _ {w : ℕ} (d : List ℕ) (k : ℕ) (t : Tree) (place left n : ℕ) (st : List ℕ) (h : Remains w d k t place left (n ∷ st)) where
  remains-next : Next w (drop place d) n st h.rest
  remains-next = climbed-next (drop place d) n st h.rest h.is_climbed h.pending (omega (arith, h.more))

  remains-more : 0 < left → (node : Code.Node) → NodeIs w d place node
      → (st' : List ℕ) → ((0 < node.subtrees → length st < 127) → st' ≡ passed node.subtrees (n ∷ st)) → Remains w d k t node.next (left - 1) st'
  unfolding passed
  remains-more some node is st' e =
      let x = remains-next in
      let a = is.named in
      let b = is.ended in
      let same_head : is.head ≡ x.head = cc (is.reads, x.reads) in
      let same_size : node.next - place ≡ x.taken = cc (is.reads, x.reads) in
      let to : node.next ≡ place + (node.next - place) = omega arith in
      let after : Pending w (drop node.next d) (node.subtrees ∷ (n - 1) ∷ st) x.rest =
      rw (← is.subtrees, same_head, ← (drop-to d place (node.next - place) node.next to), same_size) x.pending in
      let here = e (λ subtrees. let deep = pending-deep _ _ _ _ subtrees after in omega arith) in
      record {
        rest = x.rest;
        pending = rw here (pending-climbed _ _ _ after);
        is_climbed = rw here (climb-climbed (node.subtrees ∷ (n - 1) ∷ st));
        more = omega (arith, h.more, ap length x.split);
        same = λ z. h.same z ∙ rest-item h.rest x.item x.rest z left x.split some;
      }

module _ {w : ℕ} (d : List ℕ) (k place left : ℕ) (r : List ℕ) (depth : ℕ) (h : Passing w d k place left (stack_of r (suc depth))) where
  -- a node is passed, and the climb from it
  pub passing-more : 0 < left → (node : Code.Node) → NodeIs w d place node
      → (st : List ℕ) → ((0 < node.subtrees → depth < 127) → st ≡ passed node.subtrees (stack_of r (suc depth))) → Passing w d k node.next (left - 1) st
  unfolding stack_of
  passing-more some node is st e =
      record { of = λ t m q few. remains-more d k t place left _ (stack_of r depth) (h.of t m q few) some node is st (λ deep. e (λ subtrees. rw (stack-length r depth) at (deep subtrees))) }

  -- no node where there must be one
  pub passing-stop : None ≡ node_at w place (read_node w 0 (drop place d)) → (t : Tree) (m : ℕ) → read_nodes w 0 d ≡ good t m → k < length (tree_items t) → ⊥
  unfolding stack_of
  passing-stop none t m e few =
      let x = remains-next d k t place left _ _ (h.of t m e few) in
      no_node w d place none λ n p q. bad-good n p x.head x.taken (sym q ∙ x.reads)

  -- the next node is the one
  pub passing-end : left ≤ 0 → (t : Tree) (m : ℕ) (z : Item) → read_nodes w 0 d ≡ good t m → k < length (tree_items t) → suc depth ≡ (get_or (tree_items t) k z).level
  unfolding stack_of
  passing-end last t m z e few =
      let y = h.of t m e few in
      let x = remains-next d k t place left _ _ y in
      let none : left ≡ 0 = omega arith in
      let first : get_or y.rest left z ≡ x.item = ap (λ n. get_or y.rest n z) none ∙ ap (λ is. get_or is 0 z) x.split in
      let level : (get_or (tree_items t) k z).level ≡ x.item.level = ap (λ (i : Item). i.level) (y.same z ∙ first) in
      sym (level ∙ x.level ∙ ap suc (stack-length r depth))
