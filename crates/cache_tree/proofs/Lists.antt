-- Laws of lists of siblings: the first node and the others, the number of nodes. w is the width of an object name.
use mathlib.Core.Path.{◌≡◌, refl, sym, ap, ◌∙◌}
use mathlib.Core.List.{List}
use mathlib.Core.Bool.{Bool, true, false, cond, not, ◌&&◌}
use Prim.Native.Nat.{ℕ, zero, suc, ◌+◌, ◌-◌, ◌≤◌, ◌<◌}
use native.Mathlib.Nat.{add-zero, zero-add, add_assoc, suc-add}
use native.Mathlib.Omega.{arith}
use lib.ListN.{length, take, drop, length-drop}
use Rattle.format.specs.Records.{Node, Forest, nil, tree}
use Rattle.format.specs.Layout.{ok_node_name, distinct}
use Rattle.format.specs.Reading.{Read, bad, good, need, shift, bind}
use Rattle.format.specs.Reader.{Head, read_node, read_siblings, read_forest}
use Rattle.format_laws.proofs.Lists.{drop-to}
use Rattle.format_laws.proofs.Readings.{bad-good, good-inv, need-inv, bind_inv}
use Rattle.std.specs.Prelude.{Option, Some, None}
use Rattle.cache_tree.specs.declared.list.Listed.{Listed}
use Rattle.tree_nodes.specs.declared.node.Node as Code
use Rattle.tree_nodes.specs.Answers.{node_at}
use Rattle.cache_tree.specs.Answers.{read_one, distinct_below, tested, list_at, rooted}
use Rattle.tree_nodes.specs.Flat.{size, trees_length, names_of, has_name, names_differ}
use Rattle.tree_nodes.proofs.Readings.{node-took}
use Rattle.tree_nodes.proofs.Nodes.{NodeIs}
use Rattle.tree_nodes.proofs.Flat.{sibling_names, has-names, reads-names, reads-length, trees-none, forest-reads}

-- ---- tests

and_assoc : (a b c : Bool) → (a && (b && c)) ≡ ((a && b) && c)
and_assoc true b c = refl
and_assoc false b c = refl

and-true : (a : Bool) → (a && true) ≡ a
and-true true = refl
and-true false = refl

and-false : (a : Bool) → (a && false) ≡ false
and-false true = refl
and-false false = refl

-- ---- one list after another

unfoldable pub graft : Forest → Forest → Forest
graft nil g = g
graft (tree n kids more) g = tree n kids (graft more g)

pub graft-size : (f g : Forest) → size (graft f g) ≡ size f + size g
unfolding graft size
graft-size nil g = sym (zero-add (size g))
graft-size (tree n kids more) g = let e : size (graft more g) ≡ size more + size g = graft-size more g in omega (arith, suc-add (size kids + size more) (size g))

-- the answer for nodes before others
abbrev pub plus : ℕ → Option Listed → Option Listed
plus n None = None
plus n (Some l) = Some (record { next = l.next; nodes = n + l.nodes })

pub plus_none : (r : Option Listed) → r ≡ plus 0 r
plus_none None = refl
plus_none (Some l) = rw (zero-add l.nodes)

plus-plus : (n m : ℕ) (r : Option Listed) → plus n (plus m r) ≡ plus (n + m) r
plus-plus n m None = refl
plus-plus n m (Some l) = rw (add_assoc n m l.nodes)

-- the answer for a node and its list of subtrees
abbrev pub rooted_all : Option Listed → Option Listed
rooted_all None = None
rooted_all (Some l) = Some (rooted l)

-- ---- a list is its first node and the others

-- the others, after the first
unfoldable pub others : Forest → Read Forest → Read Forest
others t r = bind r λ after o. good (graft t after) 0

module _ (s : List ℕ) (rest : List ℕ → Read Forest) (n : Node) (m : ℕ) where
  step-rest : (kids : Forest) (k : ℕ) (z : Read Forest) →
      shift m (shift k (bind z λ after o. good (tree n kids after) 0)) ≡ shift (m + (k + 0)) (others (tree n kids nil) z)
  unfolding others graft bind shift
  step-rest kids k (bad a p) = refl
  step-rest kids k (good f o) = ap (λ (i : ℕ). good (tree n kids f) i) (omega arith)

  step-kids : (y : Read Forest) →
      shift m (bind y λ kids k. bind (rest (drop k (drop m s))) λ after o. good (tree n kids after) 0)
      ≡ bind (shift m (bind y λ kids k. good (tree n kids nil) 0)) λ t i. others t (rest (drop i s))
  unfolding bind shift
  step-kids (bad a p) = refl
  step-kids (good kids k) = let e : drop (m + (k + 0)) s ≡ drop k (drop m s) = sym (drop-to s m k (m + (k + 0)) (omega arith)) in rw e (step-rest kids k (rest (drop k (drop m s))))

  step-need : (b : Bool) (y : Read Forest) →
      shift m (need b 15 0 (bind y λ kids k. bind (rest (drop k (drop m s))) λ after o. good (tree n kids after) 0))
      ≡ bind (shift m (need b 15 0 (bind y λ kids k. good (tree n kids nil) 0))) λ t i. others t (rest (drop i s))
  unfolding need bind shift
  step-need true y = step-kids y
  step-need false y = refl

step_by : (s : List ℕ) (rest : List ℕ → Read Forest) (go : ℕ → List ℕ → Read Forest) (x : Read Head) →
    bind x (λ h m. need (ok_node_name h.node.name) 15 0 (bind (go h.subtrees (drop m s)) λ kids k. bind (rest (drop k (drop m s))) λ after o. good (tree h.node kids after) 0))
    ≡ bind (bind x (λ h m. need (ok_node_name h.node.name) 15 0 (bind (go h.subtrees (drop m s)) λ kids k. good (tree h.node kids nil) 0))) λ t i. others t (rest (drop i s))
unfolding bind
step_by s rest go (bad n p) = refl
step_by s rest go (good h m) = step-need s rest h.node m (ok_node_name h.node.name) (go h.subtrees (drop m s))

pub list-step : (w l k : ℕ) (s : List ℕ) → read_forest w 0 l (suc k) s ≡ bind (read_one w l s) λ t m. others t (read_forest w 0 l k (drop m s))
unfolding read_forest read_siblings read_one bind
list-step w zero k s = refl
list-step w (suc l) k s = step_by s (read_forest w 0 (suc l) k) (read_forest w 0 l) (read_node w 0 s)

pub list-none : (w l : ℕ) (s : List ℕ) → read_forest w 0 l 0 s ≡ good nil 0
unfolding read_forest read_siblings
list-none w zero s = refl
list-none w (suc l) s = refl

-- ---- how many nodes and bytes

pub record Sized (most : ℕ) (r : Read Forest) : Type 0 where
  pub of : (f : Forest) (m : ℕ) → r ≡ good f m → (size f ≤ m) × (m ≤ most)

one-sized : (w l : ℕ) → ((k : ℕ) (s : List ℕ) → Sized (length s) (read_forest w 0 l k s)) → (s : List ℕ) → Sized (length s) (read_one w (suc l) s)
unfolding read_one size
one-sized w l below s = record {
  of = λ f j e.
      bind_inv (read_node w 0 s) _ f j e λ h m i q r is.
      need-inv (ok_node_name h.node.name) 15 0 _ f i r λ ok r₁.
      bind_inv (read_forest w 0 l h.subtrees (drop m s)) _ f i r₁ λ kids n o q₁ r₂ is₁.
      good-inv (tree h.node kids nil) f 0 o r₂ λ same z₁.
      let z : size f ≡ suc (size kids + 0) = sym (ap size same) in
      let b : (size kids ≤ n) × (n ≤ length (drop m s)) = (below h.subtrees (drop m s)).of kids n q₁ in
      let c : (1 ≤ m) × (m ≤ length s) = (node-took w 0 s).of h m q in
      let d : length (drop m s) ≡ length s - m = length-drop m s in
      (omega arith, omega arith);
}

none-sized : (w l : ℕ) (s : List ℕ) → Sized (length s) (read_forest w 0 l 0 s)
unfolding size
none-sized w l s = record {
  of = λ f m e.
      good-inv nil f 0 m (sym (list-none w l s) ∙ e) λ same z₁.
      let z : size f ≡ 0 = sym (ap size same) in
      (omega arith, omega arith);
}

more-sized : (w l k : ℕ) (s : List ℕ) → Sized (length s) (read_one w l s) → ((u : List ℕ) → Sized (length u) (read_forest w 0 l k u)) → Sized (length s) (read_forest w 0 l (suc k) s)
unfolding others
more-sized w l k s one rest = record {
  of = λ f j e.
      bind_inv (read_one w l s) _ f j (sym (list-step w l k s) ∙ e) λ t m i q r is.
      bind_inv (read_forest w 0 l k (drop m s)) _ f i r λ after n o q₁ r₁ is₁.
      good-inv (graft t after) f 0 o r₁ λ same z₁.
      let z : size f ≡ size t + size after = sym (ap size same) ∙ graft-size t after in
      let b : (size after ≤ n) × (n ≤ length (drop m s)) = (rest (drop m s)).of after n q₁ in
      let c : (size t ≤ m) × (m ≤ length s) = one.of t m q in
      let d : length (drop m s) ≡ length s - m = length-drop m s in
      (omega arith, omega arith);
}

no-level : (w : ℕ) (s : List ℕ) → Sized (length s) (read_one w 0 s)
unfolding read_one
no-level w s = record { of = λ f m e. bad-good 15 0 f m e }

pub forest-sized : (w l k : ℕ) (s : List ℕ) → Sized (length s) (read_forest w 0 l k s)
forest-sized w zero zero s = none-sized w zero s
forest-sized w zero (suc k) s = more-sized w zero k s (no-level w s) (forest-sized w zero k)
forest-sized w (suc l) zero s = none-sized w (suc l) s
forest-sized w (suc l) (suc k) s = more-sized w (suc l) k s (one-sized w l (forest-sized w l) s) (forest-sized w (suc l) k)

pub subtree-sized : (w l : ℕ) (s : List ℕ) → Sized (length s) (read_one w l s)
subtree-sized w zero s = no-level w s
subtree-sized w (suc l) s = one-sized w l (forest-sized w l) s

-- ---- what an answer says of the format's reading

-- the answer for a reading that was tested
pub record ListIs (ok : Forest → Bool) (d : List ℕ) (at : ℕ) (r : Read Forest) (next n : ℕ) : Type 0 where
  pub of : Forest
  pub reads : r ≡ good of (next - at)
  pub passes : ok of ≡ true
  pub nodes : n ≡ size of
  pub few : at + n ≤ next
  pub within : next ≤ length d

module _ (ok : Forest → Bool) (d : List ℕ) (at : ℕ) where
  module _ (l : Listed) (inside : at ≤ length d) (f : Forest) (m : ℕ) (t : Sized (length (drop at d)) (good f m)) where
    list-by : (b : Bool) → ok f ≡ b → Some l ≡ list_at at (need b 15 0 (good f m)) → ListIs ok d at (good f m) l.next l.nodes
    unfolding list_at need
    list-by false q e = absurd (cc)
    list-by true q e =
        let i : l ≡ record { next = at + m; nodes = size f } = cc in
        let i₁ : l.next ≡ at + m = ap (λ (x : Listed). x.next) i in
        let i₂ : l.nodes ≡ size f = ap (λ (x : Listed). x.nodes) i in
        let b : (size f ≤ m) × (m ≤ length (drop at d)) = t.of f m refl in
        let k : length (drop at d) ≡ length d - at = length-drop at d in
        let j : m ≡ l.next - at = omega arith in
        record { of = f; reads = ap (λ (i : ℕ). good f i) j; passes = q; nodes = i₂; few = omega arith; within = omega arith }

  pub list-is : (l : Listed) → at ≤ length d → (r : Read Forest) → Sized (length (drop at d)) r → Some l ≡ list_at at (tested ok r) → ListIs ok d at r l.next l.nodes
  unfolding list_at tested
  list-is l inside (bad a p) t e = absurd (cc)
  list-is l inside (good f m) t e = list-by l inside f m t (ok f) refl e

-- ---- names that differ in each list further down

graft-below : (f g : Forest) → distinct_below (graft f g) ≡ (distinct_below f && distinct_below g)
unfolding graft distinct_below
graft-below nil g = refl
graft-below (tree n kids more) g = rw (graft-below more g) (and_assoc (distinct kids) (distinct_below more) (distinct_below g))

-- ---- the siblings from a place on

module _ (at : ℕ) where
  bad-on : {A : Type 0} (x : Read A) (a : A → ℕ → Read Forest) (n p : ℕ) → x ≡ bad n p → list_at at (tested distinct_below (bind x a)) ≡ None
  unfolding bind tested list_at
  bad-on x a n p e = rw e

  bad-is : (f : Forest) (m : ℕ) (b : Bool) → None ≡ list_at at (need b 15 0 (good f m)) → b ≡ false
  unfolding list_at need
  bad-is f m true e = absurd (cc)
  bad-is f m false e = refl

  -- the first sibling has two equal names below it
  equal-others : (m : ℕ) (f : Forest) (y : Read Forest) → distinct_below f ≡ false → list_at at (tested distinct_below (shift m (others f y))) ≡ None
  unfolding others bind shift tested need list_at
  equal-others m f (bad n p) e = refl
  equal-others m f (good g o) e = rw (graft-below f g, e)

  forest-bad : (x : Read Forest) (rest : ℕ → Read Forest) → None ≡ list_at at (tested distinct_below x) → list_at at (tested distinct_below (bind x λ t m. others t (rest m))) ≡ None
  unfolding list_at tested bind
  forest-bad (bad n p) rest e = refl
  forest-bad (good f m) rest e = equal-others m f (rest m) (bad-is f m (distinct_below f) e)

  others_by : (m next o : ℕ) (t f : Forest) → next ≡ at + m → (b : Bool) → list_at at (need b 15 0 (good (graft t f) (m + (o + 0)))) ≡ plus (size t) (list_at next (need b 15 0 (good f o)))
  unfolding need list_at
  others_by m next o t f i false = refl
  others_by m next o t f i true = let e : at + (m + (o + 0)) ≡ next + o = omega arith in rw (e, graft-size t f)

  shift-others : (m next : ℕ) (t : Forest) (y : Read Forest) → next ≡ at + m → distinct_below t ≡ true → list_at at (tested distinct_below (shift m (others t y))) ≡ plus (size t) (list_at next (tested distinct_below y))
  unfolding others bind shift tested list_at
  shift-others m next t (bad n p) i q = refl
  shift-others m next t (good f o) i q = rw (graft-below t f, q) (others_by m next o t f i (distinct_below f))

forest-more : (w l k : ℕ) (s : List ℕ) → 0 < k → read_forest w 0 l k s ≡ bind (read_one w l s) λ t m. others t (read_forest w 0 l (k - 1) (drop m s))
forest-more w l k s h = let e : k ≡ suc (k - 1) = omega arith in ap (λ (j : ℕ). read_forest w 0 l j s) e ∙ list-step w l (k - 1) s

module _ (w : ℕ) (d : List ℕ) (l place left : ℕ) where
  turn-none : left ≤ 0 → list_at place (tested distinct_below (read_forest w 0 l left (drop place d))) ≡ Some (record { next = place; nodes = 0 })
  unfolding list_at tested need distinct_below size
  turn-none h = let z : left ≡ 0 = omega arith in rw (z, list-none w l (drop place d), add-zero place)

  module _ (some : 0 < left) where
    turn-bad : None ≡ list_at place (tested distinct_below (read_one w l (drop place d))) → list_at place (tested distinct_below (read_forest w 0 l left (drop place d))) ≡ None
    turn-bad e = ap (λ (x : Read Forest). list_at place (tested distinct_below x)) (forest-more w l left (drop place d) some) ∙ forest-bad place (read_one w l (drop place d)) (λ m. read_forest w 0 l (left - 1) (drop m (drop place d))) e

    turn-good : (next n : ℕ) → ListIs distinct_below d place (read_one w l (drop place d)) next n
        → list_at place (tested distinct_below (read_forest w 0 l left (drop place d))) ≡ plus n (list_at next (tested distinct_below (read_forest w 0 l (left - 1) (drop next d))))
    unfolding bind
    turn-good next n is =
        let b = is.few in
        let e : next ≡ place + (next - place) = omega arith in
        ap (λ (x : Read Forest). list_at place (tested distinct_below x)) (forest-more w l left (drop place d) some)
        ∙ rw (is.reads, drop-to d place (next - place) next e, is.nodes) (shift-others place (next - place) next is.of (read_forest w 0 l (left - 1) (drop next d)) e is.passes)

-- the loop over siblings: the answer for the whole list, of which some nodes are before the place, before the siblings' own names are tested
module _ (w : ℕ) (d : List ℕ) (l place left : ℕ) (whole : Option Listed) (nodes : ℕ) (so_far : whole ≡ plus nodes (list_at place (tested distinct_below (read_forest w 0 l left (drop place d))))) where
  loop-end : left ≤ 0 → Some (record { next = place; nodes = nodes }) ≡ whole
  loop-end h = sym (so_far ∙ ap (plus nodes) (turn-none w d l place left h) ∙ rw (add-zero nodes))

  loop-bad : 0 < left → None ≡ list_at place (tested distinct_below (read_one w l (drop place d))) → None ≡ whole
  loop-bad some e = sym (so_far ∙ ap (plus nodes) (turn-bad w d l place left some e))

  pub loop-more : (next n : ℕ) → 0 < left → ListIs distinct_below d place (read_one w l (drop place d)) next n
      → whole ≡ plus (nodes + n) (list_at next (tested distinct_below (read_forest w 0 l (left - 1) (drop next d))))
  loop-more next n some is = so_far ∙ ap (plus nodes) (turn-good w d l place left some next n is) ∙ plus-plus nodes n (list_at next (tested distinct_below (read_forest w 0 l (left - 1) (drop next d))))

-- ---- the siblings' own names

and-names : (h x n k : Bool) → (not h && (x && (n && k))) ≡ (cond h false n && (x && k))
and-names true x n k = refl
and-names false true n k = refl
and-names false false true k = refl
and-names false false false k = refl

distinct-is : (f : Forest) → distinct f ≡ (names_differ (sibling_names f) && distinct_below f)
unfolding distinct names_differ sibling_names distinct_below
distinct-is nil = refl
distinct-is (tree n kids after) =
    rw (has-names n.name after, distinct-is after) (and-names (has_name n.name (sibling_names after)) (distinct kids) (names_differ (sibling_names after)) (distinct_below after))

module _ (w : ℕ) (d : List ℕ) (at l k : ℕ) where
  abbrev whole-list : Read Forest
  whole-list = read_forest w 0 l k (drop at d)

  -- two equal names further down
  below-bad : (x : Read Forest) → None ≡ list_at at (tested distinct_below x) → None ≡ list_at at (tested distinct x)
  unfolding list_at tested need
  below-bad (bad n p) e = refl
  below-bad (good f m) e = rw (distinct-is f, bad-is at f m (distinct_below f) e, and-false (names_differ (sibling_names f)))

  module _ (place nodes : ℕ) (is : ListIs distinct_below d at whole-list place nodes) where
    own-names : distinct is.of ≡ names_differ (names_of w k (drop at d))
    own-names = distinct-is is.of ∙ rw (is.passes, ← (reads-names _ _ _ _ (forest-reads l k (drop at d) is.of (place - at) is.reads))) (and-true (names_differ (names_of w k (drop at d))))

    list-end : (b : Bool) → names_differ (names_of w k (drop at d)) ≡ b → list_at at (tested distinct whole-list) ≡ list_at at (need b 15 0 (good is.of (place - at)))
    unfolding tested
    list-end b e = rw (is.reads, own-names, e)

    pub list-differs : names_differ (names_of w k (drop at d)) ≡ true → Some (record { next = place; nodes = nodes }) ≡ list_at at (tested distinct whole-list)
    unfolding need list_at
    list-differs e = let w = is.few in let i : at + (place - at) ≡ place = omega arith in sym (list-end true e ∙ rw (i, ← is.nodes))

    pub list-equal : names_differ (names_of w k (drop at d)) ≡ false → None ≡ list_at at (tested distinct whole-list)
    unfolding need list_at
    list-equal e = sym (list-end false e)

  module _ (place left nodes : ℕ) (so_far : list_at at (tested distinct_below whole-list) ≡ plus nodes (list_at place (tested distinct_below (read_forest w 0 l left (drop place d))))) where
    pub list-bad : 0 < left → None ≡ list_at place (tested distinct_below (read_one w l (drop place d))) → None ≡ list_at at (tested distinct whole-list)
    list-bad some e = below-bad whole-list (loop-bad w d l place left _ nodes so_far some e)

    pub list_all : at ≤ length d → left ≤ 0 → ListIs distinct_below d at whole-list place nodes
    list_all inside none = list-is distinct_below d at (record { next = place; nodes = nodes }) inside whole-list (forest-sized w l k (drop at d)) (loop-end w d l place left _ nodes so_far none)

-- a sibling and all below it reach up to the next one
one-alone : (w l : ℕ) (s : List ℕ) (t : Forest) (m : ℕ) → read_one w l s ≡ good t m → read_forest w 0 l 1 s ≡ good (graft t nil) (m + (0 + 0))
unfolding bind shift others
one-alone w l s t m e = list-step w l 0 s ∙ rw (e, list-none w l (drop m s))

one-some : (w l : ℕ) (s : List ℕ) (f : Forest) (j : ℕ) → read_one w l s ≡ good f j → 1 ≤ j
unfolding read_one
one-some w zero s f j e = bad-good 15 0 f j e
one-some w (suc l) s f j e =
    bind_inv (read_node w 0 s) _ f j e λ h m i q r is.
    let c : (1 ≤ m) × (m ≤ length s) = (node-took w 0 s).of h m q in
    omega arith

pub one-length : (w : ℕ) (d : List ℕ) (l place next n : ℕ) → ListIs distinct_below d place (read_one w l (drop place d)) next n → (place < next) × (next ≡ place + trees_length w 1 (drop place d))
one-length w d l place next n is =
    let few = is.few in
    let some : 1 ≤ next - place = one-some w l (drop place d) is.of (next - place) is.reads in
    let r = forest-reads l 1 (drop place d) _ _ (one-alone w l (drop place d) is.of (next - place) is.reads) in
    let e : trees_length w (1 + 0) (drop place d) ≡ next - place + (0 + 0) + trees_length w 0 (drop (next - place + (0 + 0)) (drop place d)) = reads-length _ _ _ _ r 0 in
    let z : trees_length w 0 (drop (next - place + (0 + 0)) (drop place d)) ≡ 0 = trees-none w (drop (next - place + (0 + 0)) (drop place d)) in
    (omega arith, omega arith)

-- ---- a node and its list of subtrees

one_more : (w l : ℕ) (s : List ℕ) → (l ≡ 0 → ⊥) → read_one w l s ≡ bind (read_node w 0 s) λ h m.
    need (ok_node_name h.node.name) 15 0 (bind (read_forest w 0 (l - 1) h.subtrees (drop m s)) λ kids n. good (tree h.node kids nil) 0)
unfolding read_one
one_more w zero s e = absurd (e refl)
one_more w (suc l) s e = let k : suc l - 1 ≡ l = omega arith in rw k

no-node-by : (w at : ℕ) (x : Read Head) (a : Head → ℕ → Read Forest) → None ≡ node_at w at x → list_at at (tested distinct_below (bind x a)) ≡ None
unfolding node_at
no-node-by w at (bad n p) a e = bad-on at _ a n p refl
no-node-by w at (good h m) a e = absurd (cc)

-- a node with those subtrees
one-tested : (at m next k : ℕ) (node : Node) (f : Forest) → next ≡ at + m → (b : Bool) → list_at at (need b 15 0 (good (tree node f nil) (m + (k + 0)))) ≡ rooted_all (list_at next (need b 15 0 (good f k)))
unfolding list_at need size
one-tested at m next k node f is false = refl
one-tested at m next k node f is true =
    let i : at + (m + (k + 0)) ≡ next + k = omega arith in
    let n : suc (size f + 0) ≡ size f + 1 = omega arith in
    rw (i, n)

one-rooted-by : (at m next : ℕ) (node : Node) → next ≡ at + m → (y : Read Forest) → list_at at (tested distinct_below (shift m (bind y λ kids n. good (tree node kids nil) 0))) ≡ rooted_all (list_at next (tested distinct y))
unfolding list_at bind shift tested distinct_below
one-rooted-by at m next node is (bad n p) = refl
one-rooted-by at m next node is (good f k) = rw (and-true (distinct f)) (one-tested at m next k node f is (distinct f))

module _ (w : ℕ) (d : List ℕ) (at l : ℕ) where
  pub one_none : l ≡ 0 → list_at at (tested distinct_below (read_one w l (drop at d))) ≡ None
  unfolding read_one tested list_at
  one_none e = rw e

  module _ (l-some : l ≡ 0 → ⊥) where
    pub one-no-node : None ≡ node_at w at (read_node w 0 (drop at d)) → list_at at (tested distinct_below (read_one w l (drop at d))) ≡ None
    one-no-node e = ap (λ (x : Read Forest). list_at at (tested distinct_below x)) (one_more w l (drop at d) l-some) ∙ no-node-by w at (read_node w 0 (drop at d)) _ e

    module _ (node : Code.Node) (is : NodeIs w d at node) where
      pub one-no-name : false ≡ ok_node_name (take (node.nul - at) (drop at d)) → list_at at (tested distinct_below (read_one w l (drop at d))) ≡ None
      unfolding bind shift need tested list_at
      one-no-name e = ap (λ (x : Read Forest). list_at at (tested distinct_below x)) (one_more w l (drop at d) l-some) ∙ rw (is.reads, is.name, ← e)

      module _ (named : true ≡ ok_node_name (take (node.nul - at) (drop at d))) where
        one_list : read_one w l (drop at d) ≡ shift (node.next - at) (bind (read_forest w 0 (l - 1) node.subtrees (drop node.next d)) λ kids n. good (tree is.head.node kids nil) 0)
        unfolding bind need
        one_list =
            let b : at ≤ node.next = omega (arith, is.named, is.ended) in
            let e : node.next ≡ at + (node.next - at) = omega arith in
            one_more w l (drop at d) l-some ∙ rw (is.reads, is.name, ← named, is.subtrees, drop-to d at (node.next - at) node.next e)

        pub one-rooted : list_at at (tested distinct_below (read_one w l (drop at d))) ≡ rooted_all (list_at node.next (tested distinct (read_forest w 0 (l - 1) node.subtrees (drop node.next d))))
        one-rooted =
            let b : at ≤ node.next = omega (arith, is.named, is.ended) in
            ap (λ (x : Read Forest). list_at at (tested distinct_below x)) one_list ∙ one-rooted-by at (node.next - at) node.next is.head.node (omega arith) _
