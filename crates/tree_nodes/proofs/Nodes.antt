-- Laws of the parts of a node at a place of the data. w is the width of an object name.
use mathlib.Core.Path.{◌≡◌, refl, sym, ap, ◌∙◌}
use mathlib.Core.List.{List, [], ◌∷◌}
use mathlib.Core.Bool.{Bool, true, false, cond, ◌&&◌, true≢false}
use mathlib.Core.Option as M
use Prim.Native.Nat.{ℕ, ◌+◌, ◌-◌, ◌≤◌, ◌<◌}
use native.Mathlib.Nat.{add-zero, add_assoc}
use native.Mathlib.Omega.{arith}
use lib.ListN.{length, get_or, take, drop, replicate, length-take, length-drop}
use lib.Seq.{take_all, drop-drop}
use lib.Dec.{leb}
use borrow.Author.Tests.{eq-eqb, ne_eqb, le-leb, lt-leb}
use Rattle.format.specs.Bytes.{before, decimal, value}
use Rattle.format.specs.Records as Records
use Rattle.format.specs.Layout.{is_valid}
use Rattle.format.specs.Reading.{Read, bad, good, need, shift, bind}
use Rattle.format.specs.Reader.{read_text, count_in, need_some, read_count, read_subtrees, read_object, Head, read_node}
use Rattle.format_laws.proofs.Lists.{drop-to}
use Rattle.format_laws.proofs.Texts.{text-inv, text-none, text-some}
use Rattle.format_laws.proofs.Readings.{need-inv, bind_inv}
use Rattle.std.specs.Prelude.{Option, Some, None}
use Rattle.tree_nodes.specs.declared.node.Node.{Node}
use Rattle.tree_nodes.specs.Answers.{number_in, counted, object_length, object_after, count_of, count_at, subtrees_at, node_of, node_at}
use Rattle.tree_nodes.proofs.Readings.{Took, count-took, subtrees-took, node-took}

-- ---- entry counts

-- a number as an entry count, and one that stood after "-"
abbrev pub plain_of : Option ℕ → Option (Option ℕ)
plain_of None = None
plain_of (Some n) = Some (Some n)

abbrev pub minus_of : Option ℕ → Option (Option ℕ)
minus_of None = None
minus_of (Some n) = cond (leb 1 n) (Some None) None

plain_by : (b : Bool) (n : ℕ) → count_of (cond b (M.some (Records.valid n)) M.none) ≡ plain_of (cond b (Some n) None)
unfolding count_of
plain_by true n = refl
plain_by false n = refl

minus-by : (a l o : Bool) (n : ℕ) → leb 1 n ≡ o → count_of (cond (a && (o && l)) (M.some Records.invalid) M.none) ≡ minus_of (cond (a && l) (Some n) None)
unfolding count_of
minus-by false l o n e = refl
minus-by true true true n e = rw e
minus-by true true false n e = rw e
minus-by true false true n e = refl
minus-by true false false n e = refl

pub count-empty : (t : List ℕ) → length t ≡ 0 → count_of (count_in t) ≡ None
unfolding count_in count_of
count-empty [] h = refl
count-empty (x ∷ t) h = absurd (omega arith)

pub count-minus : (t : List ℕ) → (length t ≡ 0 → ⊥) → get_or t 0 0 ≡ 45 → count_of (count_in t) ≡ minus_of (number_in 2147483648 (take (length t - 1) (drop 1 t)))
unfolding count_in number_in
count-minus [] h e = absurd (h refl)
count-minus (x ∷ t) h e =
    let l : length t ≤ length (x ∷ t) - 1 = omega arith in
    rw (eq-eqb x 45 e, take_all (length (x ∷ t) - 1) t l) (minus-by (decimal t) (leb (value t) 2147483648) (leb 1 (value t)) (value t) refl)

pub count-plain : (t : List ℕ) → (length t ≡ 0 → ⊥) → (get_or t 0 0 ≡ 45 → ⊥) → count_of (count_in t) ≡ plain_of (number_in 2147483647 t)
unfolding count_in number_in
count-plain [] h e = absurd (h refl)
count-plain (x ∷ t) h e = rw (ne_eqb x 45 e) (plain_by (decimal (x ∷ t) && leb (value (x ∷ t)) 2147483647) (value (x ∷ t)))

-- ---- the parts at a place

-- a part with the place after it
abbrev pub with_place : {A : Type 0} → ℕ → Option A → Option (A × ℕ)
with_place next None = None
with_place next (Some a) = Some (a, next)

module _ (at next m : ℕ) (is : next ≡ at + m) where
  count-some-by : (o : M.Option Records.Count) → count_at at (shift m (need_some o 15 0 (λ c. good c 0))) ≡ with_place next (count_of o)
  unfolding count_at count_of need_some shift
  count-some-by M.none = refl
  count-some-by (M.some c) = rw (add-zero, is)

  subtrees-by : (b : Bool) (n : ℕ) → subtrees_at at (shift m (need b 15 0 (good n 0))) ≡ with_place next (cond b (Some n) None)
  unfolding subtrees_at need shift
  subtrees-by true n = rw (add-zero, is)
  subtrees-by false n = refl

module _ (d : List ℕ) (at e : ℕ) where
  module _ (is : e ≡ at + before 32 (drop at d)) where
    pub count_none : e ≡ length d → count_at at (read_count 0 (drop at d)) ≡ None
    unfolding read_count bind count_at
    count_none h = rw (text-none 32 15 0 d at e is h)

    pub count-some : e < length d → count_at at (read_count 0 (drop at d)) ≡ with_place (e + 1) (count_of (count_in (take (e - at) (drop at d))))
    unfolding read_count bind
    count-some h = rw (text-some 32 15 0 d at e is h) (count-some-by at (e + 1) (e + 1 - at) (omega arith) (count_in (take (e - at) (drop at d))))

  module _ (is : e ≡ at + before 10 (drop at d)) where
    pub subtrees-none : e ≡ length d → subtrees_at at (read_subtrees 0 (drop at d)) ≡ None
    unfolding read_subtrees bind subtrees_at
    subtrees-none h = rw (text-none 10 15 0 d at e is h)

    pub subtrees-some : e < length d → subtrees_at at (read_subtrees 0 (drop at d)) ≡ with_place (e + 1) (number_in 2147483647 (take (e - at) (drop at d)))
    unfolding read_subtrees bind number_in
    subtrees-some h =
        let t = take (e - at) (drop at d) in
        rw (text-some 10 15 0 d at e is h) (subtrees-by at (e + 1) (e + 1 - at) (omega arith) (decimal t && leb (value t) 2147483647) (value t))

-- ---- what a part's answer says of the format's reading

pub record CountIs (d : List ℕ) (at : ℕ) (count : Option ℕ) (next : ℕ) : Type 0 where
  pub of : Records.Count
  pub reads : read_count 0 (drop at d) ≡ good of (next - at)
  pub is_count : counted of ≡ count
  pub after : at ≤ next
  pub within : next ≤ length d

pub record SubtreesIs (d : List ℕ) (at k next : ℕ) : Type 0 where
  pub reads : read_subtrees 0 (drop at d) ≡ good k (next - at)
  pub after : at ≤ next
  pub within : next ≤ length d

module _ (d : List ℕ) (at : ℕ) (inside : at ≤ length d) where
  count-is-by : (n : Option ℕ) (next : ℕ) (x : Read Records.Count) → read_count 0 (drop at d) ≡ x → Took 1 (length (drop at d)) x → Some (n, next) ≡ count_at at x → CountIs d at n next
  unfolding count_at
  count-is-by n next (bad a p) q t e = absurd (cc)
  count-is-by n next (good c m) q t e =
      let both : ◌≡◌ {A = Option ℕ × ℕ} (n, next) (counted c, at + m) = cc in
      let is : next ≡ at + m = ap (λ (x : Option ℕ × ℕ). x.1) both in
      let l : length (drop at d) ≡ length d - at = length-drop at d in
      let b : m ≤ length (drop at d) = (t.of c m refl).1 in
      let k : m ≡ next - at = omega arith in
      record { of = c; reads = q ∙ ap (λ (i : ℕ). good c i) k; is_count = sym (ap (λ (x : Option ℕ × ℕ). x.0) both); after = omega arith; within = omega arith }

  pub count_is : (n : Option ℕ) (next : ℕ) → Some (n, next) ≡ count_at at (read_count 0 (drop at d)) → CountIs d at n next
  count_is n next e = count-is-by n next _ refl (count-took 0 (drop at d)) e

  subtrees-is-by : (n next : ℕ) (x : Read ℕ) → read_subtrees 0 (drop at d) ≡ x → Took 1 (length (drop at d)) x → Some (n, next) ≡ subtrees_at at x → SubtreesIs d at n next
  unfolding subtrees_at
  subtrees-is-by n next (bad a p) q t e = absurd (cc)
  subtrees-is-by n next (good c m) q t e =
      let both : ◌≡◌ {A = ℕ × ℕ} (n, next) (c, at + m) = cc in
      let is : next ≡ at + m = ap (λ (x : ℕ × ℕ). x.1) both in
      let l : length (drop at d) ≡ length d - at = length-drop at d in
      let b : m ≤ length (drop at d) = (t.of c m refl).1 in
      let k : m ≡ next - at = omega arith in
      let n-is : c ≡ n = sym (ap (λ (x : ℕ × ℕ). x.0) both) in
      record { reads = q ∙ ap (λ (i : ℕ). good c i) k ∙ ap (λ (j : ℕ). good j (next - at)) n-is; after = omega arith; within = omega arith }

  pub subtrees-is : (n next : ℕ) → Some (n, next) ≡ subtrees_at at (read_subtrees 0 (drop at d)) → SubtreesIs d at n next
  subtrees-is n next e = subtrees-is-by n next _ refl (subtrees-took 0 (drop at d)) e

-- ---- a node, part after part

-- the rest of a node after its name, its entry count, its number of subtrees
unfoldable pub after_subtrees : ℕ → List ℕ → Records.Count → ℕ → List ℕ → Read Head
after_subtrees w name count subtrees s = bind (read_object w 0 count s) λ object q. good (record { node = record { name = name; count = count; object = object }; subtrees = subtrees }) 0

unfoldable pub after_count : ℕ → List ℕ → Records.Count → List ℕ → Read Head
after_count w name count s = bind (read_subtrees 0 s) λ subtrees o. after_subtrees w name count subtrees (drop o s)

unfoldable pub after_name : ℕ → List ℕ → List ℕ → Read Head
after_name w name s = bind (read_count 0 s) λ count n. after_count w name count (drop n s)

-- the node that begins at a place, of which the rest is at another
unfoldable pub node_from : ℕ → ℕ → ℕ → Read Head → Option Node
node_from w at place (bad n p) = None
node_from w at place (good h m) = Some (record {
  nul = at + length h.node.name;
  count = counted h.node.count;
  subtrees = h.subtrees;
  object = place + m - object_length w h.node.count;
  next = place + m;
})

from-here : (w at : ℕ) (r : Read Head) → node_at w at r ≡ node_from w at at r
unfolding node_at node_from
from-here w at (bad n p) = refl
from-here w at (good h m) = refl

from-shift : (w at place m : ℕ) (r : Read Head) → node_from w at place (shift m r) ≡ node_from w at (place + m) r
unfolding node_from shift
from-shift w at place m (bad n p) = refl
from-shift w at place m (good h k) = rw (add_assoc place m k)

from-bind : (w : ℕ) {A : Type 0} (at place next m : ℕ) (a : A) (x : Read A) (k : A → ℕ → Read Head) → x ≡ good a m → next ≡ place + m → node_from w at place (bind x k) ≡ node_from w at next (k a m)
unfolding bind
from-bind w at place next m a x k e i = rw (e, i) (from-shift w at place m (k a m))

from-bad : (w : ℕ) {A : Type 0} (at place n p : ℕ) (x : Read A) (k : A → ℕ → Read Head) → x ≡ bad n p → node_from w at place (bind x k) ≡ None
unfolding bind node_from
from-bad w at place n p x k e = rw e

module _ (w : ℕ) (d : List ℕ) (at z : ℕ) (is : z ≡ at + before 0 (drop at d)) where
  pub node-none : z ≡ length d → node_at w at (read_node w 0 (drop at d)) ≡ None
  unfolding read_node
  node-none h = from-here w at _ ∙ from-bad w at at 15 0 _ _ (text-none 0 15 0 d at z is h)

  pub node-name : z < length d → node_at w at (read_node w 0 (drop at d)) ≡ node_from w at (z + 1) (after_name w (take (z - at) (drop at d)) (drop (z + 1) d))
  unfolding read_node after_name after_count after_subtrees
  node-name h =
      let next : z + 1 ≡ at + (z + 1 - at) = omega arith in
      from-here w at _ ∙ from-bind w at at (z + 1) (z + 1 - at) (take (z - at) (drop at d)) _ _ (text-some 0 15 0 d at z is h) next
      ∙ ap (λ (s : List ℕ). node_from w at (z + 1) (after_name w (take (z - at) (drop at d)) s)) (drop-to d at (z + 1 - at) (z + 1) next)

module _ (w : ℕ) (d name : List ℕ) (at place : ℕ) where
  pub from-count : (n : Option ℕ) (next : ℕ) (is : CountIs d place n next) → node_from w at place (after_name w name (drop place d)) ≡ node_from w at next (after_count w name is.of (drop next d))
  unfolding after_name
  from-count n next is =
      let q = is.after in
      let e : next ≡ place + (next - place) = omega arith in
      from-bind w at place next (next - place) is.of _ _ is.reads e ∙ rw (drop-to d place (next - place) next e)

  no-count-by : (x : Read Records.Count) → None ≡ count_at place x → (k : Records.Count → ℕ → Read Head) → node_from w at place (bind x k) ≡ None
  unfolding count_at
  no-count-by (bad a p) e k = from-bad w at place a p _ k refl
  no-count-by (good c m) e k = absurd (cc)

  pub from-no-count : None ≡ count_at place (read_count 0 (drop place d)) → node_from w at place (after_name w name (drop place d)) ≡ None
  unfolding after_name
  from-no-count e = no-count-by (read_count 0 (drop place d)) e _

  module _ (count : Records.Count) where
    pub from-subtrees : (k next : ℕ) (is : SubtreesIs d place k next) → node_from w at place (after_count w name count (drop place d)) ≡ node_from w at next (after_subtrees w name count k (drop next d))
    unfolding after_count
    from-subtrees k next is =
        let q = is.after in
        let e : next ≡ place + (next - place) = omega arith in
        from-bind w at place next (next - place) k _ _ is.reads e ∙ rw (drop-to d place (next - place) next e)

    no-subtrees-by : (x : Read ℕ) → None ≡ subtrees_at place x → (k : ℕ → ℕ → Read Head) → node_from w at place (bind x k) ≡ None
    unfolding subtrees_at
    no-subtrees-by (bad a p) e k = from-bad w at place a p _ k refl
    no-subtrees-by (good c m) e k = absurd (cc)

    pub from-no-subtrees : None ≡ subtrees_at place (read_subtrees 0 (drop place d)) → node_from w at place (after_count w name count (drop place d)) ≡ None
    unfolding after_count
    from-no-subtrees e = no-subtrees-by (read_subtrees 0 (drop place d)) e _

-- the end of a node whose name ends at z
module _ (w : ℕ) (d : List ℕ) (at z place k n : ℕ) (named : at ≤ z) (inside : z ≤ length d) (within : place ≤ length d) where
  name-length : length (take (z - at) (drop at d)) ≡ z - at
  name-length = simp (length-take, length-drop) (omega arith)

  pub from-short : length d - place < w → node_from w at place (after_subtrees w (take (z - at) (drop at d)) (Records.valid n) k (drop place d)) ≡ None
  unfolding after_subtrees read_object need
  from-short h =
      let l : length (drop place d) < w = simp length-drop (omega arith) in
      rw (lt-leb _ _ l) (from-bad w {A = List ℕ} at place 15 0 (bad 15 0) _ refl)

  pub from-valid : w ≤ length d - place → node_from w at place (after_subtrees w (take (z - at) (drop at d)) (Records.valid n) k (drop place d)) ≡ Some (record { nul = z; count = Some n; subtrees = k; object = place; next = place + w })
  unfolding after_subtrees read_object need node_from bind shift
  from-valid h =
      let l : w ≤ length (drop place d) = simp length-drop (omega arith) in
      let e : at + length (take (z - at) (drop at d)) ≡ z = omega (arith, name-length) in
      let o : place + (w + 0) - w ≡ place = omega arith in
      rw (le-leb _ _ l, e, o, add-zero w)

  pub from-invalid : node_from w at place (after_subtrees w (take (z - at) (drop at d)) Records.invalid k (drop place d)) ≡ Some (record { nul = z; count = None; subtrees = k; object = place; next = place })
  unfolding after_subtrees read_object node_from bind shift
  from-invalid =
      let e : at + length (take (z - at) (drop at d)) ≡ z = omega (arith, name-length) in
      let o : place + 0 - 0 ≡ place = omega arith in
      rw (e, o, add-zero place)

valid-of : (c : Records.Count) (n : ℕ) → counted c ≡ Some n → c ≡ Records.valid n
valid-of (Records.valid m) n e = ap Records.valid (cc)
valid-of Records.invalid n e = absurd (cc)

invalid-of : (c : Records.Count) → counted c ≡ None → c ≡ Records.invalid
invalid-of (Records.valid n) e = absurd (cc)
invalid-of Records.invalid e = refl

-- ---- the whole node

module _ (w : ℕ) (d : List ℕ) (at z : ℕ) (named : z ≡ at + before 0 (drop at d)) (inside : z < length d) where
  pub node-no-count : None ≡ count_at (z + 1) (read_count 0 (drop (z + 1) d)) → node_at w at (read_node w 0 (drop at d)) ≡ None
  node-no-count e = node-name w d at z named inside ∙ from-no-count w d _ at (z + 1) e

  module _ (n : Option ℕ) (middle : ℕ) (c : CountIs d (z + 1) n middle) where
    pub node-no-subtrees : None ≡ subtrees_at middle (read_subtrees 0 (drop middle d)) → node_at w at (read_node w 0 (drop at d)) ≡ None
    node-no-subtrees e = node-name w d at z named inside ∙ from-count w d _ at (z + 1) n middle c ∙ from-no-subtrees w d _ at middle c.of e

    module _ (k object : ℕ) (s : SubtreesIs d middle k object) where
      to-object : (count : Records.Count) → c.of ≡ count → node_at w at (read_node w 0 (drop at d)) ≡ node_from w at object (after_subtrees w (take (z - at) (drop at d)) count k (drop object d))
      to-object count e = rw (← e) (node-name w d at z named inside ∙ from-count w d _ at (z + 1) n middle c ∙ from-subtrees w d _ at middle c.of k object s)

      within : object ≤ length d
      within = s.within

      node-valid : (v : ℕ) → n ≡ Some v → w ≤ length d - object → node_at w at (read_node w 0 (drop at d)) ≡ Some (record { nul = z; count = Some v; subtrees = k; object = object; next = object + w })
      node-valid v e h = to-object (Records.valid v) (valid-of c.of v (c.is_count ∙ e)) ∙ from-valid w d at z object k v (omega arith) (omega arith) within h

      node-invalid : n ≡ None → node_at w at (read_node w 0 (drop at d)) ≡ Some (record { nul = z; count = None; subtrees = k; object = object; next = object + 0 })
      node-invalid e = rw (add-zero object) (to-object Records.invalid (invalid-of c.of (c.is_count ∙ e)) ∙ from-invalid w d at z object k 0 (omega arith) (omega arith) within)

      node-cut : (v : ℕ) → n ≡ Some v → length d - object < w → node_at w at (read_node w 0 (drop at d)) ≡ None
      node-cut v e h = to-object (Records.valid v) (valid-of c.of v (c.is_count ∙ e)) ∙ from-short w d at z object k v (omega arith) (omega arith) within h

    -- r is the length of its object name
    module _ (k object : ℕ) (s : SubtreesIs d middle k object) (r : ℕ) (is : r ≡ object_after w n) where
      pub node-short : length d - object < r → node_at w at (read_node w 0 (drop at d)) ≡ None
      node-short h = by n refl
        where
          by : (o : Option ℕ) → n ≡ o → node_at w at (read_node w 0 (drop at d)) ≡ None
          by (Some v) e = let q : r ≡ w = is ∙ ap (object_after w) e in node-cut k object s v e (omega arith)
          by None e = let q : r ≡ 0 = is ∙ ap (object_after w) e in absurd (omega arith)

      pub node-good : r ≤ length d - object → node_at w at (read_node w 0 (drop at d)) ≡ Some (record { nul = z; count = n; subtrees = k; object = object; next = object + r })
      node-good h = by n refl
        where
          by : (o : Option ℕ) → n ≡ o → node_at w at (read_node w 0 (drop at d)) ≡ Some (record { nul = z; count = n; subtrees = k; object = object; next = object + r })
          by (Some v) e = let q : r ≡ w = is ∙ ap (object_after w) e in rw (q, e) (node-valid k object s v e (omega arith))
          by None e = let q : r ≡ 0 = is ∙ ap (object_after w) e in rw (q, e) (node-invalid k object s e)

-- ---- what a node's answer says of the format's reading

pub record NodeIs (w : ℕ) (d : List ℕ) (at : ℕ) (node : Node) : Type 0 where
  pub head : Head
  pub reads : read_node w 0 (drop at d) ≡ good head (node.next - at)
  pub name : head.node.name ≡ take (node.nul - at) (drop at d)
  pub subtrees : head.subtrees ≡ node.subtrees
  pub named : at ≤ node.nul
  pub ended : node.nul < node.next
  pub within : node.next ≤ length d

-- the name of a node that was read
pub node-named : (w p : ℕ) (s : List ℕ) (h : Head) (m : ℕ) → read_node w p s ≡ good h m → (h.node.name ≡ take (before 0 s) s) × (before 0 s < m) × (before 0 s < length s)
unfolding read_node
node-named w p s h m e =
    bind_inv (read_text 0 15 p s) _ h m e λ name a a' q r i.
    bind_inv (read_count p (drop a s)) _ h a' r λ count b b' q₁ r₁ i₁.
    bind_inv (read_subtrees p (drop b (drop a s))) _ h b' r₁ λ k c c' q₂ r₂ i₂.
    bind_inv (read_object w p count (drop c (drop b (drop a s)))) _ h c' r₂ λ object o o' q₃ r₃ i₃.
    text-inv 0 15 p s name a q λ within text size.
    let same : record { node = record { name = name; count = count; object = object }; subtrees = k } ≡ h = cc in
    (sym (ap (λ (x : Head). x.node.name) same) ∙ sym text, omega arith, within)

module _ {w : ℕ} (d : List ℕ) (at : ℕ) (inside : at ≤ length d) where
  node-is-by : (node : Node) (x : Read Head) → read_node w 0 (drop at d) ≡ x → Some node ≡ node_at w at x → NodeIs w d at node
  unfolding node_at
  node-is-by node (bad n p) q e = absurd (cc)
  node-is-by node (good h m) q e =
      let is : node ≡ node_of w at h m = cc in
      let nul : node.nul ≡ at + length h.node.name = ap (λ (n : Node). n.nul) is in
      let next : node.next ≡ at + m = ap (λ (n : Node). n.next) is in
      let l : length (drop at d) ≡ length d - at = length-drop at d in
      let b : (1 ≤ m) × (m ≤ length (drop at d)) = (node-took w 0 (drop at d)).of h m q in
      let g = node-named w 0 (drop at d) h m q in
      let g₁ : before 0 (drop at d) < m = g.1 in
      let g₂ : before 0 (drop at d) < length (drop at d) = g.2 in
      let k : length h.node.name ≡ before 0 (drop at d) = ap length g.0 ∙ simp length-take (omega arith) in
      let j : node.nul - at ≡ before 0 (drop at d) = omega arith in
      let i : m ≡ node.next - at = omega arith in
      record {
        head = h;
        reads = q ∙ ap (λ (n : ℕ). good h n) i;
        name = g.0 ∙ ap (λ (n : ℕ). take n (drop at d)) (sym j);
        subtrees = sym (ap (λ (n : Node). n.subtrees) is);
        named = omega arith;
        ended = omega arith;
        within = omega arith;
      }

  pub node-is : (node : Node) → Some node ≡ node_at w at (read_node w 0 (drop at d)) → NodeIs w d at node
  node-is node e = node-is-by node _ refl e

no-node-by {ℓ} : (w : ℕ) {X : Type ℓ} (at : ℕ) (x : Read Head) → None ≡ node_at w at x → ((n p : ℕ) → x ≡ bad n p → X) → X
unfolding node_at
no-node-by w at (bad n p) e f = f n p refl
no-node-by w at (good h m) e f = absurd (cc)

pub no_node {ℓ} : (w : ℕ) {X : Type ℓ} (d : List ℕ) (at : ℕ) → None ≡ node_at w at (read_node w 0 (drop at d)) → ((n p : ℕ) → read_node w 0 (drop at d) ≡ bad n p → X) → X
no_node w d at e f = no-node-by w at (read_node w 0 (drop at d)) e f

-- ---- the object name of a node that was read

pub object-valid : (w p : ℕ) (c : Records.Count) (s o : List ℕ) (k : ℕ) → read_object w p c s ≡ good o k → is_valid c ≡ true → (k ≡ w) × (o ≡ take w s)
unfolding read_object
object-valid w p (Records.valid n) s o k e v = need-inv (leb w (length s)) 15 p _ o k e (λ l r. (cc, cc))
object-valid w p Records.invalid s o k e v = absurd (true≢false (sym v))

object-invalid : (w p : ℕ) (c : Records.Count) (s o : List ℕ) (k : ℕ) → read_object w p c s ≡ good o k → is_valid c ≡ false → o ≡ replicate w 0
unfolding read_object
object-invalid w p (Records.valid n) s o k e v = absurd (true≢false v)
object-invalid w p Records.invalid s o k e v = cc

-- the last w bytes where the count is valid, else zeros
pub node-object : (w p : ℕ) (s : List ℕ) (h : Head) (m : ℕ) → read_node w p s ≡ good h m →
    (is_valid h.node.count ≡ true → h.node.object ≡ take w (drop (m - w) s)) × (is_valid h.node.count ≡ false → h.node.object ≡ replicate w 0)
unfolding read_node
node-object w p s h m e =
    bind_inv (read_text 0 15 p s) _ h m e λ name a a' q r i.
    bind_inv (read_count p (drop a s)) _ h a' r λ count b b' q₁ r₁ i₁.
    bind_inv (read_subtrees p (drop b (drop a s))) _ h b' r₁ λ k c c' q₂ r₂ i₂.
    bind_inv (read_object w p count (drop c (drop b (drop a s)))) _ h c' r₂ λ object o o' q₃ r₃ i₃.
    let same : record { node = record { name = name; count = count; object = object }; subtrees = k } ≡ h = cc in
    let z : 0 ≡ o' = cc in
    let is_count : h.node.count ≡ count = ap (λ (x : Head). x.node.count) (sym same) in
    let is-object : h.node.object ≡ object = ap (λ (x : Head). x.node.object) (sym same) in
    let rest : drop c (drop b (drop a s)) ≡ drop (a + (b + c)) s = drop-drop c b (drop a s) ∙ drop-drop (b + c) a s in (
      (λ v.
          let f = object-valid w p count _ object o q₃ (ap is_valid (sym is_count) ∙ v) in
          let f₁ : o ≡ w = f.0 in
          let l : a + (b + c) ≡ m - w = omega arith in
          is-object ∙ f.1 ∙ ap (take w) (rest ∙ ap (λ (n : ℕ). drop n s) l)),
      (λ v. is-object ∙ object-invalid w p count _ object o q₃ (ap is_valid (sym is_count) ∙ v)),
    )
