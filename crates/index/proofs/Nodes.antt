-- Laws of a node of the cache tree that is shown.
use mathlib.Core.Path.{◌≡◌, refl, sym, ap, ◌∙◌}
use mathlib.Core.List.{List}
use mathlib.Core.Bool.{Bool, true, false, cond}
use mathlib.Core.Option.{Option, none, some}
use Prim.Native.Nat.{ℕ, ◌+◌, ◌-◌, ◌≤◌, ◌<◌}
use native.Mathlib.Omega.{arith}
use lib.ListN.{length, take, drop, get_or, replicate, length-take, length-drop, length-replicate}
use lib.Seq.{drop-drop}
use Rattle.std.specs.Prelude as P
use Rattle.std.specs.Prelude.{Ok, Some, None, is_some, IsSome, IfSome}
use Rattle.format.specs.Records as F
use Rattle.format.specs.Layout.{is_valid, ObjectBytes}
use Rattle.format.specs.Reading.{good}
use Rattle.format.specs.Bytes.{before}
use Rattle.format.specs.Reader.{Head, read_text, read_count, read_subtrees, read_object, read_node, read_nodes}
use Rattle.format_laws.proofs.Tests.{false-true}
use Rattle.format_laws.proofs.Readings.{bind_inv}
use Rattle.tree_nodes.specs.declared.node.Node as Code
use Rattle.tree_nodes.specs.Answers.{counted, object_length, node_of, node_at}
use Rattle.format.specs.Places.{body_in, data_in, node_start}
use Rattle.tree_nodes.proofs.Readings.{node-took}
use Rattle.tree_nodes.proofs.Nodes.{node-named, object-valid, node-object}
use Rattle.tree_nodes.specs.declared.passes.NodePlace.{NodePlace}
use Rattle.tree_nodes.specs.Levels.{NodeFound}
use Rattle.tree_nodes.proofs.Flat.{Shown}
use Rattle.cache_tree.proofs.Shape.{tree-item}
use Rattle.entries.specs.Record.{wide_object}
use Rattle.entries.proofs.Fields.{wide-narrow}
use Rattle.resolve_undo.proofs.Laws.{wide-zeros}
use Rattle.spelling.proofs.Tree.{node-read}
use Rattle.answers.specs.declared.Shown.TheVariants as S
use Rattle.answers.specs.Answers.{View, refused, in_file, listed, items_of, part_in, name_in, count_with, count_shown, node_said}
use Rattle.answers.proofs.Laws.{part_in_lem, part-within, item-none}
use Rattle.extensions.specs.declared.Place.{Place}
use Rattle.extensions.specs.Heads.{part}
use Rattle.extensions.specs.Found.{TreeIs, TreeFound}
use Rattle.index.specs.Calls.{NodeShows}
use Rattle.index.proofs.Views.{part-of-body, item-some, pick-none, pick-file}

-- ---- a tree that was found, with more than k nodes

root : F.Tree → F.Item
root t = record { node = t.root; level = 1; subtrees = 0 }

-- where the data are
pub record Within (f : List ℕ) (tree : Place) : Type 0 where
  pub order : tree.at ≤ tree.end
  pub inside : tree.end ≤ length f
  pub long : length (part f tree.at tree.end) ≡ tree.end - tree.at

-- the node that was found in them, and the item that it is
pub record ItemHere (w : ℕ) (k : ℕ) (f : List ℕ) (tree : Place) (node : NodePlace) (i : F.Item) : Type 0 where
  pub within : Within f tree
  pub place : tree.at + node_start w k (data_in tree.at (body_in w f)) ≡ tree.at + node.place
  pub level : i.level ≡ node.level
  pub taken : ℕ
  pub reads : read_node w 0 (drop node.place (part f tree.at tree.end)) ≡ good (record { node = i.node; subtrees = i.subtrees }) taken

module _ (w : ℕ) (k : ℕ) (f : List ℕ) (tree : Place) where
  within-is : (t : F.Tree) → TreeIs w (body_in w f) t tree → Within f tree
  within-is t is =
      let b : length (body_in w f) ≤ length f = simp length-take (omega arith) in
      let order = is.order in
      let inside = is.inside in
      record { order = order; inside = omega arith; long = simp (length-take, length-drop) (omega arith) }

  pub within : (o : Option F.Tree) → TreeFound w (body_in w f) o (Some tree) → Within f tree
  within none is = absurd is
  within (some t) is = within-is t is

  module _ (node : NodePlace) (found : NodeFound w (part f tree.at tree.end) k node) where
    item-here-is : (t : F.Tree) → TreeIs w (body_in w f) t tree → k < length (F.tree_items t) → ItemHere w k f tree node (get_or (F.tree_items t) k (root t))
    item-here-is t is few =
        let d : List ℕ = part f tree.at tree.end in
        let same : part (body_in w f) tree.at tree.end ≡ d = part-of-body w f tree.at tree.end is.order is.inside in
        let reads : read_nodes w 0 d ≡ good t (length d) = rw same at is.reads in
        let shown : Shown w (drop (node_start w k d) d) (get_or (F.tree_items t) k (root t)) = tree-item d t (length d) reads k (root t) few in
        record {
          within = within-is t is;
          place = ap (λ n. tree.at + n) (sym (found.place ∙ ap (node_start w k) (sym same ∙ is.sized)));
          level = sym (found.level t (length d) (root t) reads few);
          taken = shown.taken;
          reads = rw found.place shown.reads;
        }

    -- by what was read of the file
    pub item-here {ℓ} : {X : Type ℓ} (o : Option F.Tree) → TreeFound w (body_in w f) o (Some tree) → k < tree.count
        → ((i : F.Item) → listed (items_of o) k ≡ in_file i → ItemHere w k f tree node i → X) → X
    item-here none is more g = absurd is
    item-here (some t) is more g =
        let few : k < length (F.tree_items t) = omega (arith, is.nodes) in
        g (get_or (F.tree_items t) k (root t)) (pick-file false _ _ refl (item-some (F.tree_items t) k (root t) few)) (item-here-is t is few)

-- where there is no node k
pub no-node-there : (w : ℕ) (k : ℕ) (f : List ℕ) (place : P.Option Place) (o : Option F.Tree) → TreeFound w (body_in w f) o place → IfSome place (λ p. p.count ≤ k) → listed (items_of o) k ≡ refused 18 0
no-node-there w k f place none is few = refl
no-node-there w k f None (some t) is few = absurd is
no-node-there w k f (Some p) (some t) is few = pick-none false _ (item-none (F.tree_items t) k (omega (arith, is.nodes)))

-- ---- what is read there

-- the parts of the node, as the code has them
pub record NodeParts (w : ℕ) (d : List ℕ) (at : ℕ) (i : F.Item) (n : Code.Node) : Type 0 where
  pub named : at ≤ n.nul
  pub inside : n.nul ≤ length d
  pub size : n.nul - at ≡ length i.node.name
  pub name : i.node.name ≡ take (n.nul - at) (drop at d)
  pub count : n.count ≡ count_shown i.node.count
  pub subtrees : n.subtrees ≡ i.subtrees
  pub there : IsSome n.count → n.object + w ≤ length d
  pub object : i.node.object ≡ cond (is_some n.count) (take w (drop n.object d)) (replicate w 0)

count-shown : (c : F.Count) → counted c ≡ count_shown c
count-shown (F.valid n) = refl
count-shown F.invalid = refl

with-count : (c : F.Count) → count_with (count_shown c) ≡ c
with-count (F.valid n) = refl
with-count F.invalid = refl

count-valid : (c : F.Count) → is_some (counted c) ≡ is_valid c
count-valid (F.valid n) = refl
count-valid F.invalid = refl

valid-length : (w : ℕ) (c : F.Count) → is_valid c ≡ true → object_length w c ≡ w
valid-length w (F.valid n) e = refl
valid-length w F.invalid e = false-true e

-- a node with a valid entry count takes the bytes of its object name
node-takes : (w p : ℕ) (s : List ℕ) (h : Head) (m : ℕ) → read_node w p s ≡ good h m → is_valid h.node.count ≡ true → w ≤ m
unfolding read_node
node-takes w p s h m e v =
    bind_inv (read_text 0 15 p s) _ h m e λ name a i q r is.
    bind_inv (read_count p (drop a s)) _ h i r λ count b j q₁ r₁ is₁.
    bind_inv (read_subtrees p (drop b (drop a s))) _ h j r₁ λ k c l q₂ r₂ is₂.
    bind_inv (read_object w p count (drop c (drop b (drop a s)))) _ h l r₂ λ object o z q₃ r₃ is₃.
    let same : record { node = record { name = name; count = count; object = object }; subtrees = k } ≡ h = cc in
    let valid : is_valid count ≡ true = ap (λ (x : Head). is_valid x.node.count) same ∙ v in
    omega (arith, (object-valid w p count _ object o q₃ valid).0)

module _ (w : ℕ) (d : List ℕ) (at : ℕ) (i : F.Item) (taken : ℕ)
    (reads : read_node w 0 (drop at d) ≡ good (record { node = i.node; subtrees = i.subtrees }) taken) where
  pub node-there : None ≡ node_at w at (read_node w 0 (drop at d)) → ⊥
  unfolding node_at
  node-there e = let q = rw reads at e in absurd (cc)

  object-at : (t : Bool) → is_valid i.node.count ≡ t
      → i.node.object ≡ cond t (take w (drop (at + taken - object_length w i.node.count) d)) (replicate w 0)
  object-at true e =
      let long = node-takes w 0 (drop at d) _ taken reads e in
      let o : object_length w i.node.count ≡ w = valid-length w i.node.count e in
      let place : at + (taken - w) ≡ at + taken - object_length w i.node.count = omega arith in
      (node-object w 0 (drop at d) _ taken reads).0 e ∙ rw (drop-drop (taken - w) at d, place)
  object-at false e = (node-object w 0 (drop at d) _ taken reads).1 e

  parts_are : NodeParts w d at i (node_of w at (record { node = i.node; subtrees = i.subtrees }) taken)
  parts_are =
      let took = (node-took w 0 (drop at d)).of _ _ reads in
      let g = node-named w 0 (drop at d) _ taken reads in
      let l = length-drop at d in
      let short : before 0 (drop at d) < length (drop at d) = g.2 in
      let size : length i.node.name ≡ before 0 (drop at d) = ap length g.0 ∙ simp length-take (omega arith) in
      let end : at + length i.node.name - at ≡ before 0 (drop at d) = omega arith in
      record {
        named = omega arith;
        inside = omega arith;
        size = omega arith;
        name = g.0 ∙ rw end;
        count = count-shown i.node.count;
        subtrees = refl;
        there = λ e.
            let v = rw (count-valid i.node.count) at e in
            let long = node-takes w 0 (drop at d) _ taken reads v in
            let o = valid-length w i.node.count v in omega arith;
        object = rw (count-valid i.node.count) (object-at (is_valid i.node.count) refl);
      }

  pub node-parts : (n : Code.Node) → Some n ≡ node_at w at (read_node w 0 (drop at d)) → NodeParts w d at i n
  unfolding node_at
  node-parts n e =
      let q = rw reads at e in
      let is : n ≡ node_of w at (record { node = i.node; subtrees = i.subtrees }) taken = cc in rw is parts_are

-- the places of the node that was found
pub places : (w : ℕ) (k : ℕ) (f : List ℕ) (tree : Place) (node : NodePlace) → NodeFound w (part f tree.at tree.end) k node → (o : Option F.Tree) → TreeFound w (body_in w f) o (Some tree) → k < tree.count
    → (n : Code.Node) → Some n ≡ node_at w node.place (read_node w 0 (drop node.place (part f tree.at tree.end)))
    → (node.place ≤ n.nul) × (IsSome n.count → n.object + w ≤ length (part f tree.at tree.end))
places w k f tree node found o is more n e =
    item-here w k f tree node found o is more λ i v h.
    let p = node-parts w (part f tree.at tree.end) node.place i h.taken h.reads n e in (p.named, p.there)

-- ---- the answer

-- an object name or zeros, in 32 bytes
wide-choice : (w : ℕ) (t : Bool) (o : List ℕ) → w ≤ 32 → cond t (wide_object o) (replicate 32 0) ≡ wide_object (cond t o (replicate w 0))
wide-choice w true o narrow = refl
wide-choice w false o narrow = sym (wide-zeros w narrow)

object-long : (w : ℕ) (c : F.Count) (o a : List ℕ) → ObjectBytes w c o a → length o ≡ w
object-long w (F.valid n) o a h = h.0
object-long w F.invalid o a h = ap length h.0 ∙ length-replicate {A = ℕ} w 0

-- the object name of a node that was read
node-long : (w : ℕ) (p : ℕ) (s : List ℕ) (h : Head) (m : ℕ) → read_node w p s ≡ good h m → length h.node.object ≡ w
node-long w p s h m e = object-long w h.node.count h.node.object _ (node-read w p s h m e).1.object

pub node-shows : (w : ℕ) (k : ℕ) (f : List ℕ) (tree : Place) (node : NodePlace) (at : ℕ) (v : View F.Item) (i : F.Item) → v ≡ in_file i → ItemHere w k f tree node i → w ≤ 32
    → tree.at + node_start w k (data_in tree.at (body_in w f)) ≡ at
    → (n : Code.Node) → NodeParts w (part f tree.at tree.end) node.place i n
    → (object : List ℕ) → object ≡ cond (is_some n.count) (wide_object (take w (drop n.object (part f tree.at tree.end)))) (replicate 32 0)
    → NodeShows w at v f
    (Ok (record {
      shown = S.InFile (tree.at + node.place) (n.nul - node.place);
      level = node.level;
      count = n.count;
      subtrees = n.subtrees;
      object = object;
    }))
unfolding node_said name_in
node-shows w k f tree node at v i is h narrow placed n p object o =
    let d : List ℕ = part f tree.at tree.end in
    let inner = h.within in
    let named = p.named in
    let inside = p.inside in
    let fits : tree.at + node.place + (n.nul - node.place) ≤ length f = omega arith in
    let name : part_in (tree.at + node.place) (n.nul - node.place) f ≡ i.node.name =
    part_in_lem _ _ f fits
    ∙ sym
    (p.name
    ∙ part-within (tree.end - tree.at) node.place (n.nul - node.place) (drop tree.at f) (omega arith)
    ∙ ap (take (n.nul - node.place)) (drop-drop node.place tree.at f)) in
    let own : tree.at + node.place ≡ at = sym h.place ∙ placed in
    let same : object ≡ wide_object i.node.object = o ∙ wide-choice w (is_some n.count) _ narrow ∙ ap wide_object (sym p.object) in
    let narrowed : take w object ≡ i.node.object = ap (take w) same ∙ wide-narrow w i.node.object (node-long w 0 _ _ _ h.reads) in
    record {
      shows = λ work. record {
        whole = rw (is, own, p.size, same, p.count, p.subtrees, ← h.level) refl;
        said = rw (name, narrowed, p.count, with-count i.node.count, p.subtrees, ← h.level, is) refl;
        inside = fits;
      };
      zeros = λ e. o ∙ rw e;
    }
