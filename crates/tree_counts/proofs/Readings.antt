-- The nodes that are read or spelled have sound names.
use mathlib.Core.Path.{◌≡◌, refl, subst}
use mathlib.Core.List.{List}
use mathlib.Core.Bool.{Bool, true, false}
use Prim.Native.Nat.{ℕ, zero, suc}
use lib.ListN.{drop, length}
use lib.Dec.{eqb}
use Rattle.format.specs.Records.{Node, Forest, tree, Tree}
use Rattle.format.specs.Layout.{ok_node_name}
use Rattle.format.specs.Reading.{Read, bad, good, need, shift, bind}
use Rattle.format.specs.Reader.{read_node, read_siblings, read_forest, read_nodes}
use Rattle.tree_counts.specs.Counts.{plain}

plain-tree : (n : Node) (kids after : Forest) → ok_node_name n.name ≡ true → plain kids ≡ true → plain after ≡ true → plain (tree n kids after) ≡ true
unfolding plain
plain-tree n kids after h k l = rw (h, k, l)

-- what holds of an answer that is no refusal
abbrev Holds : {A : Type 0} → (A → Type 0) → Read A → Type 0
Holds P (bad n p) = Unit {0}
Holds P (good a m) = P a

holds-shift : {A : Type 0} (P : A → Type 0) (k : ℕ) (r : Read A) → Holds P r → Holds P (shift k r)
unfolding shift
holds-shift P k (bad n p) h = tt
holds-shift P k (good a m) h = h

holds-bind : {A B : Type 0} (P : B → Type 0) (r : Read A) (k : A → ℕ → Read B) → ((a : A) (m : ℕ) → r ≡ good a m → Holds P (k a m)) → Holds P (bind r k)
unfolding bind
holds-bind P (bad n p) k h = tt
holds-bind P (good a m) k h = holds-shift P m (k a m) (h a m refl)

holds-need : {A : Type 0} (P : A → Type 0) (b : Bool) (n p : ℕ) (r : Read A) → (b ≡ true → Holds P r) → Holds P (need b n p r)
unfolding need
holds-need P true n p r h = h refl
holds-need P false n p r h = tt

holds_at : {A : Type 0} (P : A → Type 0) (r : Read A) (a : A) (m : ℕ) → Holds P r → r ≡ good a m → P a
holds_at P r a m h e = subst (λ (x : Read _). Holds P x) e h

abbrev Plain : Forest → Type 0
Plain f = plain f ≡ true

siblings-read : (w p : ℕ) (go : ℕ → List ℕ → Read Forest) → ((k : ℕ) (s : List ℕ) → Holds Plain (go k s)) → (k : ℕ) (s : List ℕ)
    → Holds Plain (read_siblings w p go k s)
unfolding read_siblings plain
siblings-read w p go h zero s = refl
siblings-read w p go h (suc k) s =
    holds-bind Plain (read_node w p s) _ λ head m e.
    holds-need Plain (ok_node_name head.node.name) 15 p _ λ ok.
    holds-bind Plain (go head.subtrees (drop m s)) _ λ kids n e₁.
    holds-bind Plain (read_siblings w p go k (drop n (drop m s))) _ λ after o e₂.
    plain-tree head.node kids after ok
    (holds_at Plain (go head.subtrees (drop m s)) kids n (h head.subtrees (drop m s)) e₁)
    (holds_at Plain (read_siblings w p go k (drop n (drop m s))) after o (siblings-read w p go h k (drop n (drop m s))) e₂)

forest-read : (w p levels k : ℕ) (s : List ℕ) → Holds Plain (read_forest w p levels k s)
unfolding read_forest plain
forest-read w p zero zero s = refl
forest-read w p zero (suc k) s = tt
forest-read w p (suc levels) k s = siblings-read w p (read_forest w p levels) (forest-read w p levels) k s

pub nodes-plain : (w p : ℕ) (s : List ℕ) (t : Tree) (m : ℕ) → read_nodes w p s ≡ good t m → plain t.subtrees ≡ true
unfolding read_nodes
nodes-plain w p s t m e =
    let P : Tree → Type 0 = λ u. Plain u.subtrees in
    holds_at P (read_nodes w p s) t m
    (holds-bind P (read_node w p s) _ λ head k e₁.
    holds-need P (eqb (length head.node.name) 0) 15 p _ λ ok.
    holds-bind P (read_forest w p 127 head.subtrees (drop k s)) _ λ kids n e₂.
    holds_at Plain _ kids n (forest-read w p 127 head.subtrees (drop k s)) e₂)
    e
