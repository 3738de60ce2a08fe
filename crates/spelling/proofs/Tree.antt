-- A cache tree that is spelled is read, and what is read was spelled.
use mathlib.Core.Path.{◌≡◌, refl, ap}
use mathlib.Core.List.{List, [], ◌∷◌, ◌++◌, append_assoc, append-nil}
use mathlib.Core.Bool.{true}
use Prim.Native.Nat.{ℕ, zero, suc, ◌+◌, ◌≤◌}
use native.Mathlib.Omega.{arith}
use lib.ListN.{length, take, drop, length-append}
use lib.Seq.{drop-append_seam, length-take-le, take-add, take_at, take-length}
use lib.Dec.{eqb, leb}
use borrow.Author.Tests.{leb-true, le-leb, eqb-true, eq-eqb}
use Rattle.format.specs.Bytes.{decimal, value}
use Rattle.format.specs.Records.{Count, valid, invalid, Node, Forest, Tree, width}
use Rattle.format.specs.Layout.{CountText, ObjectBytes, IsNode, Siblings, siblings_end, siblings_more, distinct, IsTree, ok_tree_counts}
use Rattle.format.specs.Reading.{Read, good, need, shift, bind}
use Rattle.format.specs.Reader.{count_in, read_count, read_subtrees, read_object, Head, read_node, read_siblings, read_forest, read_nodes, read_tree}
use Rattle.format_laws.proofs.Tests.{and-inv}
use Rattle.format_laws.proofs.Texts.{after_text}
use Rattle.format_laws.proofs.Readings.{bad-good, good-inv, need-inv, bind_inv, same_size}
use Rattle.spelling.proofs.Texts.{read-text, text-read, read-decoded, decoded-read, parts-fit, text-then, decimal-lacks, count-lacks, read-count-text, count-text-read}

-- ---- one node

read_count_lem : (p : ℕ) (c : Count) (t rest : List ℕ) → CountText c t → read_count p (t ++ (32 ∷ rest)) ≡ good c (length t + 1)
unfolding read_count
read_count_lem p c t rest h = read-decoded count_in 32 15 p t rest c (count-lacks 32 c t (omega arith) h) (read-count-text c t h)

count-read : (p : ℕ) (s : List ℕ) (c : Count) (m : ℕ) → read_count p s ≡ good c m
    → (m ≤ length s) × (t : List ℕ) × (take m s ≡ t ++ (32 ∷ [])) × CountText c t
unfolding read_count
count-read p s c m q = let h = decoded-read count_in 32 15 p s c m q in (h.0, h.1, h.2, count-text-read h.1 c h.3)

read-subtrees : (p : ℕ) (t rest : List ℕ) → decimal t ≡ true → value t ≤ 2147483647 → read_subtrees p (t ++ (10 ∷ rest)) ≡ good (value t) (length t + 1)
unfolding read_subtrees bind shift need
read-subtrees p t rest d h =
    simp (read-text 10 15 p t rest (decimal-lacks 10 t (omega arith) d), d, le-leb (value t) 2147483647 h) (same_size (omega arith))

subtrees-read : (p : ℕ) (s : List ℕ) (k m : ℕ) → read_subtrees p s ≡ good k m
    → (m ≤ length s) × (t : List ℕ) × (take m s ≡ t ++ (10 ∷ [])) × (decimal t ≡ true) × (value t ≡ k) × (k ≤ 2147483647)
unfolding read_subtrees
subtrees-read p s k m q =
    bind_inv _ _ _ _ q λ t i j text q₁ size.
    need-inv _ _ _ _ _ _ q₁ λ test q₂.
    good-inv _ _ _ _ q₂ λ is done.
    let b = and-inv (decimal t) _ test in
    let h = text-read 10 15 p s t i text in
    let m-is : m ≡ i = omega arith in
    rw (m-is, ← is) (h.0, t, h.1, b.0, refl, leb-true _ _ b.1)

read-object : (w p : ℕ) (c : Count) (object a rest : List ℕ) → ObjectBytes w c object a → read_object w p c (a ++ rest) ≡ good object (length a)
unfolding read_object need
read-object w p (valid n) object a rest h =
    let l = length-append object rest in
    let lo : length object ≡ w = h.0 in
    let fits : leb w (length (object ++ rest)) ≡ true = le-leb w (length (object ++ rest)) (omega arith) in
    rw h.1 (simp (fits, take_at object rest w lo, lo))
read-object w p invalid object a rest h = rw (h.0, h.1) refl

object-read : (w p : ℕ) (c : Count) (s object : List ℕ) (m : ℕ) → read_object w p c s ≡ good object m → (m ≤ length s) × ObjectBytes w c object (take m s)
unfolding read_object
object-read w p (valid n) s object m q =
    need-inv _ _ _ _ _ _ q λ test q₁.
    good-inv _ _ _ _ q₁ λ is size.
    let l : w ≤ length s = leb-true _ _ test in
    rw (← is, ← size) (l, (length-take-le w s l, refl))
object-read w p invalid s object m q =
    good-inv _ _ _ _ q λ is size.
    rw (← is, ← size) (omega arith, (refl, refl))

pub read-node : (w p : ℕ) {n : Node} {k : ℕ} {a : List ℕ} (rest : List ℕ) → IsNode w n k a
    → read_node w p (a ++ rest) ≡ good (record { node = n; subtrees = k }) (length a)
unfolding read_node bind shift
read-node w p {n} {k} {a} rest h =
    let s₃ : List ℕ = h.tail ++ rest in
    let s₂ : List ℕ = h.subtrees_text ++ (10 ∷ s₃) in
    let s₁ : List ℕ = h.count_text ++ (32 ∷ s₂) in
    let fits : value h.subtrees_text ≤ 2147483647 = rw h.subtrees_value h.subtrees_fit in
    rw h.bytes
    (simp (
      append_assoc,
      read-text 0 15 p n.name s₁ h.named,
      after_text,
      read_count_lem p n.count h.count_text s₂ h.counted,
      read-subtrees p h.subtrees_text s₃ h.subtrees_decimal fits,
      read-object w p n.count n.object h.tail rest h.object,
      h.subtrees_value,
      length-append,
    )
    (same_size (omega arith)))

pub node-read : (w p : ℕ) (s : List ℕ) (h : Head) (m : ℕ) → read_node w p s ≡ good h m → (m ≤ length s) × IsNode w h.node h.subtrees (take m s)
unfolding read_node
node-read w p s h m q =
    bind_inv _ _ _ _ q λ name i₀ j₀ nameq q₁ size₀.
    bind_inv _ _ _ _ q₁ λ count i₁ j₁ countq q₂ size₁.
    bind_inv _ _ _ _ q₂ λ subtrees i₂ j₂ subtreesq q₃ size₂.
    bind_inv _ _ _ _ q₃ λ object i₃ j₃ objectq q₄ size₃.
    good-inv _ _ _ _ q₄ λ is done.
    let s₁ : List ℕ = drop i₀ s in
    let s₂ : List ℕ = drop i₁ s₁ in
    let s₃ : List ℕ = drop i₂ s₂ in
    let t = text-read 0 15 p s name i₀ nameq in
    let c = count-read p s₁ count i₁ countq in
    let k = subtrees-read p s₂ subtrees i₂ subtreesq in
    let o = object-read w p count s₃ object i₃ objectq in
    let m-is : m ≡ i₀ + (i₁ + (i₂ + i₃)) = omega arith in
    rw (m-is, ← is) (
      parts-fit i₀ _ s t.0 (parts-fit i₁ _ s₁ c.0 (parts-fit i₂ i₃ s₂ k.0 o.0)),
      record {
        named = t.2;
        count_text = c.1;
        counted = c.3;
        subtrees_text = k.1;
        subtrees_decimal = k.3;
        subtrees_value = k.4;
        subtrees_fit = k.5;
        tail = take i₃ s₃;
        object = o.1;
        bytes = text-then i₀ _ s name _ 0 t.1 (text-then i₁ _ s₁ c.1 _ 32 c.2 (text-then i₂ i₃ s₂ k.1 _ 10 k.2 refl));
      },
    )

-- ---- siblings

pub read-siblings : (w p : ℕ) {levels : ℕ} {f : Forest} {a : List ℕ} (rest : List ℕ) → Siblings w levels f a
    → read_forest w p levels (width f) (a ++ rest) ≡ good f (length a)
unfolding read_forest read_siblings width bind shift need
read-siblings w p rest (siblings_end {levels = zero}) = refl
read-siblings w p rest (siblings_end {levels = suc levels}) = refl
read-siblings w p rest (siblings_more {a = a} {b = b} {c = c} named x y z) =
    simp (
      append_assoc,
      drop-append_seam,
      read-node w p (b ++ (c ++ rest)) x,
      named,
      read-siblings w p (c ++ rest) y,
      read-siblings w p rest z,
      length-append,
    )
    (same_size (omega arith))

-- where go reads the subtrees
siblings-read-by : (w p levels : ℕ) (go : ℕ → List ℕ → Read Forest)
    → ((k : ℕ) (s : List ℕ) (f : Forest) (m : ℕ) → go k s ≡ good f m → (m ≤ length s) × (width f ≡ k) × Siblings w levels f (take m s))
    → (k : ℕ) (s : List ℕ) (f : Forest) (m : ℕ) → read_siblings w p go k s ≡ good f m
    → (m ≤ length s) × (width f ≡ k) × Siblings w (suc levels) f (take m s)
unfolding read_siblings width
siblings-read-by w p levels go go-read zero s f m q =
    good-inv _ _ _ _ q λ is size. rw (← is, ← size) (omega arith, refl, siblings_end)
siblings-read-by w p levels go go-read (suc k) s f m q =
    bind_inv _ _ _ _ q λ h i₀ j₀ headq q₁ size₀.
    need-inv _ _ _ _ _ _ q₁ λ named q₂.
    bind_inv _ _ _ _ q₂ λ kids i₁ j₁ kidsq q₃ size₁.
    bind_inv _ _ _ _ q₃ λ after i₂ j₂ afterq q₄ size₂.
    good-inv _ _ _ _ q₄ λ is done.
    let s₁ : List ℕ = drop i₀ s in
    let s₂ : List ℕ = drop i₁ s₁ in
    let x = node-read w p s h i₀ headq in
    let y = go-read h.subtrees s₁ kids i₁ kidsq in
    let z = siblings-read-by w p levels go go-read k s₂ after i₂ afterq in
    let node : IsNode w h.node (width kids) (take i₀ s) = rw y.1 x.1 in
    let m-is : m ≡ i₀ + (i₁ + i₂) = omega arith in
    rw (m-is, ← is) (
      parts-fit i₀ _ s x.0 (parts-fit i₁ i₂ s₁ y.0 z.0),
      ap suc z.1,
      rw (take-add i₀ (i₁ + i₂) s, take-add i₁ i₂ s₁) (siblings_more named node y.2 z.2),
    )

pub siblings-read : (w p levels k : ℕ) (s : List ℕ) (f : Forest) (m : ℕ) → read_forest w p levels k s ≡ good f m
    → (m ≤ length s) × (width f ≡ k) × Siblings w levels f (take m s)
unfolding read_forest width
siblings-read w p zero zero s f m q = good-inv _ _ _ _ q λ is size. rw (← is, ← size) (omega arith, refl, siblings_end)
siblings-read w p zero (suc k) s f m q = bad-good _ _ _ _ q
siblings-read w p (suc levels) k s f m q =
    siblings-read-by w p levels (read_forest w p levels) (λ k₁ s₁ f₁ m₁ q₁. siblings-read w p levels k₁ s₁ f₁ m₁ q₁) k s f m q

-- ---- the whole data

read-nodes : (w p : ℕ) {t : Tree} {a : List ℕ} (rest : List ℕ) → IsTree w t a → read_nodes w p (a ++ rest) ≡ good t (length a)
unfolding read_nodes bind shift need
read-nodes w p {t} {a} rest h =
    let unnamed : eqb (length t.root.name) 0 ≡ true = eq-eqb (length t.root.name) 0 (ap (λ (s : List ℕ). length s) h.root_name) in
    rw h.bytes
    (simp (
      append_assoc,
      drop-append_seam,
      read-node w p (h.rest_bytes ++ rest) h.root_node,
      unnamed,
      read-siblings w p rest h.rest,
      length-append,
    )
    (same_size (omega arith)))

pub read-tree : (w : ℕ) (ns : List (List ℕ)) (p : ℕ) {t : Tree} {a : List ℕ} → IsTree w t a → ok_tree_counts ns t ≡ true
    → read_tree w ns p a ≡ good t (length a)
unfolding read_tree bind shift need
read-tree w ns p {t} {a} h counts =
    let nodes : read_nodes w p a ≡ good t (length a) = rw append-nil at (read-nodes w p [] h) in
    simp (nodes, eq-eqb (length a) (length a) refl, h.differ, counts) (same_size (omega arith))

-- the nodes, given that no two siblings have one name
nodes-read : (w p : ℕ) (s : List ℕ) (t : Tree) (m : ℕ) → read_nodes w p s ≡ good t m → distinct t.subtrees ≡ true
    → (m ≤ length s) × IsTree w t (take m s)
unfolding read_nodes
nodes-read w p s t m q differ =
    bind_inv _ _ _ _ q λ h i₀ j₀ rootq q₁ size₀.
    need-inv _ _ _ _ _ _ q₁ λ unnamed q₂.
    bind_inv _ _ _ _ q₂ λ kids i₁ j₁ kidsq q₃ size₁.
    good-inv _ _ _ _ q₃ λ is done.
    let x = node-read w p s h i₀ rootq in
    let y = siblings-read w p 127 h.subtrees (drop i₀ s) kids i₁ kidsq in
    let node : IsNode w h.node (width kids) (take i₀ s) = rw y.1 x.1 in
    let m-is : m ≡ i₀ + i₁ = omega arith in
    let differ₁ : distinct kids ≡ true = rw (← is) at differ in
    rw (m-is, ← is) (
      parts-fit i₀ i₁ s x.0 y.0,
      record {
        root_bytes = take i₀ s;
        rest_bytes = take i₁ (drop i₀ s);
        root_name = empty h.node.name (eqb-true _ _ unnamed);
        root_node = node;
        rest = y.2;
        differ = differ₁;
        bytes = take-add i₀ i₁ s;
      },
    )
  where
    empty : (s : List ℕ) → length s ≡ 0 → s ≡ []
    empty [] e = refl
    empty (x ∷ s) e = absurd (omega arith)

pub tree-read : (w : ℕ) (ns : List (List ℕ)) (p : ℕ) (s : List ℕ) (t : Tree) (m : ℕ) → read_tree w ns p s ≡ good t m
    → (m ≡ length s) × IsTree w t s × (ok_tree_counts ns t ≡ true)
unfolding read_tree
tree-read w ns p s t m q =
    bind_inv _ _ _ _ q λ t₁ i j nodesq q₁ size.
    need-inv _ _ _ _ _ _ q₁ λ all q₂.
    need-inv _ _ _ _ _ _ q₂ λ differ q₃.
    need-inv _ _ _ _ _ _ q₃ λ counts q₄.
    good-inv _ _ _ _ q₄ λ is done.
    let whole : i ≡ length s = eqb-true _ _ all in
    let h = nodes-read w p s t₁ i nodesq differ in
    let taken : take i s ≡ s = rw whole (take-length s) in
    rw (← is) (omega arith, rw taken at h.1, counts)
