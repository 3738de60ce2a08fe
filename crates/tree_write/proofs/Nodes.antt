-- What is written of one node, in parts of the bytes that it was read from. w is the width of an object name.
use mathlib.Core.Path.{◌≡◌, refl, sym, ap, subst, ◌∙◌}
use mathlib.Core.List.{List, [], ◌∷◌, ◌++◌, append_assoc}
use mathlib.Core.Bool.{true}
use Prim.Native.Nat.{ℕ, suc, ◌+◌, ◌-◌, ◌≤◌}
use native.Mathlib.Omega.{arith}
use lib.ListN.{length, take, drop, length-append, length-drop, take-append-drop}
use lib.Seq.{drop-drop, drop-append_seam, take_at, length-take-le}
use Rattle.format.specs.Bytes.{before, decimal}
use Rattle.format.specs.Records.{Count, valid, invalid}
use Rattle.format.specs.Layout.{CountText, ObjectBytes}
use Rattle.format.specs.Reading.{Read, bad, good}
use Rattle.format.specs.Reader.{Head, read_node}
use Rattle.format.specs.Writer.{decimal_of, write_count, write_object, write_node}
use Rattle.format.specs.Requests.{invalid_node}
use Rattle.format_laws.proofs.Tests.{false-true}
use Rattle.format_laws.proofs.Texts.{before_at, after_text}
use Rattle.spelling.proofs.Texts.{count-lacks}
use Rattle.spelling.proofs.Tree.{node-read}
use Rattle.writing.proofs.Decimals.{decimal_of-value}
use Rattle.writing.proofs.Copies.{valid-copied}
use Rattle.tree_nodes.specs.declared.node.Node as Code
use Rattle.std.specs.Prelude.{Some, None}
use Rattle.tree_nodes.specs.Answers.{counted, object_length, node_of, node_at}
use Rattle.format_laws.proofs.Lists.{drop-to}
use Rattle.output.specs.Output.{Wrote}
use Rattle.output.proofs.Laws.{wrote_then}
use Rattle.tree_write.specs.Written.{NodeHere, as_is, made_invalid, NodeWritten}

-- ---- one count

by_count {ℓ} : {X : Type ℓ} (c : Count) → ((n : ℕ) → c ≡ valid n → X) → (c ≡ invalid → X) → X
by_count (valid n) f g = f n refl
by_count invalid f g = g refl

no-count : {n : ℕ} → Some n ≡ None → ⊥
no-count e = absurd (cc)

-- a node that is invalid stays as it is
invalid-same : (w : ℕ) (h : Head) → h.node.count ≡ invalid → made_invalid w h ≡ as_is h
unfolding write_node invalid_node write_object
invalid-same w h is = rw is

-- ---- the lengths of a count's text and of an object name

decimal-some : (t : List ℕ) → decimal t ≡ true → 1 ≤ length t
unfolding decimal
decimal-some [] e = false-true e
decimal-some (x ∷ t) e = omega arith

-- of a valid node one byte and an object name, which has one or more, of an invalid one "-", one byte and no more
sizes : (w : ℕ) → 1 ≤ w → (c : Count) (text object tail : List ℕ) → CountText c text → ObjectBytes w c object tail → (length tail ≡ object_length w c) × (2 ≤ length text + length tail)
sizes w wide (valid n) text object tail t o =
    let one : 1 ≤ length text = decimal-some text t.0 in
    let long : length tail ≡ w = ap length o.1 ∙ o.0 in
    (long, omega arith)
sizes w wide invalid text object tail t o =
    let one : 1 ≤ length t.0 = decimal-some t.0 t.2 in
    let minus : length text ≡ suc (length t.0) = ap length t.1 in
    let none : length tail ≡ 0 = ap length o.1 in
    (none, omega arith)

-- ---- a node that was read from s in m bytes

-- its count's text, the bytes from the space up to the LF, its object name
pub record Cut (w : ℕ) (s : List ℕ) (h : Head) (m : ℕ) : Type 0 where
  pub text : List ℕ
  pub middle : List ℕ
  pub tail : List ℕ
  pub front : take (length h.node.name + 1) s ≡ h.node.name ++ (0 ∷ [])
  pub space : before 32 (drop (length h.node.name + 1) s) ≡ length text
  pub between : take (length middle) (drop (length h.node.name + 1 + length text) s) ≡ middle
  pub middle_is : middle ≡ 32 ∷ (decimal_of h.subtrees ++ (10 ∷ []))
  pub size : m ≡ length h.node.name + 1 + (length text + (length middle + length tail))
  pub object : length tail ≡ object_length w h.node.count
  pub two : 2 ≤ length text + length tail
  pub within : m ≤ length s

middle-part : (s name text middle rest : List ℕ) → s ≡ name ++ (0 ∷ (text ++ (middle ++ rest)))
    → (take (length name + 1) s ≡ name ++ (0 ∷ [])) × (drop (length name + 1) s ≡ text ++ (middle ++ rest)) × (take (length middle) (drop (length name + 1 + length text) s) ≡ middle)
middle-part s name text middle rest e =
    let l : length (name ++ (0 ∷ [])) ≡ length name + 1 = length-append name (0 ∷ []) in
    let first : s ≡ (name ++ (0 ∷ [])) ++ (text ++ (middle ++ rest)) = e ∙ sym (append_assoc name (0 ∷ []) (text ++ (middle ++ rest))) in
    let after : drop (length name + 1) s ≡ text ++ (middle ++ rest) = rw e (after_text name 0 (text ++ (middle ++ rest))) in
    let from : drop (length name + 1 + length text) s ≡ middle ++ rest =
    sym (drop-drop (length text) (length name + 1) s) ∙ rw after (drop-append_seam text (middle ++ rest)) in
    (rw first (take_at (name ++ (0 ∷ [])) (text ++ (middle ++ rest)) (length name + 1) l), after, rw from (take_at middle rest (length middle) refl))

pub node-cut : (w : ℕ) → 1 ≤ w → (s : List ℕ) (h : Head) (m : ℕ) → read_node w 0 s ≡ good h m → Cut w s h m
node-cut w wide s h m q =
    let (within, is) = node-read w 0 s h m q in
    let name : List ℕ = h.node.name in
    let text : List ℕ = is.count_text in
    let tail : List ℕ = is.tail in
    let middle : List ℕ = 32 ∷ (is.subtrees_text ++ (10 ∷ [])) in
    let bytes : take m s ≡ name ++ (0 ∷ (text ++ (middle ++ tail))) = is.bytes ∙ simp append_assoc in
    let whole : s ≡ name ++ (0 ∷ (text ++ (middle ++ (tail ++ drop m s)))) =
    sym (take-append-drop m s) ∙ ap (λ (x : List ℕ). x ++ drop m s) bytes ∙ simp append_assoc in
    let part = middle-part s name text middle (tail ++ drop m s) whole in
    let size = sizes w wide h.node.count text h.node.object tail is.counted is.object in
    let decimals : is.subtrees_text ≡ decimal_of h.subtrees = sym (ap decimal_of (sym is.subtrees_value) ∙ decimal_of-value is.subtrees_text is.subtrees_decimal) in
    let lengths : length (take m s) ≡ length name + suc (length text + (length middle + length tail)) = ap length bytes ∙ simp length-append in
    record {
      text = text;
      middle = middle;
      tail = tail;
      front = part.0;
      space = rw part.1 (before_at 32 text _ (count-lacks 32 h.node.count text (omega arith) is.counted));
      between = part.2;
      middle_is = ap (λ (x : List ℕ). 32 ∷ (x ++ (10 ∷ []))) decimals;
      size = omega (arith, length-take-le m s within);
      object = size.0;
      two = size.1;
      within = within;
    }

-- ---- a node at a place of the data

pub record NodeCut (w : ℕ) (d : List ℕ) (place : ℕ) (node : Code.Node) : Type 0 where
  pub head : Head
  pub took : ℕ
  pub reads : read_node w 0 (drop place d) ≡ good head took
  pub cut : Cut w (drop place d) head took
  pub count : node.count ≡ counted head.node.count
  pub nul : node.nul ≡ place + length head.node.name
  pub object : node.object + length cut.tail ≡ place + took
  pub next : node.next ≡ place + took
  pub within : place + took ≤ length d

module _ (w : ℕ) (wide : 1 ≤ w) (d : List ℕ) (place : ℕ) (inside : place ≤ length d) (node : Code.Node) where
  node-cut-by : (r : Read Head) → read_node w 0 (drop place d) ≡ r → Some node ≡ node_at w place r → NodeCut w d place node
  unfolding node_at
  node-cut-by (bad n p) q e = absurd (cc)
  node-cut-by (good h m) q e =
      let is : node ≡ node_of w place h m = cc in
      let cut : Cut w (drop place d) h m = node-cut w wide (drop place d) h m q in
      let object : node.object ≡ place + m - object_length w h.node.count = ap (λ (n : Code.Node). n.object) is in
      let l : length (drop place d) ≡ length d - place = length-drop place d in
      let tail = cut.object in
      let size = cut.size in
      let within = cut.within in
      record {
        head = h;
        took = m;
        reads = q;
        cut = cut;
        count = ap (λ (n : Code.Node). n.count) is;
        nul = ap (λ (n : Code.Node). n.nul) is;
        object = omega arith;
        next = ap (λ (n : Code.Node). n.next) is;
        within = omega arith;
      }

  pub cut-here : NodeHere w d place node → NodeCut w d place node
  cut-here here = node-cut-by (read_node w 0 (drop place d)) refl here.read

pub head-is : {a b : Head} {m n : ℕ} → good a m ≡ good b n → a ≡ b
head-is e = cc

-- the head that a reading at the place gives
pub cut-head : {w : ℕ} (d : List ℕ) (place : ℕ) (node : Code.Node) (x : NodeCut w d place node) (h : Head) (m : ℕ) → read_node w 0 (drop place d) ≡ good h m → x.head ≡ h
cut-head d place node x h m q = head-is (sym x.reads ∙ q)

module _ {w : ℕ} (d : List ℕ) (place : ℕ) (node : Code.Node) (x : NodeCut w d place node) where
  -- what was written of the node that is there
  told : (text : Head → List ℕ) (out out' : List ℕ) (at r : ℕ) → Wrote out at (text x.head) out' r → length (text x.head) ≤ x.took → NodeWritten w text d place node out at out' r
  told text out out' at r wrote few =
      let e = wrote.end in
      let next = x.next in
      record {
        wrote = λ h m q. subst (λ (i : Head). Wrote out at (text i) out' r) (cut-head d place node x h m q) wrote;
        short = omega arith;
      }

  pub nul-in : (place ≤ node.nul) × (node.nul + 1 ≤ length d)
  nul-in =
      let nul = x.nul in
      let size = x.cut.size in
      let within = x.within in
      (omega arith, omega arith)

  -- ---- made invalid

  module _ (space : ℕ) (is : space ≡ node.nul + 1 + before 32 (drop (node.nul + 1) d)) where
    space-at : space ≡ place + (length x.head.node.name + 1 + length x.cut.text)
    space-at =
        let nul = x.nul in
        let from : drop (length x.head.node.name + 1) (drop place d) ≡ drop (node.nul + 1) d = drop-to d place (length x.head.node.name + 1) (node.nul + 1) (omega arith) in
        let text : before 32 (drop (node.nul + 1) d) ≡ length x.cut.text = ap (before 32) (sym from) ∙ x.cut.space in
        omega arith

    pub space-in : (space ≤ node.object) × (node.object ≤ length d)
    space-in =
        let e = space-at in
        let size = x.cut.size in
        let object = x.object in
        let within = x.within in
        (omega arith, omega arith)

    invalid-parts : made_invalid w x.head
        ≡ take (node.nul + 1 - place) (drop place d) ++ ((45 ∷ []) ++ ((49 ∷ []) ++ take (node.object - space) (drop space d)))
    unfolding write_node invalid_node write_count write_object
    invalid-parts =
        let e = space-at in
        let nul = x.nul in
        let size = x.cut.size in
        let object = x.object in
        let front : node.nul + 1 - place ≡ length x.head.node.name + 1 = omega arith in
        let back : node.object - space ≡ length x.cut.middle = omega arith in
        let from : drop space d ≡ drop (length x.head.node.name + 1 + length x.cut.text) (drop place d) =
        sym (drop-to d place (length x.head.node.name + 1 + length x.cut.text) space space-at) in
        rw (front, x.cut.front, back, from, x.cut.between, x.cut.middle_is) (sym (append_assoc x.head.node.name (0 ∷ []) _))

    invalid-short : length (made_invalid w x.head) ≤ x.took
    unfolding write_node invalid_node write_count write_object
    invalid-short =
        let middle = ap length x.cut.middle_is in
        let size = x.cut.size in
        let two = x.cut.two in
        simp length-append (omega (arith, simp length-append at middle))

    pub invalid-written : (out out₁ out₂ out₃ out' : List ℕ) (at p₁ p₂ p₃ r : ℕ) → Wrote out at (take (node.nul + 1 - place) (drop place d)) out₁ p₁
        → Wrote out₁ p₁ (45 ∷ []) out₂ p₂ → Wrote out₂ p₂ (49 ∷ []) out₃ p₃ → Wrote out₃ p₃ (take (node.object - space) (drop space d)) out' r
        → NodeWritten w (made_invalid w) d place node out at out' r
    invalid-written out out₁ out₂ out₃ out' at p₁ p₂ p₃ r a b c e =
        let whole = wrote_then _ _ _ _ _ _ _ _ a (wrote_then _ _ _ _ _ _ _ _ b (wrote_then _ _ _ _ _ _ _ _ c e)) in
        told (made_invalid w) out out' at r (rw invalid-parts whole) invalid-short

  -- ---- as it is

  module _ (out out' : List ℕ) (at r : ℕ) where
    pub valid-written : (k : ℕ) → node.count ≡ Some k → Wrote out at (take (node.next - place) (drop place d)) out' r
        → NodeWritten w as_is d place node out at out' r
    valid-written k v wrote =
        let e = x.next in
        let took : node.next - place ≡ x.took = omega arith in
        let h = x.head in
        by_count h.node.count
        (λ n is.
        let copy : as_is h ≡ take x.took (drop place d) = valid-copied w 0 (drop place d) h x.took n x.reads is in
        let few : length (as_is h) ≤ x.took = omega (arith, ap length copy, length-take-le x.took (drop place d) x.cut.within) in
        told as_is out out' at r (rw copy (rw took at wrote)) few)
        (λ is. absurd (no-count (sym v ∙ x.count ∙ ap counted is)))

    pub invalid-kept : node.count ≡ None → NodeWritten w (made_invalid w) d place node out at out' r
        → NodeWritten w as_is d place node out at out' r
    invalid-kept v written =
        let count : x.head.node.count ≡ invalid = by_count x.head.node.count (λ n is. absurd (no-count (sym (ap counted is) ∙ sym x.count ∙ v))) (λ is. is) in
        record {
          wrote = λ h m q.
              let is : h.node.count ≡ invalid = ap (λ (i : Head). i.node.count) (sym (cut-head d place node x h m q)) ∙ count in
              rw (invalid-same w h is) at (written.wrote h m q);
          short = written.short;
        }
