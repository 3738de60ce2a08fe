-- Laws of the whole test: the walk from the first entry on, the root of the tree, and the parts of ok_tree_counts.
use Rattle.std.proofs.Common.{Option, Some, None, is_some}
use Rattle.tree_check.specs.Nodes.{agrees_with}
use mathlib.Core.Path.{◌≡◌, refl, sym, ap, ◌∙◌}
use mathlib.Core.List.{List, []}
use mathlib.Core.Bool.{Bool, true, false, cond, ◌&&◌, and_assoc, and-false}
use Prim.Native.Nat.{ℕ, ◌+◌, ◌-◌, ◌<◌}
use native.Mathlib.Omega.{arith}
use lib.ListN.{length, drop}
use lib.Dec.{eqb}
use Rattle.format.specs.Bytes.{Bytes}
use Rattle.format.specs.Records.{Entry, start, Count, valid, invalid, Forest, Tree}
use Rattle.format.specs.Layout.{distinct, is_valid, all_valid, ok_tree_counts, names}
use Rattle.format.specs.Reading.{good}
use Rattle.format.specs.Reader.{read_node, read_forest, read_nodes}
use Rattle.format_laws.proofs.Tests.{by-test, eqb_swap}
use Rattle.format_laws.proofs.Readings.{good-inv, need-inv, bind_inv}
use Rattle.format_laws.proofs.Numbers.{bytes_drop}
use Rattle.spelling.proofs.Entries.{entries-read}
use Rattle.tree_nodes.specs.declared.node.Node.{Node}
use Rattle.tree_nodes.specs.Answers.{node_at}
use Rattle.tree_nodes.specs.Flat.{Reads}
use Rattle.entries_run.specs.Steps.{name_at, first_cursor, run_from, EntriesRead, Room}
use Rattle.entries_run.proofs.Steps.{run-first, inside-first}
use Rattle.tree_counts.specs.Counts.{says, valid_below, positive, counts_hold, matched, counts_all, SoundForest}
use Rattle.tree_counts.proofs.Readings.{nodes-plain}
use Rattle.tree_counts.proofs.Counts.{counts-tested}
use Rattle.tree_counts.proofs.Walk.{counts-hold-start, matched-start}
use Rattle.directories.proofs.Prefixes.{entries_sorted}
use Rattle.entries_directory.specs.declared.Front.{Front}
use Rattle.tree_check.specs.Survey.{survey_of}
use Rattle.entries_directory.specs.Ahead.{FrontFits, Ahead, After, after_none, after_some}
use Rattle.tree_check.specs.Steps.{entered, Walked}
use Rattle.tree_check.proofs.Nodes.{node-valid, node-says}
use Rattle.tree_nodes.proofs.Flat.{forest-reads}
use Rattle.tree_nodes.proofs.Trees.{NodeAt, node_at_lem, no-bad}

-- ---- the entries from the first on

-- before the first entry is the empty name
pub ahead-first : (w : ℕ) (v count : ℕ) (b work : List ℕ) (es : List Entry) (m : ℕ) → Bytes b → EntriesRead w v count b es m
    → Ahead w v b work (record { cursor = first_cursor; ahead = count + 1; common = 0 }) [] (names es)
unfolding name_at
ahead-first w v count b work es m bytes q =
    let one : count + 1 - 1 ≡ count = omega arith in
    record {
      some = omega arith;
      name = by-test (eqb v 4) (λ e. rw e) (λ e. rw e);
      entries = es;
      taken = m;
      reads = ap (λ (n : ℕ). run_from w v n b work first_cursor) one ∙ run-first w v count b work ∙ q;
      rest = refl;
      sorted = entries_sorted (entries-read w v count start 12 (drop 12 b) es m (bytes_drop 12 b bytes) q).1;
    }

pub fits-first : (count : ℕ) (b work : List ℕ) → Room b work → count < 4294967296 → FrontFits b (record { cursor = first_cursor; ahead = count + 1; common = 0 })
fits-first count b work room few = record { inside = inside-first b work room; short = omega arith; few = omega arith }

-- the root's count and the walk, where there is no entry and where there are some
module _ (w : ℕ) (d : List ℕ) (root : Node) (expected v : ℕ) (b work : List ℕ) (f : Forest) (front : Front) (r : Bool) where
  pub root_none : (ns : List (List ℕ)) → After w v b work front [] ns → front.ahead ≡ 0 → (agrees : Bool) → agrees ≡ agrees_with root.count (front.ahead - front.ahead)
      → r ≡ (agrees && eqb expected 0)
      → r ≡ (agrees_with root.count (length ns) && (counts_hold (is_some root.count) ns f && eqb (matched ns f) expected))
  root_none _ (after_none z) none agrees agrees-is r-is =
      let gone : front.ahead - front.ahead ≡ 0 = omega arith in
      rw (counts-hold-start (is_some root.count) f, matched-start f) (r-is ∙ rw (agrees-is, gone, eqb_swap expected 0))
  root_none _ (after_some h e) none agrees agrees-is r-is = absurd (omega (arith, h.some))

  pub root-some : (ns : List (List ℕ)) → After w v b work front [] ns → (front.ahead ≡ 0 → ⊥) → (n : ℕ) → SoundForest f → read_forest w 0 127 root.subtrees (drop root.next d) ≡ good f n
      → (work' : List ℕ) → Walked w d (entered root 0 front) expected b v work front work' r
      → r ≡ (agrees_with root.count (length ns) && (counts_hold (is_some root.count) ns f && eqb (matched ns f) expected))
  root-some _ (after_none z) some n sound reads work' walked = absurd (some z)
  root-some _ (after_some {x} {xs} h e) some n sound reads work' walked = walked.is f n sound reads x xs h

-- ---- the parts of the test

counts-says : (c : Count) (ns : List (List ℕ)) (f : Forest) → counts_all c ns f ≡ (says c (length ns) && cond (is_valid c) (all_valid f) true)
counts-says (valid c) ns f = refl
counts-says invalid ns f = refl

-- the root's count, the pass over the nodes, and the walk
counts-parts : (ns : List (List ℕ)) (t : Tree) → SoundForest t.subtrees
    → ok_tree_counts ns t
    ≡ (says t.root.count (length ns)
    && ((cond (is_valid t.root.count) (all_valid t.subtrees) true && valid_below t.subtrees)
    && (counts_hold (is_valid t.root.count) ns t.subtrees && eqb (matched ns t.subtrees) (positive t.subtrees))))
counts-parts ns t h = counts-tested ns t h.plainly h.differ ∙ rw (counts-says t.root.count ns t.subtrees) (simp and_assoc)

-- ---- by what the pass over the nodes says

survey-inconsistent : (v : Bool) (f : Forest) → None ≡ survey_of v f → (cond v (all_valid f) true && valid_below f) ≡ false
unfolding survey_of
survey-inconsistent v f e = go (cond v (all_valid f) true && valid_below f) e
  where
    go : (t : Bool) → None ≡ cond t (Some (positive f)) None → t ≡ false
    go true e = let z : ◌≡◌ {A = ℕ} 0 1 = cc in absurd (omega arith)
    go false e = refl

survey-consistent : (v : Bool) (f : Forest) (nodes : ℕ) → Some nodes ≡ survey_of v f → ((cond v (all_valid f) true && valid_below f) ≡ true) × (positive f ≡ nodes)
unfolding survey_of
survey-consistent v f nodes e = go (cond v (all_valid f) true && valid_below f) e
  where
    go : (t : Bool) → Some nodes ≡ cond t (Some (positive f)) None → (t ≡ true) × (positive f ≡ nodes)
    go true e = (refl, cc)
    go false e = let z : ◌≡◌ {A = ℕ} 0 1 = cc in absurd (omega arith)

-- the root, and the forest below it
record TreeRead (w : ℕ) (d : List ℕ) (t : Tree) : Type 0 where
  subtrees : ℕ
  own : ℕ
  below : ℕ
  node : read_node w 0 (drop 0 d) ≡ good (record { node = t.root; subtrees = subtrees }) own
  kids : read_forest w 0 127 subtrees (drop own d) ≡ good t.subtrees below

tree-read : (w : ℕ) (d : List ℕ) (t : Tree) (n : ℕ) → read_nodes w 0 d ≡ good t n → TreeRead w d t
unfolding read_nodes
tree-read w d t n e =
    bind_inv _ _ _ _ e λ h a i q r is.
    need-inv _ _ _ _ _ _ r λ named r₁.
    bind_inv _ _ _ _ r₁ λ kids b j q₁ r₂ is₁.
    good-inv _ _ _ _ r₂ λ same z.
    rw (← same) (record { subtrees = h.subtrees; own = a; below = b; node = q; kids = q₁ })

module _ (w : ℕ) (d : List ℕ) (t : Tree) (n : ℕ) (q : read_nodes w 0 d ≡ good t n) (differ : distinct t.subtrees ≡ true) (ns : List (List ℕ)) where
  sound-tree : SoundForest t.subtrees
  sound-tree = record { plainly = nodes-plain w 0 d t n q; differ = differ }

  parts : TreeRead w d t
  parts = tree-read w d t n q

  pub answer-none {ℓ} : {X : Type ℓ} → None ≡ node_at w 0 (read_node w 0 (drop 0 d)) → X
  answer-none e = absurd (no-bad w 0 parts.own _ _ parts.node e)

  module _ (root : Node) (is : Some root ≡ node_at w 0 (read_node w 0 (drop 0 d))) where
    root-here : NodeAt root 0 parts.own (record { node = t.root; subtrees = parts.subtrees })
    root-here = node_at_lem w root 0 parts.own _ _ parts.node is

    below_root : read_forest w 0 127 root.subtrees (drop root.next d) ≡ good t.subtrees parts.below
    below_root =
        let next : root.next ≡ parts.own = omega (arith, root-here.next) in
        rw (root-here.subtrees, next) parts.kids

    module _ (found : Option ℕ) (survey : (f : Forest) (m : ℕ) → Reads w (drop root.next d) f root.subtrees m → found ≡ survey_of (is_some root.count) f) where
      survey-here : found ≡ survey_of (is_valid t.root.count) t.subtrees
      survey-here = survey t.subtrees parts.below (forest-reads _ _ _ _ _ below_root) ∙ ap (λ (v : Bool). survey_of v t.subtrees) (node-valid _ _ _ _ root-here)

      pub answer-inconsistent : found ≡ None → false ≡ ok_tree_counts ns t
      answer-inconsistent e =
          sym (counts-parts ns t sound-tree ∙ rw (survey-inconsistent _ _ (sym e ∙ survey-here)) (and-false (says t.root.count (length ns))))

      pub answer-consistent : (nodes : ℕ) → found ≡ Some nodes → (r : Bool)
          → ((f : Forest) (m : ℕ) → SoundForest f → read_forest w 0 127 root.subtrees (drop root.next d) ≡ good f m
          → r ≡ (agrees_with root.count (length ns) && (counts_hold (is_some root.count) ns f && eqb (matched ns f) nodes)))
          → r ≡ ok_tree_counts ns t
      answer-consistent nodes e r walk =
          let (consistent, sum) = survey-consistent _ _ nodes (sym e ∙ survey-here) in
          walk t.subtrees parts.below sound-tree below_root
          ∙ rw (node-says _ _ _ _ root-here (length ns), node-valid _ _ _ _ root-here)
          (sym (counts-parts ns t sound-tree ∙ rw (consistent, sum)))
