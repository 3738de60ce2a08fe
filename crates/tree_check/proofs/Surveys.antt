-- Laws of a pass over the nodes of a tree. The trees that are still to pass are one list of siblings, of which the first ones have to be valid.
use Rattle.std.proofs.Common.{Option, Some, None, is_some}
use Rattle.tree_check.specs.Nodes.{weight_of}
use mathlib.Core.Path.{◌≡◌, refl, sym, ap, ◌∙◌}
use mathlib.Core.List.{List}
use mathlib.Core.Bool.{Bool, true, false, cond, not, ◌&&◌, and_assoc, and_comm, and-true}
use Prim.Native.Nat.{ℕ, zero, suc, ◌+◌, ◌-◌, ◌≤◌, ◌<◌}
use native.Mathlib.Nat.{zero-add, suc-add, add-zero}
use native.Mathlib.Omega.{arith}
use lib.ListN.{drop}
use lib.Dec.{ltb}
use borrow.Author.Tests.{ltb-true, ltb-false, not-true}
use Rattle.format.specs.Records.{Node, Forest, nil, tree, width}
use Rattle.format.specs.Layout.{is_valid, all_valid}
use Rattle.format.specs.Reader.{read_node}
use Rattle.format_laws.proofs.Tests.{by-test, and-inv}
use Rattle.format_laws.proofs.Lists.{drop-to}
use Rattle.tree_counts.specs.Counts.{weight, valid_below, positive}
use Rattle.tree_counts.proofs.Counts.{valid-step}
use Rattle.tree_nodes.specs.declared.node.Node as Code
use Rattle.tree_nodes.specs.Answers.{node_at}
use Rattle.tree_nodes.specs.Flat.{Reads}
use Rattle.tree_nodes.proofs.Flat.{reads-width}
use Rattle.tree_check.specs.Survey.{survey_of}
use Rattle.tree_check.proofs.Nodes.{node-valid, node-weighs}
use Rattle.tree_nodes.proofs.Trees.{First, reads_first, reads-empty}
use Rattle.tree_nodes.proofs.Trees.{chain, reads-chain, reads_at, NodeAt, node_at_lem, no-bad}

-- ---- two lists of siblings

valid-below-chain : (f g : Forest) → valid_below (chain f g) ≡ (valid_below f && valid_below g)
unfolding chain valid_below
valid-below-chain nil g = refl
valid-below-chain (tree n kids after) g = rw (valid-below-chain after g) (simp and_assoc)

positive-chain : (f g : Forest) → positive (chain f g) ≡ positive f + positive g
unfolding chain positive
positive-chain nil g = sym (zero-add (positive g))
positive-chain (tree n kids after) g = omega (arith, positive-chain after g)

-- whether the first k siblings are valid
unfoldable pub firsts : ℕ → Forest → Bool
firsts zero f = true
firsts (suc k) nil = true
firsts (suc k) (tree n kids after) = is_valid n.count && firsts k after

valid-nil : all_valid nil ≡ true
unfolding all_valid
valid-nil = refl

firsts-chain : (f g : Forest) (k : ℕ) → firsts (width f + k) (chain f g) ≡ (all_valid f && firsts k g)
unfolding chain firsts width
firsts-chain nil g k = rw (zero-add k, valid-nil)
firsts-chain (tree n kids after) g k =
    rw (suc-add (width after) k, firsts-chain after g k, valid-step n kids after)
    (sym (and_assoc (is_valid n.count) (all_valid after) (firsts k g)))

firsts-all : (f : Forest) → firsts (width f) f ≡ all_valid f
unfolding firsts width
firsts-all nil = sym valid-nil
firsts-all (tree n kids after) = rw (firsts-all after) (sym (valid-step n kids after))

-- ---- one node

-- the test of the trees that are still to pass, and what they say after nodes nodes with a count of at least 1
abbrev pub passes : ℕ → Forest → Bool
passes k f = firsts k f && valid_below f

unfoldable pub survey_from : ℕ → ℕ → Forest → Option ℕ
survey_from k nodes f = cond (passes k f) (Some (nodes + positive f)) None

module _ (n : Node) (kids after : Forest) where
  chain-passes : (k : ℕ) → passes (width kids + k) (chain kids after) ≡ ((all_valid kids && firsts k after) && (valid_below kids && valid_below after))
  chain-passes k = rw (firsts-chain kids after k, valid-below-chain kids after)

  tree-passes : (k : ℕ) → is_valid n.count ≡ true → passes k (tree n kids after) ≡ ((all_valid kids && firsts (k - 1) after) && (valid_below kids && valid_below after))
  unfolding firsts valid_below
  tree-passes zero v = rw (v, and-true (all_valid kids))
  tree-passes (suc k) v =
      let e : suc k - 1 ≡ k = omega arith in
      rw (v, e) (sym (and_assoc (firsts k after) (all_valid kids) (valid_below kids && valid_below after)) ∙ ap (λ (b : Bool). b && (valid_below kids && valid_below after)) (and_comm (firsts k after) (all_valid kids)))

  passes-valid : (k : ℕ) → is_valid n.count ≡ true → passes k (tree n kids after) ≡ passes (k - 1 + width kids) (chain kids after)
  passes-valid k v =
      let e : width kids + (k - 1) ≡ k - 1 + width kids = omega arith in
      tree-passes k v ∙ sym (chain-passes (k - 1)) ∙ ap (λ (i : ℕ). passes i (chain kids after)) e

  passes-invalid : is_valid n.count ≡ false → passes 0 (tree n kids after) ≡ passes 0 (chain kids after)
  unfolding firsts valid_below
  passes-invalid v = rw (v, valid-below-chain kids after)

  passes-wrong : (k : ℕ) → is_valid n.count ≡ false → 0 < k → passes k (tree n kids after) ≡ false
  unfolding firsts
  passes-wrong zero v l = absurd (omega arith)
  passes-wrong (suc k) v l = rw v

  nodes-more : (nodes : ℕ) → nodes + positive (tree n kids after) ≡ nodes + weight n.count + positive (chain kids after)
  unfolding positive
  nodes-more nodes = omega (arith, positive-chain kids after)

  -- a node that is invalid where it has to be valid, and any other
  pub survey-wrong : (k nodes : ℕ) → (ltb 0 k && not (is_valid n.count)) ≡ true → survey_from k nodes (tree n kids after) ≡ None
  unfolding survey_from
  survey-wrong k nodes e =
      let i = and-inv (ltb 0 k) (not (is_valid n.count)) e in
      rw (passes-wrong k (not-true (is_valid n.count) i.1) (ltb-true 0 k i.0))

  pub survey-more : (k nodes : ℕ) → (ltb 0 k && not (is_valid n.count)) ≡ false
      → survey_from k nodes (tree n kids after) ≡ survey_from (cond (is_valid n.count) (k - 1 + width kids) 0) (nodes + weight n.count) (chain kids after)
  unfolding survey_from
  survey-more k nodes e =
      by-test (is_valid n.count)
      (λ v. rw (v, passes-valid k v, nodes-more nodes))
      (λ v.
      let z : k ≡ 0 = omega (arith, ltb-false 0 k (sym (and-true (ltb 0 k)) ∙ (rw v at e))) in
      rw (v, z, passes-invalid v, nodes-more nodes))

-- ---- a pass over the nodes that has come to a place

pub record Surveying (w : ℕ) (d : List ℕ) (v : Bool) (f : Forest) (place pending strict nodes : ℕ) : Type 0 where
  pub left : Forest
  pub taken : ℕ
  pub reads : Reads w (drop place d) left pending taken
  pub same : survey_of v f ≡ survey_from strict nodes left

survey-begins : (v : Bool) (f : Forest) (strict k : ℕ) → strict ≡ cond v (0 - 1 + k) 0 → width f ≡ k → survey_of v f ≡ survey_from strict 0 f
unfolding survey_of survey_from firsts
survey-begins true f strict k e wide = let z : strict ≡ width f = omega arith in rw (z, firsts-all f, zero-add (positive f))
survey-begins false f strict k e wide = rw (e, zero-add (positive f))

survey-nil : (strict nodes : ℕ) → survey_from strict nodes nil ≡ Some nodes
unfolding survey_from firsts valid_below positive
survey-nil zero nodes = rw (add-zero nodes)
survey-nil (suc strict) nodes = rw (add-zero nodes)

survey-same : (a b m n : ℕ) (f : Forest) → a ≡ b → m ≡ n → survey_from a m f ≡ survey_from b n f
survey-same a b m n f e i = rw (e, i)

demand-same : (a b : Bool) (k x y : ℕ) → a ≡ b → x ≡ y → cond a (k + x) 0 ≡ cond b (k + y) 0
demand-same a b k x y e i = rw (e, i)

module _ (w : ℕ) (d : List ℕ) (v : Bool) (f : Forest) where
  pub survey-start : (at k m strict : ℕ) → strict ≡ cond v (0 - 1 + k) 0 → Reads w (drop at d) f k m → Surveying w d v f at k strict 0
  survey-start at k m strict e r = record { left = f; taken = m; reads = r; same = survey-begins v f strict k e (reads-width _ _ _ _ r) }

  module _ (place pending strict nodes : ℕ) (x : Surveying w d v f place pending strict nodes) where
    pub survey-end : pending ≤ 0 → Some nodes ≡ survey_of v f
    survey-end l = sym (x.same ∙ ap (survey_from strict nodes) (reads-empty _ _ _ _ x.reads l) ∙ survey-nil strict nodes)

    module _ (some : 0 < pending) where
      first_of : First w (drop place d) x.left pending
      first_of = reads_first _ _ _ _ x.reads some

      here : survey_of v f ≡ survey_from strict nodes (tree first_of.head.node first_of.kids first_of.after)
      here = x.same ∙ ap (survey_from strict nodes) first_of.is

      pub survey-stop : {X : Type 0} → None ≡ node_at w place (read_node w 0 (drop place d)) → X
      survey-stop e = absurd (no-bad w place first_of.own first_of.head _ first_of.node e)

      module _ (node : Code.Node) (is : Some node ≡ node_at w place (read_node w 0 (drop place d))) where
        node-here : NodeAt node place first_of.own first_of.head
        node-here = node_at_lem w node place first_of.own first_of.head _ first_of.node is

        same_test : (ltb 0 strict && not (is_some node.count)) ≡ (ltb 0 strict && not (is_valid first_of.head.node.count))
        same_test = ap (λ (b : Bool). ltb 0 strict && not b) (node-valid _ _ _ _ node-here)

        pub survey-inconsistent : (ltb 0 strict && not (is_some node.count)) ≡ true → None ≡ survey_of v f
        survey-inconsistent e = sym (here ∙ survey-wrong first_of.head.node first_of.kids first_of.after strict nodes (sym same_test ∙ e))

        pub survey-on : (ltb 0 strict && not (is_some node.count)) ≡ false → (strict' added : ℕ) → strict' ≡ cond (is_some node.count) (strict - 1 + node.subtrees) 0
            → added ≡ weight_of node.count → Surveying w d v f node.next (pending - 1 + node.subtrees) strict' (nodes + added)
        survey-on e strict' added demands weighs =
            let k : first_of.head.subtrees + (pending - 1) ≡ pending - 1 + node.subtrees = omega (arith, node-here.subtrees) in
            record {
              left = chain first_of.kids first_of.after;
              taken = first_of.below + first_of.rest;
              reads = reads_at _ _ _ _ _ _ (reads-chain _ _ _ _ _ _ _ first_of.reads_kids first_of.reads_after) (drop-to d place first_of.own node.next node-here.next) k;
              same =
                  here
                  ∙ survey-more first_of.head.node first_of.kids first_of.after strict nodes (sym same_test ∙ e)
                  ∙ survey-same _ _ _ _ _
                  (sym (demands ∙ demand-same _ _ (strict - 1) _ _ (node-valid _ _ _ _ node-here) (node-here.subtrees ∙ sym (reads-width _ _ _ _ first_of.reads_kids))))
                  (ap (λ (i : ℕ). nodes + i) (sym (weighs ∙ node-weighs _ _ _ _ node-here)));
            }
