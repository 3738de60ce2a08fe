use mathlib.Core.Bool.{true, false}
use mathlib.Core.Path.{◌≡◌, sym, ap, ◌∙◌}
use Prim.Native.Nat.{ℕ, ◌+◌, ◌-◌, ◌<◌}
use native.Mathlib.Omega.{arith}
use lib.ListN.{drop}
use Rattle.std.specs.Prelude.{Some}
use Rattle.format.specs.Layout.{distinct}
use Rattle.format.specs.Reader.{read_forest}
use Rattle.tree_nodes.proofs.Nodes.{NodeIs, node-is}
use Rattle.tree_nodes.specs.Flat.{names_of, names_differ}
use Rattle.cache_tree.specs.Answers.{read_one, distinct_below}
use Rattle.cache_tree.proofs.Lists.{plus_none, rooted_all, forest-sized, subtree-sized, ListIs, list-is, loop-more, one-length, list-bad, list_all, list-differs, list-equal, one_none, one-no-node, one-no-name, one-rooted}
use Rattle.cache_tree.proofs.Siblings.{at_first, rises_next, rises-all}
use Rattle.cache_tree.proofs.list.+readers.Goals as goal
use Rattle.cache_tree.proofs.list.+readers.Goals.{
  read_list-In_ok-subtree,
  read_list-After-loop,
  read_subtree-In_ok-node,
  read_list-then-rises-via-then-rises,
  read_list-then-rises-via-else-rises+then-rises-2,
  read_list-then-rises-via-else-rises+else-rises-2+then-differ,
}

-- ---- read_list

pub read_list-loop-init : goal.read_list-loop-init
read_list-loop-init t c =
    let all : c.args.k - 0 ≡ c.args.k = omega arith in
    rw all (omega arith, omega arith, omega arith, c.requires.3, plus_none _, at_first, at_first)

pub read_list-returns-in_err-subtree : goal.read_list-returns-in_err-subtree
read_list-returns-in_err-subtree t c =
    let some : 0 < c.args.k - c.loop.counter = omega arith in
    (c.from_residual.ensures ∙ list-bad _ _ _ _ _ _ _ _ c.loop.invariant.4 some c.in_err-subtree.ensures.0, c.read_subtree.ensures.1)

-- the subtree that was read
one : (t : ℕ) (c : read_list-In_ok-subtree t)
    → ListIs distinct_below c.args.d.now c.loop.place (read_one c.args.w c.args.levels (drop c.loop.place c.args.d.now)) c.in_ok-subtree.subtree.next c.in_ok-subtree.subtree.nodes
one t c = list-is distinct_below _ _ c.in_ok-subtree.subtree c.loop.invariant.1 _ (subtree-sized _ _ _) c.in_ok-subtree.ensures.0

pub read_list-overflow_add-nodes : goal.read_list-overflow_add-nodes
read_list-overflow_add-nodes t c =
    let is = one t (goal.at.read_list-overflow_add-nodes t c).In_ok-subtree in
    let few = is.few in
    let within = is.within in
    omega arith

pub read_list-loop-preserved : goal.read_list-loop-preserved
read_list-loop-preserved t c =
    let is = one t (goal.at.read_list-loop-preserved t c).In_ok-subtree in
    let few = is.few in
    let some : 0 < c.args.k - c.loop.counter = omega arith in
    let less : c.args.k - (c.loop.counter + 1) ≡ c.args.k - c.loop.counter - 1 = omega arith in
    let more = one-length _ _ _ _ _ _ is in
    rw less (
      omega arith,
      is.within,
      omega arith,
      c.read_subtree.ensures.1,
      loop-more _ _ _ _ _ _ _ c.loop.invariant.4 _ _ some is,
      rises_next _ false _ _ _ _ _ _ _ _ _ c.loop.invariant.5 some more.0 more.1 c.rise-rises.ensures.0,
      rises_next _ true _ _ _ _ _ _ _ _ _ c.loop.invariant.6 some more.0 more.1 c.rise-rises.ensures.1,
    )

-- the whole list, but for the siblings' own names
whole : (t : ℕ) (c : read_list-After-loop t) → ListIs distinct_below c.args.d.now c.args.at (read_forest c.args.w 0 c.args.levels c.args.k (drop c.args.at c.args.d.now)) c.loop.place c.loop.nodes
whole t c = list_all _ _ _ _ _ _ _ _ c.loop.invariant.4 c.requires.0 (omega arith)

pub read_list-returns-then-rises : goal.read_list-returns-then-rises
read_list-returns-then-rises t c =
    let differ : names_differ (names_of c.args.w c.args.k (drop c.args.at c.args.d.now)) ≡ true =
    elim c.then-rises.branch [
      | read_list-then-rises-via-then-rises w ↦ rises-all _ false _ _ _ _ _ _ _ c.loop.invariant.5 (omega arith) w.if-rises.true
      | read_list-then-rises-via-else-rises+then-rises-2 w ↦ rises-all _ true _ _ _ _ _ _ _ c.loop.invariant.6 (omega arith) w.if-rises-2.true
      | read_list-then-rises-via-else-rises+else-rises-2+then-differ w ↦ sym w.differ.ensures.0 ∙ w.if-differ.true
    ] in
    (list-differs _ _ _ _ _ _ _ (whole t (goal.at.read_list-returns-then-rises t c).After-loop) differ, c.then-rises.array_long)

pub read_list-returns : goal.read_list-returns
read_list-returns t c =
    (list-equal _ _ _ _ _ _ _ (whole t (goal.at.read_list-returns t c).After-loop) (sym c.differ.ensures.0 ∙ c.if-differ.false), c.differ.ensures.1)

-- ---- read_subtree

pub read_subtree-returns-then-levels-eq0 : goal.read_subtree-returns-then-levels-eq0
read_subtree-returns-then-levels-eq0 t c = (sym (one_none _ _ _ _ c.if-levels-eq0.true), c.requires.3)

pub read_subtree-returns-in_err-node : goal.read_subtree-returns-in_err-node
read_subtree-returns-in_err-node t c = (c.from_residual.ensures ∙ sym (one-no-node _ _ _ _ c.if-levels-eq0.false c.in_err-node.ensures), c.requires.3)

-- the node that was read
node-of : (t : ℕ) (c : read_subtree-In_ok-node t) → NodeIs c.args.w c.args.d.now c.args.at c.in_ok-node.node
node-of t c = node-is _ _ c.requires.0 _ c.in_ok-node.ensures

pub read_subtree-slice_bounds-name_ok-count : goal.read_subtree-slice_bounds-name_ok-count
read_subtree-slice_bounds-name_ok-count t c = (node-of t (goal.at.read_subtree-slice_bounds-name_ok-count t c).In_ok-node).named

pub read_subtree-slice_bounds-name_ok-start : goal.read_subtree-slice_bounds-name_ok-start
read_subtree-slice_bounds-name_ok-start t c = (node-of t (goal.at.read_subtree-slice_bounds-name_ok-start t c).In_ok-node).named

pub read_subtree-slice_bounds-name_ok-end : goal.read_subtree-slice_bounds-name_ok-end
read_subtree-slice_bounds-name_ok-end t c =
    let n = node-of t (goal.at.read_subtree-slice_bounds-name_ok-end t c).In_ok-node in
    let ended = n.ended in
    let within = n.within in
    omega arith

pub read_subtree-returns-then-not-name_ok : goal.read_subtree-returns-then-not-name_ok
read_subtree-returns-then-not-name_ok t c =
    let n = node-of t (goal.at.read_subtree-returns-then-not-name_ok t c).In_ok-node in
    (sym (one-no-name _ _ _ _ c.if-levels-eq0.false _ n c.if-not-name_ok.ensures), c.requires.3)

pub read_subtree-read_list-requires : goal.read_subtree-read_list-requires
read_subtree-read_list-requires t c =
    let n = node-of t (goal.at.read_subtree-read_list-requires t c).In_ok-node in
    let named = n.named in
    let ended = n.ended in
    let within = n.within in
    (omega arith, (within, omega arith, omega arith, c.requires.3))

pub read_subtree-returns-in_err-below : goal.read_subtree-returns-in_err-below
read_subtree-returns-in_err-below t c =
    let n = node-of t (goal.at.read_subtree-returns-in_err-below t c).In_ok-node in
    (c.from_residual-in_err-below.ensures ∙ ap rooted_all c.in_err-below.ensures.0 ∙ sym (one-rooted _ _ _ _ c.if-levels-eq0.false _ n c.if-not-name_ok.ensures), c.read_list.ensures.1)

pub read_subtree-with_root-requires : goal.read_subtree-with_root-requires
read_subtree-with_root-requires t c =
    let n = node-of t (goal.at.read_subtree-with_root-requires t c).In_ok-node in
    let is = list-is distinct c.args.d.now _ c.in_ok-below.below n.within _ (forest-sized _ _ _ _) c.in_ok-below.ensures.0 in
    let few = is.few in
    let within = is.within in
    omega arith

pub read_subtree-returns : goal.read_subtree-returns
read_subtree-returns t c =
    let n = node-of t (goal.at.read_subtree-returns t c).In_ok-node in
    (ap Some c.with_root.ensures ∙ ap rooted_all c.in_ok-below.ensures.0 ∙ sym (one-rooted _ _ _ _ c.if-levels-eq0.false _ n c.if-not-name_ok.ensures), c.read_list.ensures.1)
