use mathlib.Core.Path.{sym, ◌∙◌}
use native.Mathlib.Omega.{arith}
use Rattle.tree_nodes.proofs.Nodes.{node-is}
use Rattle.tree_nodes.proofs.Flat.{flat-more, flat-less, trees-end, trees-more, trees-stop}
use Rattle.tree_write.specs.Written.{NodeHere}
use Rattle.tree_write.proofs.Trees.{left_end, left-stop, left-on}
use Rattle.tree_write.proofs.put_trees.Goals as goal
use Rattle.tree_write.proofs.put_trees.Goals.{In-Some}

pub returns-in_default : goal.returns-in_default
returns-in_default c =
    let some = c.loop-pending-test.true in
    let none = c.in_default.ensures in
    record {
      wrote = λ f m r. left-stop _ _ _ _ _ _ _ _ (c.loop-pending.invariant.4 f m r) some none;
      ended = sym (c.loop-pending.invariant.3 ∙ trees-stop _ _ _ _ some c.loop-pending.invariant.0.inside none);
      within = omega arith;
      short = omega arith;
    }

node_of : (c : In-Some) → NodeHere c.args.w c.args.d.now c.loop-pending.place c.in-Some.node
node_of c = record { read = c.in-Some.ensures }

pub loop-pending-smaller : goal.loop-pending-smaller
loop-pending-smaller c =
    flat-less _ _ _ _ _ c.loop-pending.invariant.0 _ (node-is _ _ c.loop-pending.invariant.0.inside _ (node_of (goal.at.loop-pending-smaller c).In-Some).read)

pub loop-pending-preserved : goal.loop-pending-preserved
loop-pending-preserved c =
    let some = c.loop-pending-test.true in
    let is = node-is _ _ c.loop-pending.invariant.0.inside _ (node_of (goal.at.loop-pending-preserved c).In-Some).read in
    let named = is.named in
    let ended = is.ended in
    let short = c.put_node-end.ensures.short in
    let long = (c.put_node-end.ensures.wrote is.head _ is.reads).long in
    rw c.from.ensures (
      flat-more _ _ _ _ _ c.loop-pending.invariant.0 _ is (omega arith),
      omega arith,
      long ∙ c.loop-pending.invariant.2,
      c.loop-pending.invariant.3 ∙ trees-more _ _ _ _ some _ is,
      λ f m r. left-on _ _ _ _ _ _ _ _ (c.loop-pending.invariant.4 f m r) some _ (node_of (goal.at.loop-pending-preserved c).In-Some) _ _ c.put_node-end.ensures,
    )

pub returns : goal.returns
returns c =
    let none = c.loop-pending-test.false in
    record {
      wrote = λ f m r. left_end _ _ _ _ _ _ _ _ (c.loop-pending.invariant.4 f m r) none;
      ended = sym (c.loop-pending.invariant.3 ∙ trees-end _ _ _ _ none);
      within = c.loop-pending.invariant.0.inside;
      short = c.loop-pending.invariant.1;
    }
