use mathlib.Core.Path.{sym, ◌∙◌}
use native.Mathlib.Omega.{arith}
use Rattle.tree_nodes.proofs.Nodes.{NodeIs, node-is}
use Rattle.tree_nodes.proofs.Flat.{flat-more, flat-less, trees-end, trees-more, trees-stop}
use Rattle.tree_nodes.proofs.passes.after_trees.Goals as goal
use Rattle.tree_nodes.proofs.passes.after_trees.Goals.{In-Some}

pub returns-in_default : goal.returns-in_default
returns-in_default c =
    (sym (c.loop-pending.invariant.1 ∙ trees-stop _ _ _ _ c.loop-pending-test.true c.loop-pending.invariant.0.inside c.in_default.ensures), omega arith)

node_of : (c : In-Some) → NodeIs c.args.w c.args.d.now c.loop-pending.place c.in-Some.node
node_of c = node-is _ _ c.loop-pending.invariant.0.inside _ c.in-Some.ensures

pub loop-pending-smaller : goal.loop-pending-smaller
loop-pending-smaller c = flat-less _ _ _ _ _ c.loop-pending.invariant.0 _ (node_of (goal.at.loop-pending-smaller c).In-Some)

pub loop-pending-preserved : goal.loop-pending-preserved
loop-pending-preserved c =
    let inv = c.loop-pending.invariant in
    let is = node_of (goal.at.loop-pending-preserved c).In-Some in
    rw c.from.ensures (flat-more _ _ _ _ _ inv.0 _ is (omega arith), inv.1 ∙ trees-more _ _ _ _ c.loop-pending-test.true _ is)

pub returns : goal.returns
returns c = (sym (c.loop-pending.invariant.1 ∙ trees-end _ _ _ _ c.loop-pending-test.false), c.loop-pending.invariant.0.inside)
