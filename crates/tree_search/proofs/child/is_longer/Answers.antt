use native.Mathlib.Omega.{arith}
use Rattle.tree_nodes.proofs.Nodes.{node-is}
use Rattle.tree_nodes.proofs.Flat.{flat_start, flat-more, flat-less}
use Rattle.tree_search.proofs.child.is_longer.Goals as goal

pub loop-pending-init : goal.loop-pending-init
loop-pending-init c = rw c.from-pending.ensures (flat_start _ _ _ c.requires.0)

pub loop-pending-smaller : goal.loop-pending-smaller
loop-pending-smaller c =
    flat-less _ _ _ _ _ c.loop-pending.invariant _ (node-is _ _ c.loop-pending.invariant.inside _ c.in-Some.ensures)

pub loop-pending-preserved : goal.loop-pending-preserved
loop-pending-preserved c =
    rw c.from.ensures
    (flat-more _ _ _ _ _ c.loop-pending.invariant _ (node-is _ _ c.loop-pending.invariant.inside _ c.in-Some.ensures) (omega arith))
