-- The proof that `put_node` meets its contract: a valid node is copied, an invalid one is written as one made invalid.
use native.Mathlib.Omega.{arith}
use Rattle.tree_write.proofs.Nodes.{NodeCut, cut-here, valid-written, invalid-kept}
use Rattle.tree_write.proofs.put_node.Goals as goal
use Rattle.tree_write.proofs.put_node.Goals.{Start}

cut_of : (c : Start) → NodeCut c.args.w c.args.d.now c.args.place c.args.node
cut_of c = cut-here _ c.requires.0.wide _ _ c.requires.0.inside _ c.requires.1

pub put_part-requires : goal.put_part-requires
put_part-requires c =
    let x = cut_of (goal.at.put_part-requires c).Start in
    let next = x.next in
    let within = x.within in
    (omega arith, omega arith, omega arith)

pub returns-in-Some : goal.returns-in-Some
returns-in-Some c =
    valid-written _ _ _ (cut_of (goal.at.returns-in-Some c).Start) _ _ _ _ _ c.in-Some.is c.put_part.ensures

pub returns-in-None : goal.returns-in-None
returns-in-None c =
    invalid-kept _ _ _ (cut_of (goal.at.returns-in-None c).Start) _ _ _ _ c.in-None.is c.put_invalid.ensures
