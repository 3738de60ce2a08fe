-- The proof that `put_invalid` meets its contract: four parts, one after another.
use Prim.Native.Nat.{◌+◌, ◌≤◌}
use native.Mathlib.Omega.{arith}
use lib.ListN.{length, length-take, length-drop}
use Rattle.tree_write.proofs.Nodes.{NodeCut, cut-here, nul-in, space-in, invalid-written}
use Rattle.tree_write.proofs.put_invalid.Goals as goal
use Rattle.tree_write.proofs.put_invalid.Goals.{After-find-space, Start}

cut_of : (c : Start) → NodeCut c.args.w c.args.d.now c.args.place c.args.node
cut_of c = cut-here _ c.requires.0.wide _ _ c.requires.0.inside _ c.requires.1

nul-of : (c : Start) → (c.args.place ≤ c.args.node.nul) × (c.args.node.nul + 1 ≤ length c.args.d.now)
nul-of c = nul-in _ _ _ (cut_of c)

space-of : (c : After-find-space) → (c.find-space.result ≤ c.args.node.object) × (c.args.node.object ≤ length c.args.d.now)
space-of c = space-in _ _ _ (cut-here _ c.requires.0.wide _ _ c.requires.0.inside _ c.requires.1) _ c.find-space.ensures.0

pub overflow_add-count : goal.overflow_add-count
overflow_add-count c = let nul = nul-of (goal.at.overflow_add-count c).Start in omega arith

pub find-space-requires : goal.find-space-requires
find-space-requires c = (nul-of (goal.at.find-space-requires c).Start).1

pub put_part-named-requires : goal.put_part-named-requires
put_part-named-requires c = let (above, within) = nul-of (goal.at.put_part-named-requires c).Start in (omega arith, omega arith, within)

pub put_part-requires : goal.put_part-requires
put_part-requires c =
    let e = simp (length-take, length-drop) at c.put_part-named.ensures.end in
    let (above, within) = space-of (goal.at.put_part-requires c).After-find-space in
    (omega (arith, e, c.put_byte-minus.ensures.end, c.put_byte-one.ensures.end, c.requires.0), above, within)

pub returns : goal.returns
returns c =
    invalid-written _ _ _ (cut_of (goal.at.returns c).Start) _ c.find-space.ensures.0 _ _ _ _ _ _ _ _ _ _ c.put_part-named.ensures c.put_byte-minus.ensures c.put_byte-one.ensures c.put_part.ensures
