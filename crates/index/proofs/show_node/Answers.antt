-- The proof that `show_node` meets its contract.
use Prim.Native.Nat.{◌+◌, ◌≤◌}
use native.Mathlib.Omega.{arith}
use lib.ListN.{length}
use Rattle.std.specs.Prelude.{IsSome}
use Rattle.std.proofs.lemmas.Result.{err_from_is_err_and}
use Rattle.extensions.specs.Heads.{part}
use Rattle.index.proofs.Views.{node-refused}
use Rattle.index.proofs.Nodes.{Within, item-here, within, no-node-there, node-there, node-parts, places, node-shows}
use Rattle.index.proofs.show_node.Goals as goal
use Rattle.index.proofs.show_node.Goals.{In_ok-tree, In-Some}

-- where the data are
inside : (c : In_ok-tree) → Within c.args.file.now c.in_ok-tree.tree
inside c = within _ c.args.k c.args.file.now c.in_ok-tree.tree c.requires.0.0 (rw c.in_ok-tree.ensures.0 at c.requires.0.1)

-- and the parts of the node in them
placed :
    (c : In-Some) →
    let a = c.args in
    let t = c.in_ok-tree.tree in
    let n = c.in-Some.node in
    (c.find_node-found.result.place ≤ n.nul) × (IsSome n.count → n.object + a.w ≤ length (part a.file.now t.at t.end))
placed c =
    places _ c.args.k c.args.file.now c.in_ok-tree.tree _ c.find_node-found.ensures c.requires.0.0 (rw c.in_ok-tree.ensures.0 at c.requires.0.1) c.in_ok-tree.ensures.1 _ c.in-Some.ensures

pub returns-in_err-tree : goal.returns-in_err-tree
returns-in_err-tree c =
    let a = c.args in
    let p = err_from_is_err_and c.from_residual.result c.from_residual.ensures.1 in
    let (is-fault, few) = c.in_err-tree.ensures in
    λ o at is placed. rw (p.1, p.2, is-fault) (node-refused _ 18 0 a.file.now at _ (no-node-there _ a.k a.file.now a.tree o is few))

pub slice_bounds-data-count : goal.slice_bounds-data-count
slice_bounds-data-count c = (inside (goal.at.slice_bounds-data-count c).In_ok-tree).order

pub slice_bounds-data-end : goal.slice_bounds-data-end
slice_bounds-data-end c = (inside (goal.at.slice_bounds-data-end c).In_ok-tree).inside

pub node_object-requires : goal.node_object-requires
node_object-requires c = ((placed (goal.at.node_object-requires c).In-Some).1, omega arith)

pub returns-in_default : goal.returns-in_default
returns-in_default c =
    let a = c.args in
    λ o at is placed.
    item-here _ a.k a.file.now c.in_ok-tree.tree _ c.find_node-found.ensures o (rw c.in_ok-tree.ensures.0 at is) c.in_ok-tree.ensures.1 λ i v h.
    absurd (node-there _ _ _ i h.taken h.reads c.in_default.ensures)

pub returns : goal.returns
returns c =
    let a = c.args in
    λ o at is placed.
    item-here _ a.k a.file.now c.in_ok-tree.tree _ c.find_node-found.ensures o (rw c.in_ok-tree.ensures.0 at is) c.in_ok-tree.ensures.1 λ i v h.
    node-shows _ a.k a.file.now c.in_ok-tree.tree _ at _ i v h c.requires.1 (rw c.in_ok-tree.ensures.0 at placed) _ (node-parts _ _ _ i h.taken h.reads _ c.in-Some.ensures) _
    c.node_object.ensures

pub overflow_sub-result : goal.overflow_sub-result
overflow_sub-result c = (placed (goal.at.overflow_sub-result c).In-Some).0
