-- The proof that `read_node` meets its contract, part after part.
use mathlib.Core.Path.{sym, ◌∙◌}
use Prim.Native.Nat.{◌+◌}
use native.Mathlib.Omega.{arith}
use Rattle.tree_nodes.proofs.Nodes.{CountIs, SubtreesIs, count_is, subtrees-is, node-none, node-no-count, node-no-subtrees, node-short, node-good}
use Rattle.tree_nodes.proofs.node.read_node.Goals as goal
use Rattle.tree_nodes.proofs.node.read_node.Goals.{In_ok-count, In_ok-subtrees}

count_of : (c : In_ok-count) → CountIs c.args.d.now (c.find-nul.result + 1) c.in_ok-count.count c.in_ok-count.middle
count_of c = count_is _ _ (omega arith) _ _ c.in_ok-count.ensures

subtrees-of : (c : In_ok-subtrees) → CountIs c.args.d.now (c.find-nul.result + 1) c.in_ok-count.count c.in_ok-count.middle → SubtreesIs c.args.d.now c.in_ok-count.middle c.in_ok-subtrees.subtrees c.in_ok-subtrees.object
subtrees-of c k = subtrees-is _ _ k.within _ _ c.in_ok-subtrees.ensures

pub returns-then-nul-d : goal.returns-then-nul-d
returns-then-nul-d c = sym (node-none _ _ _ _ c.find-nul.ensures.0 c.if-nul-d.true)

pub returns-in_err-count : goal.returns-in_err-count
returns-in_err-count c = c.from_residual.ensures ∙ sym (node-no-count _ _ _ _ c.find-nul.ensures.0 (omega arith) c.in_err-count.ensures)

pub read_subtrees-requires : goal.read_subtrees-requires
read_subtrees-requires c = (count_of c).within

pub returns-in_err-subtrees : goal.returns-in_err-subtrees
returns-in_err-subtrees c =
    let k = count_of (goal.at.returns-in_err-subtrees c).In_ok-count in
    c.from_residual-in_err-subtrees.ensures ∙ sym (node-no-subtrees _ _ _ _ c.find-nul.ensures.0 (omega arith) _ _ k c.in_err-subtrees.ensures)

pub overflow_sub-d : goal.overflow_sub-d
overflow_sub-d c =
    let k = count_of (goal.at.overflow_sub-d c).In_ok-count in
    (subtrees-of (goal.at.overflow_sub-d c).In_ok-subtrees k).within

pub returns-then-d-object : goal.returns-then-d-object
returns-then-d-object c =
    let k = count_of (goal.at.returns-then-d-object c).In_ok-count in
    sym (node-short _ _ _ _ c.find-nul.ensures.0 (omega arith) _ _ k _ _ (subtrees-of (goal.at.returns-then-d-object c).In_ok-subtrees k) _ c.object_length-n.ensures c.if-d-object.true)

pub returns : goal.returns
returns c =
    let k = count_of (goal.at.returns c).In_ok-count in
    sym (node-good _ _ _ _ c.find-nul.ensures.0 (omega arith) _ _ k _ _ (subtrees-of (goal.at.returns c).In_ok-subtrees k) _ c.object_length-n.ensures c.if-d-object.false)
