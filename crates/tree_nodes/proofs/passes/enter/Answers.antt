-- The proof that `enter` meets its contract.
use native.Mathlib.Omega.{arith}
use lib.ListN.{length-set}
use Rattle.tree_nodes.proofs.Levels.{passed-leaf, passed-node}
use Rattle.tree_nodes.proofs.passes.enter.Goals as goal

pub returns-then-subtrees-eq0 : goal.returns-then-subtrees-eq0
returns-then-subtrees-eq0 c =
    let a = c.args in
    (simp length-set (omega arith), omega arith, λ deep. passed-leaf a.remaining.now a.depth _ a.subtrees c.saturating_sub.ensures (omega arith) c.if-subtrees-eq0.true)

pub returns-then-depth-gt126 : goal.returns-then-depth-gt126
returns-then-depth-gt126 c = (simp length-set (omega arith), omega arith, λ deep. absurd (omega (arith, deep (omega arith))))

pub returns : goal.returns
returns c =
    let a = c.args in
    (simp length-set (omega arith), omega arith, λ deep. passed-node a.remaining.now a.depth _ a.subtrees c.saturating_sub.ensures _ (omega arith) (omega arith))
