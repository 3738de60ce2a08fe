use Rattle.cache_tree.proofs.Faults.{answered}
use Rattle.cache_tree.proofs.Shape.{NodesAre, nodes-are, tree-no-nodes, tree-longer, tree-shaped}
use mathlib.Core.Path.{◌∙◌}
use Rattle.cache_tree.proofs.read_tree.Goals as goal
use Rattle.cache_tree.proofs.read_tree.Goals.{In_ok-all}

nodes-of : (c : In_ok-all) → NodesAre c.args.w c.args.d.now c.in_ok-all.all.next c.in_ok-all.all.nodes
nodes-of c = nodes-are _ c.in_ok-all.all c.in_ok-all.ensures.0

pub returns-in_err-all : goal.returns-in_err-all
returns-in_err-all c = (λ p. c.from_residual.ensures ∙ answered _ _ _ (tree-no-nodes _ _ c.in_err-all.ensures.0) p, c.read_nodes.ensures.1)

pub returns-then-all-d : goal.returns-then-all-d
returns-then-all-d c = (answered _ _ _ (tree-longer _ _ _ _ (nodes-of (goal.at.returns-then-all-d c).In_ok-all) c.if-all-d.true), c.read_nodes.ensures.1)

pub returns : goal.returns
returns c = (answered _ _ _ (tree-shaped _ _ _ _ (nodes-of (goal.at.returns c).In_ok-all) c.if-all-d.false), c.read_nodes.ensures.1)
