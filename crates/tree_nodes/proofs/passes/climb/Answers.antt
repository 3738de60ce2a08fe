use mathlib.Core.Path.{sym, ◌∙◌}
use native.Mathlib.Omega.{arith}
use Rattle.tree_nodes.proofs.Levels.{climb-stays, climb-root, climb-more}
use Rattle.tree_nodes.proofs.passes.climb.Goals as goal

pub returns-then-remaining-at-gt0 : goal.returns-then-remaining-at-gt0
returns-then-remaining-at-gt0 c = (omega arith, sym (c.loop-at.invariant.1 ∙ climb-stays _ _ c.if-remaining-at-gt0.true))

pub loop-at-preserved : goal.loop-at-preserved
loop-at-preserved c = (omega arith, c.loop-at.invariant.1 ∙ climb-more _ _ c.loop-at-test.true c.if-remaining-at-gt0.false)

pub returns : goal.returns
returns c = (omega arith, sym (c.loop-at.invariant.1 ∙ climb-root _ _ (omega arith)))
