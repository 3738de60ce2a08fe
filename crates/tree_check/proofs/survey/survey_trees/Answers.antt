use mathlib.Core.Path.{sym, ◌∙◌}
use native.Mathlib.Omega.{arith}
use Rattle.tree_nodes.proofs.Nodes.{node-is}
use Rattle.tree_nodes.proofs.Flat.{flat_start, flat-more, flat-less}
use Rattle.tree_check.proofs.Surveys.{survey-start, survey-end, survey-stop, survey-inconsistent, survey-on}
use Rattle.tree_check.proofs.survey.survey_trees.Goals as goal

pub loop-pending-init : goal.loop-pending-init
loop-pending-init c = rw c.from-pending.ensures (flat_start _ _ _ c.requires.0, omega (arith, c.demand-strict.ensures.1), omega arith, λ f m r. survey-start _ _ _ f _ _ m _ c.demand-strict.ensures.0 r)

pub returns-in_err-node : goal.returns-in_err-node
returns-in_err-node c =
    λ f m r. survey-stop _ _ _ f _ _ _ _ (c.loop-pending.invariant.3 f m r) c.loop-pending-test.true (c.in_err-node.ensures)

pub returns-then-is_wrong : goal.returns-then-is_wrong
returns-then-is_wrong c =
    λ f m r. survey-inconsistent _ _ _ f _ _ _ _ (c.loop-pending.invariant.3 f m r) c.loop-pending-test.true _ c.in_ok-node.ensures (rw c.is_some-valid.ensures at (sym c.is_wrong.ensures ∙ c.if-is_wrong.true))

pub loop-pending-smaller : goal.loop-pending-smaller
loop-pending-smaller c =
    let e = c.in_ok-node.ensures in
    flat-less _ _ _ _ _ c.loop-pending.invariant.0 _ (node-is _ _ c.loop-pending.invariant.0.inside _ e)

pub loop-pending-preserved : goal.loop-pending-preserved
loop-pending-preserved c =
    let e = c.in_ok-node.ensures in
    let is = node-is _ _ c.loop-pending.invariant.0.inside _ e in
    let named = is.named in
    let ended = is.ended in
    let least = c.loop-pending.invariant.0.least in
    rw c.from.ensures
    (flat-more _ _ _ _ _ c.loop-pending.invariant.0 _ is (omega arith), omega (arith, c.demand-strict-in-loop-pending.ensures.1), omega (arith, c.weight-nodes.ensures.1), λ f m r. survey-on _ _ _ f _ _ _ _ (c.loop-pending.invariant.3 f m r) c.loop-pending-test.true _ e (rw c.is_some-valid.ensures at (sym c.is_wrong.ensures ∙ c.if-is_wrong.false)) _ _ (rw c.is_some-valid.ensures at c.demand-strict-in-loop-pending.ensures.0) c.weight-nodes.ensures.0)

pub returns : goal.returns
returns c = λ f m r. survey-end _ _ _ f _ _ _ _ (c.loop-pending.invariant.3 f m r) c.loop-pending-test.false
