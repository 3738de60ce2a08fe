-- The proof that `counts_ok` meets its contract.
use mathlib.Core.Path.{sym, ◌∙◌}
use mathlib.Core.List.{[]}
use native.Mathlib.Omega.{arith}
use Rattle.fields.proofs.Workspace.{frame_same}
use Rattle.tree_nodes.proofs.Nodes.{node-is}
use Rattle.tree_check.proofs.Wholes.{answer-none, answer-inconsistent, answer-consistent}
use Rattle.tree_check.proofs.counts.counts_ok.Goals as goal

pub survey_trees-requires : goal.survey_trees-requires
survey_trees-requires c =
    let is = node-is c.args.d.now 0 (omega arith) _ (sym c.in-Some.is ∙ c.read_node.ensures) in
    (is.within, c.requires.0)

pub walk_root-requires : goal.walk_root-requires
walk_root-requires c =
    let is = node-is c.args.d.now 0 (omega arith) _ (sym c.in-Some.is ∙ c.read_node.ensures) in
    (is.within, c.requires.0, record { least = c.requires.1.least; most = c.requires.1.most; room = c.requires.1.room }, c.requires.2, omega arith)

pub returns-in_default : goal.returns-in_default
returns-in_default c = record {
  frame = frame_same _;
  is = λ es m t n q₁ q₂ differ. answer-none _ _ t n q₂ differ [] (sym c.in_default.is ∙ c.read_node.ensures);
}

pub returns-in_default-survey_trees : goal.returns-in_default-survey_trees
returns-in_default-survey_trees c =
    record {
      frame = frame_same _;
      is = λ es m t n q₁ q₂ differ.
          answer-inconsistent _ _ t n q₂ differ _ _ (sym c.in-Some.is ∙ c.read_node.ensures) _ (rw c.is_some-valid.ensures at c.survey_trees.ensures) c.in_default-survey_trees.is;
    }

pub returns : goal.returns
returns c =
    let last = c.walk_root.ensures in
    record {
      frame = last.frame;
      is = λ es m t n q₁ q₂ differ.
          answer-consistent _ _ t n q₂ differ _ _ (sym c.in-Some.is ∙ c.read_node.ensures) _ (rw c.is_some-valid.ensures at c.survey_trees.ensures) _ c.in-Some-survey_trees.is _ (last.is es m q₁);
    }
