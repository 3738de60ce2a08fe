use Rattle.extensions.proofs.Trees.{tree-refused, tree-miscounted, tree-added}
use Rattle.extensions.proofs.Known.{known-seen, not_some}
use mathlib.Core.Path.{sym, ◌∙◌}
use Rattle.fields.proofs.Workspace.{frame_same}
use Rattle.extensions.proofs.add_tree.Goals as goal

pub returns-then-is_some : goal.returns-then-is_some
returns-then-is_some c =
    record { answered = λ es m q. known-seen _ _ _ _ (sym c.is_some.ensures ∙ c.if-is_some.true); inside = tt; frame = frame_same _ }

pub returns-in_default : goal.returns-in_default
returns-in_default c =
    let a = c.args in
    record {
      answered =
          λ es n q.
          tree-refused _ a.b.now a.at a.end c.requires.0 a.found (not_some _ _ c.is_some.ensures c.if-is_some.false) _
          (λ p. sym c.in_default.is ∙ c.read_tree.ensures.0 p);
      inside = tt;
      frame = frame_same _;
    }

pub returns-then-not-counts_ok : goal.returns-then-not-counts_ok
returns-then-not-counts_ok c =
    let k = c.counts_ok.ensures in
    let a = c.args in
    record {
      answered =
          λ es n q.
          tree-miscounted _ a.b.now a.at a.end c.requires.0 a.found (not_some _ _ c.is_some.ensures c.if-is_some.false) _ _ _
          (λ p. sym c.in-Some.is ∙ c.read_tree.ensures.0 p)
          (λ t i nodes differ. k.is es n t i q nodes differ)
          c.if-not-counts_ok.true;
      inside = tt;
      frame = k.frame;
    }

pub returns : goal.returns
returns c =
    let k = c.counts_ok.ensures in
    let a = c.args in
    record {
      answered =
          λ es n q.
          tree-added _ a.b.now a.at a.end c.requires.0 a.found (not_some _ _ c.is_some.ensures c.if-is_some.false) _ _ _
          (λ p. sym c.in-Some.is ∙ c.read_tree.ensures.0 p)
          (λ t i nodes differ. k.is es n t i q nodes differ)
          c.if-not-counts_ok.false;
      inside = c.requires.0;
      frame = k.frame;
    }
