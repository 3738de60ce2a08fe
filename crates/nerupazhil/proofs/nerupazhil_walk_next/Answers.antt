-- The proof that `nerupazhil_walk_next` meets its contract.
use mathlib.Core.Path.{ap, ◌∙◌}
use Rattle.entries.specs.declared.record.Fields.{Fields}
use Rattle.format.specs.Refusals.{numbered_at}
use Rattle.kinds.proofs.Laws.{width-most}
use Rattle.replies.specs.Arrays.{field_numbers, shown_in, step_reply}
use Rattle.nerupazhil.proofs.Laws.{step-replies}
use Rattle.nerupazhil.proofs.nerupazhil_walk_next.Goals as goal

pub returns : goal.returns
returns c =
    let step = c.step_at-step in
    let shown = c.fields_shown-shown.ensures in
    step-replies _ _ (width-most _) _ _ _ _ _ (c.field_numbers.ensures ∙ ap field_numbers shown) (ap (λ (x : Fields). x.object) shown) _ _ step.ensures.0
    (c.step_reply.ensures ∙ (ap (λ s. step_reply s step.result.next) c.shown_in.ensures ∙ ap (λ p. step_reply (shown_in (numbered_at step.result.answer)) p) step.ensures.1))
