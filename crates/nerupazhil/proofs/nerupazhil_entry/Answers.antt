-- The proof that `nerupazhil_entry` meets its contract.
use mathlib.Core.Path.{ap, ◌∙◌}
use Rattle.entries.specs.declared.record.Fields.{Fields}
use Rattle.kinds.proofs.Laws.{width-most}
use Rattle.replies.specs.Arrays.{field_numbers}
use Rattle.nerupazhil.proofs.Laws.{entry-replies}
use Rattle.nerupazhil.proofs.nerupazhil_entry.Goals as goal

pub returns : goal.returns
returns c =
    let shown = c.fields_shown-shown.ensures in
    entry-replies _ _ (width-most _) _ _ _ _ _ (c.field_numbers.ensures ∙ ap field_numbers shown) (ap (λ (x : Fields). x.object) shown) _ _ _ c.entry-answer.ensures c.entry_reply.ensures
