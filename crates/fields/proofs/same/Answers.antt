-- The proof that `same` meets its contract.
use mathlib.Core.Path.{◌∙◌}
use Rattle.fields.proofs.Laws.{eq_list-pointwise}
use Rattle.fields.proofs.same.Goals as goal

pub returns : goal.returns
returns c = c.eq.ensures ∙ eq_list-pointwise _ _
