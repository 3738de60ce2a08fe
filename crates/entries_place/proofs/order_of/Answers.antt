-- The proof that `order_of` meets its contract.
use mathlib.Core.Path.{sym, ◌∙◌}
use Rattle.entries_place.proofs.Keys.{compared-below, compared-above, compared_same}
use Rattle.entries_place.proofs.order_of.Goals as goal

pub returns-in-Less : goal.returns-in-Less
returns-in-Less c = compared-below _ _ (sym c.compare-o.ensures ∙ c.in-Less.is)

pub returns-in-Equal : goal.returns-in-Equal
returns-in-Equal c = compared_same _ _ (sym c.compare-o.ensures ∙ c.in-Equal.is)

pub returns-in-Greater : goal.returns-in-Greater
returns-in-Greater c = compared-above _ _ (sym c.compare-o.ensures ∙ c.in-Greater.is)
