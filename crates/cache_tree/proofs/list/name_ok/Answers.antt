-- The proof that `name_ok` meets its contract.
use mathlib.Core.Bool.{not}
use mathlib.Core.Path.{ap, ◌∙◌}
use Rattle.cache_tree.proofs.Names.{no_name, some-name}
use Rattle.cache_tree.proofs.list.name_ok.Goals as goal

pub returns-then-not-is_empty : goal.returns-then-not-is_empty
returns-then-not-is_empty c = ap not c.contains.ensures.value ∙ some-name _ c.if-not-is_empty.ensures

pub returns-else-not-is_empty : goal.returns-else-not-is_empty
returns-else-not-is_empty c = ap not c.if-not-is_empty.false ∙ no_name _ c.if-not-is_empty.ensures
