-- The proof that `key_at` meets its contract.
use mathlib.Core.Path.{ap, ◌∙◌}
use Rattle.tree_table.specs.Keys.{key_in}
use Rattle.cache_tree.proofs.differ.key_at.Goals as goal

pub returns : goal.returns
returns c = c.key_of.ensures.0 ∙ ap (key_in _) c.requires.name
