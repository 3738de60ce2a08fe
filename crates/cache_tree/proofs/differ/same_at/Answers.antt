-- The proof that `same_at` meets its contract.
use mathlib.Core.Path.{ap₂, ◌∙◌}
use Rattle.format.specs.Bytes.{eq_list}
use Rattle.tree_nodes.proofs.Trees.{name_is}
use Rattle.cache_tree.proofs.differ.same_at.Goals as goal

pub returns : goal.returns
returns c = c.same.ensures ∙ ap₂ eq_list (name_is _ _ _ c.find-x.ensures.0) (name_is _ _ _ c.find-y.ensures.0)
