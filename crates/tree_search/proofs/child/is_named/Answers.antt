-- The proof that `is_named` meets its contract.
use mathlib.Core.Path.{ap, ◌∙◌}
use Rattle.format.specs.Bytes.{eq_list}
use Rattle.tree_nodes.proofs.Trees.{name_is}
use Rattle.tree_search.proofs.child.is_named.Goals as goal

pub returns : goal.returns
returns c = c.same.ensures ∙ ap (eq_list _) (name_is _ _ _ c.find-nul.ensures.0)
