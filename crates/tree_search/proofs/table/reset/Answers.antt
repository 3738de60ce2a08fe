-- The proof that `reset` meets its contract.
use mathlib.Core.Path.{◌∙◌}
use Rattle.tree_search.proofs.Tables.{reset-known, reset-vacant}
use Rattle.tree_search.proofs.table.reset.Goals as goal

pub returns : goal.returns
returns c =
    let long = c.clear.ensures.0 ∙ c.requires in
    (λ w d. reset-known _ c.clear.ensures.1 long d, λ region. reset-vacant _ c.clear.ensures.1 long region)
