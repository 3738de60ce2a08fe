use Rattle.tree_table.specs.Keys.{last_key}
use Rattle.tree_table.proofs.last_key.Goals as goal

pub returns : goal.returns
unfolding last_key
returns c = (c.step_key.ensures.0, c.step_key.ensures.1)
