-- The proof that `make_seed` meets its contract.
use Rattle.tree_table.proofs.Slots.{seed-set, seed-same}
use Rattle.tree_table.proofs.make_seed.Goals as goal

pub returns-then-t-eq0 : goal.returns-then-t-eq0
returns-then-t-eq0 c = seed-set _ _ _

pub returns-else-t-eq0 : goal.returns-else-t-eq0
returns-else-t-eq0 c = seed-same _
