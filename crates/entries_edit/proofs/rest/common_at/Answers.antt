-- The proof that `common_at` meets its contract.
use Rattle.entries_edit.proofs.rest.common_at.Goals as goal

pub returns : goal.returns
returns c = rw c.name_at.ensures at c.common.ensures.0
