-- The proof that `put_key` meets its contract.
use native.Mathlib.Omega.{arith}
use Rattle.tree_search.proofs.Tables.{set-cell, vacant-stays, known-stays}
use Rattle.tree_search.proofs.table.put_key.Goals as goal

pub returns : goal.returns
returns c =
    let slot = c.slot_of-i.ensures in (
      omega arith,
      vacant-stays _ _ _ (set-cell _ _ _ _ (omega arith) (omega arith)) c.requires,
      λ w. known-stays _ _ _ (set-cell _ _ _ _ (omega arith) (omega arith)) c.requires,
    )
