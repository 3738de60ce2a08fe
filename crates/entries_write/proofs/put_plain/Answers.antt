-- The proof that `put_plain` meets its contract.
use native.Mathlib.Omega.{arith}
use Rattle.entries_write.proofs.Names.{plain-wrote}
use Rattle.entries_write.proofs.put_plain.Goals as goal

pub returns : goal.returns
returns c =
    let size = c.entry_length-all.ensures in
    plain-wrote _ _ _ _ _ _ _ _ _ size.0 size.2 (omega arith) c.put_bytes-end.ensures c.put_nuls.ensures
