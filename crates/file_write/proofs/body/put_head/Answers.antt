-- The proof that `put_head` meets its contract.
use Rattle.output.proofs.Laws.{wrote_then}
use Rattle.file_write.proofs.body.put_head.Goals as goal

pub returns : goal.returns
returns c =
    wrote_then _ _ _ _ _ _ _ _ c.put_bytes-middle.ensures c.put_32.ensures
