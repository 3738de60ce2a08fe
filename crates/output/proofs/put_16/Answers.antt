-- The proof that `put_16` meets its contract.
use Rattle.format.specs.Bytes.{put16}
use Rattle.output.proofs.Laws.{wrote_then}
use Rattle.output.proofs.put_16.Goals as goal

pub returns : goal.returns
unfolding put16
returns c = wrote_then _ _ _ _ _ _ _ _ c.put_byte-middle.ensures c.put_byte.ensures
