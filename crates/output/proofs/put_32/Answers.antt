-- The proof that `put_32` meets its contract.
use native.Mathlib.Omega.{arith}
use Rattle.format.specs.Bytes.{put16, put32}
use Rattle.output.proofs.Laws.{wrote_then}
use Rattle.output.proofs.put_32.Goals as goal

pub put_16-requires : goal.put_16-requires
unfolding put16
put_16-requires c = omega arith

pub returns : goal.returns
unfolding put32
returns c = wrote_then _ _ _ _ _ _ _ _ c.put_16-middle.ensures c.put_16.ensures
