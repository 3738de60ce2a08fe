-- The proof that `word` meets its contract.
use native.Mathlib.Omega.{arith}
use Rattle.fields.proofs.Laws.{little-eight}
use Rattle.fields.proofs.word.Goals as goal

pub returns : goal.returns
returns c = omega (arith, little-eight c.args.s.now c.args.at)
