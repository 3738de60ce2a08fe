-- The proof that `put_byte` meets its contract.
use mathlib.Core.Path.{refl}
use native.Mathlib.Omega.{arith}
use Rattle.output.proofs.Laws.{wrote-past, wrote-byte}
use Rattle.output.proofs.put_byte.Goals as goal

pub returns-then-out-at : goal.returns-then-out-at
returns-then-out-at c = wrote-past _ _ _ _ refl (omega arith)

pub returns : goal.returns
returns c = wrote-byte _ _ _ (omega arith)
