-- The proof that `put_bytes` meets its contract.
use mathlib.Core.Path.{refl}
use native.Mathlib.Omega.{arith}
use borrow.Author.Rules.{rules}
use Rattle.output.specs.Output.{with_at}
use Rattle.output.proofs.Laws.{wrote-past}
use Rattle.output.proofs.put_bytes.Goals as goal

pub returns-then-out-end : goal.returns-then-out-end
returns-then-out-end c = wrote-past _ _ _ _ refl (omega arith)

pub returns : goal.returns
unfolding with_at
returns c = record { end = refl; long = search rules; held = λ h. c.copy_to.ensures }
