-- The proof that `rewrite` meets its contract.
use native.Mathlib.Omega.{arith}
use Rattle.answers.specs.Writing.{rewrite_answer}
use Rattle.demands.proofs.Written.{rewritten}
use Rattle.index_write.proofs.rewrite.Goals as goal

pub save-requires : goal.save-requires
save-requires c = (omega arith, rw c.no_fields.ensures (omega arith))

pub returns : goal.returns
unfolding rewrite_answer
returns c =
    let a = c.args in
    record { writes = c.save.ensures; back = rewritten a.kind a.work.now a.file.now a.asked _ (λ i. omega (arith, c.type_inv.file i)) }
