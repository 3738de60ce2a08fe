-- The proof that `remove` meets its contract.
use native.Mathlib.Omega.{arith}
use Rattle.answers.specs.Writing.{remove_answer}
use Rattle.demands.proofs.Written.{removed}
use Rattle.index_write.proofs.remove.Goals as goal

pub save-requires : goal.save-requires
save-requires c = rw c.no_fields.ensures (omega arith)

pub returns : goal.returns
unfolding remove_answer
returns c =
    let a = c.args in
    record { writes = c.save.ensures; back = removed a.kind a.work.now a.file.now a.asked _ (λ i. omega (arith, c.type_inv.file i)) (record { name = a.name.now; stage = a.stage }) }
