-- The proof that `put` meets its contract.
use mathlib.Core.Path.{refl}
use native.Mathlib.Omega.{arith}
use lib.Seq.{length-take-le}
use Rattle.kinds.specs.Kinds.{width_of}
use Rattle.kinds.proofs.Laws.{width-most}
use Rattle.entries.specs.Record.{entry_with}
use Rattle.answers.specs.Writing.{put_answer}
use Rattle.demands.proofs.Written.{put_in}
use Rattle.index_write.proofs.put.Goals as goal

pub returns : goal.returns
unfolding put_answer
returns c =
    let a = c.args in
    record {
      writes = c.save.ensures;
      back =
          put_in a.kind a.work.now a.file.now a.asked _ (λ i. omega (arith, c.type_inv.file i)) (entry_with (width_of a.kind) a.fields a.name.now) refl c.typed.ensures.numbers
          (length-take-le (width_of a.kind) a.fields.object (omega (arith, width-most a.kind, c.typed.ensures.object)));
    }
