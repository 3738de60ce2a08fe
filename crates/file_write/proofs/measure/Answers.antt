-- The proof that `measure` meets its contract.
use mathlib.Core.Path.{◌∙◌}
use native.Mathlib.Omega.{arith}
use Rattle.file_write.proofs.measure.Goals as goal

pub returns : goal.returns
returns c =
    let q = c.put_body.ensures in
    record {
      size = λ x has there. (q.wrote x has there).end ∙ omega arith;
      extended = q.extended;
      near = q.near;
      frame = q.frame;
    }
