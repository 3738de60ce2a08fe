-- The proof that `fields_at` meets its contract.
use Rattle.entries.proofs.Fields.{fields_read}
use native.Mathlib.Omega.{arith}
use Rattle.entries.proofs.record.fields_at.Goals as goal

pub returns : goal.returns
returns c =
    let a = c.args in
    rw (
      c.object_at.ensures,
      c.read32-10.ensures,
      c.read32-9.ensures,
      c.read32-8.ensures,
      c.read32-7.ensures,
      c.read32-6.ensures,
      c.read32-5.ensures,
      c.read32-4.ensures,
      c.read32-3.ensures,
      c.read32-2.ensures,
      c.read32.ensures,
    )
    (fields_read a.w a.b.now a.at a.flags a.word (omega arith))
