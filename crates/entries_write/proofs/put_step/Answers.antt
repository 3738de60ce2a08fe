-- The proof that `put_step` meets its contract.
use native.Mathlib.Omega.{arith}
use Rattle.format.specs.Bytes.{Bytes}
use Rattle.entries_write.proofs.Words.{fixed-end, entry-wrote}
use Rattle.entries_write.proofs.put_step.Goals as goal

pub put_rest-requires : goal.put_rest-requires
put_rest-requires c =
    let a = c.args in
    let end = fixed-end _ a.b.now _ _ a.from _ _ c.requires.1 c.requires.6 c.put_part-middle.ensures in
    (omega arith, omega arith, rw c.name_at-name.ensures c.requires.5, c.requires.6)

pub returns : goal.returns
returns c =
    let a = c.args in
    let bytes : Bytes a.b.now = λ i. omega (arith, c.type_inv.b i) in
    entry-wrote _
    a.b.now
    _
    _
    a.from
    _
    _
    c.requires.1
    c.requires.6
    c.put_part-middle.ensures
    a.v
    a.work.now
    a.flags
    a.word
    a.start
    a.len
    _
    _
    _
    _
    _
    _
    c.name_at-name.ensures
    bytes
    c.put_rest.ensures
