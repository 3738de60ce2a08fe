-- The proof that `put_rest` meets its contract.
use native.Mathlib.Omega.{arith}
use Rattle.entries_write.proofs.Words.{rest-short, rest-long}
use Rattle.format.specs.Names.{length_field}
use Rattle.format_laws.proofs.Numbers.{length-put16}
use Rattle.entries_write.proofs.put_rest.Goals as goal

pub overflow_add-flags : goal.overflow_add-flags
unfolding length_field
overflow_add-flags c = let f = c.length_field.ensures in omega arith

pub put_name-requires : goal.put_name-requires
put_name-requires c =
    let two = rw length-put16 at c.put_16-end.ensures.end in
    (omega arith, omega arith, c.requires.2)

pub returns-then-word-eq0 : goal.returns-then-word-eq0
returns-then-word-eq0 c =
    let field = c.length_field.ensures in
    rest-short _ _ _ _ _ _ _ _ _ _ _ _ _ c.if-word-eq0.true (rw field at c.put_16-end.ensures) c.put_name.ensures

pub overflow_add-flags-2 : goal.overflow_add-flags-2
unfolding length_field
overflow_add-flags-2 c = let f = c.length_field.ensures in omega arith

pub put_16-end-requires-2 : goal.put_16-end-requires-2
put_16-end-requires-2 c = let two = rw length-put16 at c.put_16-middle.ensures.end in omega arith

pub put_name-requires-2 : goal.put_name-requires-2
put_name-requires-2 c =
    let two = rw length-put16 at c.put_16-middle.ensures.end in
    let four = rw length-put16 at c.put_16-end-2.ensures.end in
    (omega arith, omega arith, c.requires.2)

pub returns : goal.returns
returns c =
    let field = c.length_field.ensures in
    rest-long _ _ _ _ _ _ _ _ _ _ _ _ _ _ _ c.if-word-eq0.false (rw field at c.put_16-middle.ensures) c.put_16-end-2.ensures c.put_name-2.ensures
