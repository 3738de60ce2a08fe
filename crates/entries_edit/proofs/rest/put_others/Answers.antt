-- The proof that `put_others` meets its contract.
use native.Mathlib.Omega.{arith}
use Rattle.entries_edit.proofs.rest.put_others.Goals as goal

pub put_replaced-requires : goal.put_replaced-requires
put_replaced-requires c =
    (c.requires.0, c.requires.1, c.requires.2, rw c.if-there.true at c.requires.4, c.requires.5, omega arith)

pub returns-then-there : goal.returns-then-there
returns-then-there c =
    rw c.if-there.true (c.put_replaced.ensures _)

pub returns : goal.returns
returns c =
    rw c.if-there.false c.put_after.ensures
