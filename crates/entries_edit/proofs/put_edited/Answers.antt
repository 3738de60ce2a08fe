-- The proof that `put_edited` meets its contract.
use native.Mathlib.Omega.{arith}
use Rattle.entries_edit.proofs.put_edited.Goals as goal

pub put_with-requires : goal.put_with-requires
put_with-requires c =
    (c.requires.0, rw c.in-Put.is at c.requires.1, c.requires.2, c.requires.3, c.requires.4, c.requires.5, omega arith)

pub put_without-requires : goal.put_without-requires
put_without-requires c =
    (c.requires.0, rw c.in-Remove.is at c.requires.1, c.requires.4, c.requires.5, omega arith)

pub returns-in-Keep : goal.returns-in-Keep
returns-in-Keep c =
    rw c.in-Keep.is (c.put_kept.ensures _)

pub returns-in-Put : goal.returns-in-Put
returns-in-Put c =
    rw c.in-Put.is c.put_with.ensures

pub returns-in-Remove : goal.returns-in-Remove
returns-in-Remove c =
    rw c.in-Remove.is (c.put_without.ensures _)
