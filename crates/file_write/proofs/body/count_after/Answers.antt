-- The proof that `count_after` meets its contract.
use native.Mathlib.Omega.{arith}
use Rattle.file_write.proofs.body.count_after.Goals as goal

pub overflow_sub-result : goal.overflow_sub-result
overflow_sub-result c = omega (arith, rw c.in-Remove.is at c.requires.0)

pub returns-else-there : goal.returns-else-there
returns-else-there c = rw (c.in-Put.is, c.if-there.false)

pub returns-in-Remove : goal.returns-in-Remove
returns-in-Remove c = rw c.in-Remove.is
