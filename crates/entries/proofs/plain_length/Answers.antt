-- The proof that `plain_length` meets its contract.
use native.Mathlib.Omega.{arith}
use borrow.Author.Tests.{lt-ltb, le-ltb}
use Rattle.format.specs.Reader.{plain_length}
use Rattle.entries.proofs.plain_length.Goals as goal

pub returns-then-field-lt4095 : goal.returns-then-field-lt4095
unfolding plain_length
returns-then-field-lt4095 c = (rw (lt-ltb _ _ c.if-field-lt4095.true), omega arith)

pub returns : goal.returns
unfolding plain_length
returns c = rw (le-ltb _ _ c.if-field-lt4095.false) (omega arith)
