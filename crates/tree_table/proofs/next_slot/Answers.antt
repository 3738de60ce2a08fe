-- The proof that `next_slot` meets its contract.
use native.Mathlib.Omega.{arith}
use Rattle.tree_table.specs.Keys.{next_slot}
use borrow.Author.Tests.{lt-ltb, le-ltb}
use Rattle.tree_table.proofs.next_slot.Goals as goal

pub returns-then-i-step : goal.returns-then-i-step
unfolding next_slot
returns-then-i-step c = (rw (lt-ltb _ _ c.if-i-step.true), c.if-i-step.true)

pub returns : goal.returns
unfolding next_slot
returns c = (rw (le-ltb _ _ c.if-i-step.false), omega arith)
