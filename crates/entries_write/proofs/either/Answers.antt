-- The proof that `either` meets its contract.
use mathlib.Core.Path.{refl}
use borrow.Author.Tests.{eq-eqb, ne_eqb}
use Rattle.format.specs.Reader.{is_set}
use Rattle.entries_write.proofs.either.Goals as goal

pub returns-then-word-eq1 : goal.returns-then-word-eq1
unfolding is_set
returns-then-word-eq1 c = rw (c.if-extended.false, eq-eqb _ _ c.if-word-eq1.true) refl

pub returns : goal.returns
unfolding is_set
returns c = rw (c.if-extended.false, ne_eqb _ _ c.if-word-eq1.false) refl
