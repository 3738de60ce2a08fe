-- The proof that `stays` meets its contract.
use mathlib.Core.Path.{refl}
use borrow.Author.Tests.{eq-eqb, ne_eqb}
use Rattle.format.specs.Reader.{is_set}
use Rattle.entries_write.proofs.stays.Goals as goal

pub returns-then-flags-eq1 : goal.returns-then-flags-eq1
unfolding is_set
returns-then-flags-eq1 c = rw (eq-eqb _ _ c.if-flags-eq1.true) c.either.ensures

pub returns : goal.returns
unfolding is_set
returns c = rw (ne_eqb _ _ c.if-flags-eq1.false) refl
