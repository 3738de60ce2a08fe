-- The proof that `is_of` meets its contract.
use mathlib.Core.Path.{sym, ◌∙◌}
use borrow.Author.Tests.{eq-eqb, ne_eqb}
use Rattle.tree_table.specs.Keys.{is_of}
use Rattle.tree_table.proofs.is_of.Goals as goal

pub returns-then-k-eq0 : goal.returns-then-k-eq0
unfolding is_of
returns-then-k-eq0 c = rw (eq-eqb _ _ c.if-k-eq0.true)

pub returns-then-place_of-at : goal.returns-then-place_of-at
unfolding is_of
returns-then-place_of-at c = rw (ne_eqb _ _ c.if-k-eq0.false, eq-eqb _ _ (sym c.place_of.ensures ∙ c.if-place_of-at.true))

pub returns : goal.returns
unfolding is_of
returns c = rw (ne_eqb _ _ c.if-k-eq0.false, ne_eqb _ _ (λ e. c.if-place_of-at.false (c.place_of.ensures ∙ e)))
