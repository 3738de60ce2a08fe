-- The proof that `component_ok` meets its contract.
use mathlib.Core.Path.{sym, ◌∙◌}
use Rattle.format.specs.Names.{ok_component}
use Rattle.fields.proofs.Laws.{long-component}
use Rattle.fields.proofs.component_ok.Goals as goal

pub returns-then-c-gt4 : goal.returns-then-c-gt4
returns-then-c-gt4 c = sym (long-component _ c.if-c-gt4.true)

pub returns-then-same : goal.returns-then-same
unfolding ok_component
returns-then-same c = rw (sym c.same.ensures ∙ c.if-same.true)

pub returns-then-same-2 : goal.returns-then-same-2
unfolding ok_component
returns-then-same-2 c =
    rw (sym c.same.ensures ∙ c.if-same.false, sym c.same-2.ensures ∙ c.if-same-2.true)

pub returns-then-same-3 : goal.returns-then-same-3
unfolding ok_component
returns-then-same-3 c =
    rw (sym c.same.ensures ∙ c.if-same.false, sym c.same-2.ensures ∙ c.if-same-2.false, sym c.same-3.ensures ∙ c.if-same-3.true)

pub returns-then-same-4 : goal.returns-then-same-4
unfolding ok_component
returns-then-same-4 c =
    rw (
      sym c.same.ensures ∙ c.if-same.false,
      sym c.same-2.ensures ∙ c.if-same-2.false,
      sym c.same-3.ensures ∙ c.if-same-3.false,
      sym c.same-4.ensures ∙ c.if-same-4.true,
    )

pub returns : goal.returns
unfolding ok_component
returns c =
    rw (
      sym c.same.ensures ∙ c.if-same.false,
      sym c.same-2.ensures ∙ c.if-same-2.false,
      sym c.same-3.ensures ∙ c.if-same-3.false,
      sym c.same-4.ensures ∙ c.if-same-4.false,
    )
