-- The proof that `head_at` meets its contract.
use mathlib.Core.Path.{sym, ap, ◌∙◌}
use Rattle.format.specs.Refusals.{numbered}
use Rattle.format_laws.proofs.Tests.{false-true}
use Rattle.entries.proofs.Before.{head-size}
use Rattle.entries_run.proofs.head_at.Goals as goal

pub returns-then-again : goal.returns-then-again
returns-then-again c =
    let t = c.pass_fixed.ensures in
    record { first = λ e. false-true (sym e ∙ c.if-again.true); later = λ e. t; sized = t.sized; there = t.there }

pub returns : goal.returns
returns c =
    let (is, there) = c.read_fixed.ensures in
    record { first = λ e. is; later = λ e. false-true (sym c.if-again.false ∙ e); sized = λ h q. head-size _ _ 0 _ h (sym (is 0) ∙ ap numbered q); there = there }
