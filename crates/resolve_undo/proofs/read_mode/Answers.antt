-- The proof that `read_mode` meets its contract.
use mathlib.Core.Path.{sym, ◌∙◌}
use Prim.Native.Nat.{◌<◌}
use native.Mathlib.Omega.{arith}
use lib.ListN.{length}
use Rattle.resolve_undo.proofs.Laws.{mode-none, mode-bad, mode-good}
use Rattle.resolve_undo.proofs.read_mode.Goals as goal

pub returns-then-e-d : goal.returns-then-e-d
returns-then-e-d c =
    let a = c.args in
    (λ p. sym (mode-none a.at _ a.d.now c.find-e.ensures.0 c.requires p c.if-e-d.true), tt)

pub returns-in_err-mode : goal.returns-in_err-mode
returns-in_err-mode c =
    let a = c.args in
    let more : c.find-e.result < length a.d.now = omega arith in
    rw c.from_residual.ensures
    (λ p. sym (mode-bad a.at _ a.d.now c.find-e.ensures.0 c.requires p more (sym c.mode_in.ensures ∙ c.in_err-mode.was)), tt)

pub returns : goal.returns
returns c =
    let a = c.args in
    let more : c.find-e.result < length a.d.now = omega arith in (
      λ p. sym (mode-good a.at _ a.d.now c.find-e.ensures.0 c.requires p more _ (sym c.mode_in.ensures ∙ c.in_ok-mode.was)),
      omega arith,
    )
