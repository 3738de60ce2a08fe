-- The proof that `read_modes` meets its contract: each mode is read, and what is read after it is what is answered.
use native.Mathlib.Omega.{arith}
use Rattle.format.specs.Reader.{read_stages}
use Rattle.std.specs.Prelude as Code
use Rattle.resolve_undo.specs.declared.Record.{Record}
use Rattle.resolve_undo.specs.Answers.{with_mode, read_modes, RestRead}
use Rattle.resolve_undo.proofs.Laws.{mode-within, no_mode, after-mode}
use Rattle.resolve_undo.proofs.read_modes.Goals as goal
use Rattle.resolve_undo.proofs.read_modes.Goals.{In_ok-first, In_ok-second}

-- what is answered, where r is read after the first mode, and after the second
after_first : (f : In_ok-first) (r : Code.Option Record) →
    let a = f.args in
    RestRead a.w f.in_ok-first.second_at a.size a.d.now (λ p path. with_mode p λ y. with_mode p λ z. read_stages a.w p path f.in_ok-first.first y z) r
    → RestRead a.w a.at a.size a.d.now (λ p path. read_modes a.w p path) r
unfolding read_modes
after_first f r rest = after-mode _ _ _ _ _ _ f.read_mode.ensures _ _ r f.in_ok-first.was rest

after-second : (s : In_ok-second) (r : Code.Option Record) →
    let a = s.args in
    RestRead a.w s.in_ok-second.third_at a.size a.d.now (λ p path. with_mode p λ z. read_stages a.w p path s.in_ok-first.first s.in_ok-second.second z) r
    → RestRead a.w a.at a.size a.d.now (λ p path. read_modes a.w p path) r
unfolding read_modes
after-second s r rest =
    after-mode _ _ _ _ _ _ s.read_mode.ensures _ _ r s.in_ok-first.was (after-mode _ _ _ _ _ _ s.read_mode-2.ensures _ _ r s.in_ok-second.was rest)

pub returns-in_err-first : goal.returns-in_err-first
unfolding read_modes
returns-in_err-first c = rw c.from_residual.ensures (no_mode _ _ _ _ _ _ c.read_mode.ensures c.in_err-first.was)

pub read_mode-requires-2 : goal.read_mode-requires-2
read_mode-requires-2 c = (mode-within _ _ _ _ _ c.read_mode.ensures.1 c.in_ok-first.was).1

pub returns-in_err-second : goal.returns-in_err-second
returns-in_err-second c =
    rw c.from_residual-in_err-second.ensures (after_first (goal.at.returns-in_err-second c).In_ok-first _ (no_mode _ _ _ _ _ _ c.read_mode-2.ensures c.in_err-second.was))

pub read_mode-requires-3 : goal.read_mode-requires-3
read_mode-requires-3 c = (mode-within _ _ _ _ _ c.read_mode-2.ensures.1 c.in_ok-second.was).1

pub returns-in_err-third : goal.returns-in_err-third
returns-in_err-third c =
    rw c.from_residual-in_err-third.ensures (after-second (goal.at.returns-in_err-third c).In_ok-second _ (no_mode _ _ _ _ _ _ c.read_mode-3.ensures c.in_err-third.was))

pub read_stages-requires : goal.read_stages-requires
read_stages-requires c =
    let within = mode-within _ _ _ _ _ c.read_mode-3.ensures.1 c.in_ok-third.was in
    omega arith

pub returns : goal.returns
returns c =
    after-second (goal.at.returns c).In_ok-second _ (after-mode _ _ _ _ _ _ c.read_mode-3.ensures _ _ _ c.in_ok-third.was c.read_stages.ensures)
