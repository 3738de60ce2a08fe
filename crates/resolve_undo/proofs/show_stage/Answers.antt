-- The proof that `show_stage` meets its contract.
use native.Mathlib.Omega.{arith}
use Rattle.resolve_undo.proofs.Laws.{missing-object, wide-zeros, there-length, there-object}
use Rattle.resolve_undo.proofs.show_stage.Goals as goal

pub returns-then-mode-eq0 : goal.returns-then-mode-eq0
returns-then-mode-eq0 c = rw (missing-object _ _ _ c.if-mode-eq0.true, wide-zeros _ c.requires.1)

pub object_at-object-requires : goal.object_at-object-requires
object_at-object-requires c =
    let a = c.args in
    omega (arith, there-length a.w a.mode c.if-mode-eq0.false)

pub returns : goal.returns
returns c = rw (c.object_at-object.ensures, there-object _ _ _ c.if-mode-eq0.false)
