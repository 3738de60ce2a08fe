-- The proof that `add_undo` meets its contract.
use mathlib.Core.Path.{sym, ◌∙◌}
use Rattle.extensions.proofs.Known.{known-seen, not_some, undo-refused, undo-added}
use Rattle.extensions.proofs.add_undo.Goals as goal

pub returns-then-is_some : goal.returns-then-is_some
returns-then-is_some c = (known-seen _ _ _ _ (sym c.is_some.ensures ∙ c.if-is_some.true), tt)

pub returns-in_default : goal.returns-in_default
returns-in_default c =
    let a = c.args in
    (undo-refused _ a.b.now a.at a.end c.requires.0 a.found (not_some _ _ c.is_some.ensures c.if-is_some.false) (sym c.in_default.is ∙ c.read_undos.ensures a.at), tt)

pub returns : goal.returns
returns c =
    let a = c.args in
    (undo-added _ a.b.now a.at a.end c.requires.0 a.found (not_some _ _ c.is_some.ensures c.if-is_some.false) _ (sym c.in-Some.is ∙ c.read_undos.ensures a.at), c.requires.0)
