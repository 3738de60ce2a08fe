-- The proof that `check` meets its contract.
use mathlib.Core.Path.{sym, ◌∙◌}
use Rattle.std.proofs.lemmas.Result.{err_from_is_err_and}
use Rattle.index.proofs.Views.{check-is}
use Rattle.index.proofs.Summaries.{check-says}
use Rattle.index.proofs.check.Goals as goal

pub returns-in_err-parts : goal.returns-in_err-parts
returns-in_err-parts c =
    let p = err_from_is_err_and c.from_residual.result c.from_residual.ensures.1 in
    (rw (p.1, p.2) (sym (check-is _ 0 _ _ c.in_err-parts.ensures.0)), c.read_cleared.ensures.1)

pub returns : goal.returns
returns c =
    let h = c.in_ok-parts.ensures.0 in
    (rw (c.count_of.ensures, c.count_of-2.ensures) (check-says _ _ _ _ h ∙ sym (check-is _ 0 _ _ h.read)), c.read_cleared.ensures.1)
