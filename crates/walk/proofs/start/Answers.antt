-- The proof that `start` meets its contract.
use mathlib.Core.Path.{sym}
use Rattle.std.proofs.lemmas.Result.{err_from_is_err_and}
use Rattle.walk.proofs.Starts.{start_is, starts-four, starts-ready}
use Rattle.walk.proofs.start.Goals as goal

pub returns-in_err-parts : goal.returns-in_err-parts
returns-in_err-parts c =
    let p = err_from_is_err_and c.from_residual.result c.from_residual.ensures.1 in
    (rw (p.1, p.2) (sym (start_is _ _ _ c.in_err-parts.ensures.0)), c.read_cleared.ensures.1)

pub returns-then-parts-eq4 : goal.returns-then-parts-eq4
returns-then-parts-eq4 c =
    (rw c.at.ensures (sym (starts-four _ _ _ _ _ c.in_ok-parts.ensures.0 c.if-parts-eq4.true)), c.read_cleared.ensures.1)

pub returns : goal.returns
returns c = (sym (starts-ready _ _ _ _ _ c.in_ok-parts.ensures.0 c.if-parts-eq4.false), c.read_cleared.ensures.1)
