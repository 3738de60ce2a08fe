-- The proof that `pass_plain` meets its contract.
use Rattle.std.proofs.lemmas.Result.{err_from_is_err_and}
use Rattle.entries_run.proofs.PlainRests.{plain-unread, plain-passed}
use Rattle.entries_run.proofs.pass_plain.Goals as goal

pub returns-in_err-t : goal.returns-in_err-t
returns-in_err-t c =
    let a = c.args in
    let error = err_from_is_err_and c.from_residual.result c.from_residual.ensures.1 in
    rw (error.1, error.2) (λ w v work head old. plain-unread _ v a.b.now work old a.c a.h _ c.in_err-t.ensures)

pub returns : goal.returns
returns c =
    λ w v work head old.
    rw c.step_of.ensures
    (plain-passed _ v c.args.b.now work old c.args.c c.args.h _ _ _ c.requires c.in_ok-t.ensures c.common-k.ensures.0 head)
