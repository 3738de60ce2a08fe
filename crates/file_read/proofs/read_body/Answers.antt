-- The proof that `read_body` meets its contract.
use Rattle.std.proofs.lemmas.Result.{err_from_is_err_and}
use Rattle.fields.proofs.Workspace.{frame_then}
use Rattle.file_read.proofs.Bodies.{body-no-entries, body_refused, body-accepted}
use Rattle.file_read.proofs.read_body.Goals as goal

pub returns-in_err-end : goal.returns-in_err-end
returns-in_err-end c =
    let a = c.args in
    let error = err_from_is_err_and c.from_residual.result c.from_residual.ensures.1 in
    rw (error.1, error.2)
    ((λ sum _. body-no-entries _ a.v sum a.b.now a.count c.requires.1 _ c.in_err-end.ensures.same), c.in_err-end.ensures.frame)

pub returns-in_err-found : goal.returns-in_err-found
returns-in_err-found c =
    let a = c.args in
    let error = err_from_is_err_and c.from_residual-in_err-found.result c.from_residual-in_err-found.ensures.1 in
    rw (error.1, error.2) (
      (λ sum _. body_refused _ a.v sum a.b.now a.count c.requires.1 _ c.in_ok-end.ensures.same _ _ _ c.in_err-found.ensures),
      frame_then c.in_ok-end.ensures.frame c.read_extensions.ensures.frame,
    )

pub returns : goal.returns
returns c =
    let a = c.args in (
      λ sum is.
          rw is
          (body-accepted _ a.v sum a.b.now a.count c.requires.1 _ c.in_ok-end.ensures.same _ _ _
          c.requires.0.least c.requires.0.most c.in_ok-found.ensures),
      frame_then c.in_ok-end.ensures.frame c.read_extensions.ensures.frame,
    )
