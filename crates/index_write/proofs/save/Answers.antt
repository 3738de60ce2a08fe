-- The proof that `save` meets its contract.
use Rattle.std.proofs.lemmas.Result.{err_from_is_err_and}
use Rattle.format.specs.Places.{body_in}
use Rattle.kinds.specs.Kinds.{width_of, read_kind}
use Rattle.answers.specs.Answers.{in_room}
use Rattle.file_read.specs.Contents.{Contains}
use Rattle.index_write.proofs.Answers.{call-refused, call-opened, call-answered}
use Rattle.index_write.proofs.save.Goals as goal
use Rattle.index_write.proofs.save.Goals.{In_ok-parts}

-- the file is accepted
accepted :
    (c : In_ok-parts) →
    let a = c.args in
    Contains (width_of a.kind) (in_room a.work.now (read_kind a.kind a.file.now)) (body_in (width_of a.kind) a.file.now) c.in_ok-parts.parts
accepted c = c.in_ok-parts.ensures.0

pub save_read-requires : goal.save_read-requires
save_read-requires c =
    let o = call-opened _ _ _ _ c.read_cleared.ensures.1 _ (accepted (goal.at.save_read-requires c).In_ok-parts) in
    (o.0, o.1, c.requires)

pub returns-in_err-parts : goal.returns-in_err-parts
returns-in_err-parts c =
    let error = err_from_is_err_and c.from_residual.result c.from_residual.ensures.1 in
    rw (error.1, error.2) (call-refused _ _ _ _ c.in_err-parts.ensures.1 _ _ _ _ c.in_err-parts.ensures.0)

pub returns : goal.returns
returns c =
    call-answered _ _ _ _ c.read_cleared.ensures.1 _ (accepted (goal.at.returns c).In_ok-parts) _ _ _ _ _ c.save_read.ensures
