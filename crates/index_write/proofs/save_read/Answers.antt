-- The proof that `save_read` meets its contract.
use mathlib.Core.Path.{sym, ◌∙◌}
use Rattle.kinds.specs.Kinds.{read_kind}
use Rattle.answers.proofs.Laws.{cleared-same}
use Rattle.file_read.proofs.Room.{cleared_by}
use Rattle.index_write.proofs.Answers.{writes-bad, writes_as}
use Rattle.index_write.proofs.Plans.{request-refused}
use Rattle.index_write.proofs.save_read.Goals as goal

pub returns-in-Err : goal.returns-in-Err
returns-in-Err c =
    let r = c.plan_for-plan.ensures in
    let refuses = rw c.in-Err.is at r.is in
    rw c.at-in-Err.ensures (writes-bad _ _ 0 _ _ _ (refuses.is _ _ (sym c.asked_ok.ensures ∙ c.if-not-asked_ok.false)) (cleared_by _ _ _ c.requires.0.room r.frame c.clear.ensures))

pub write_edited-requires : goal.write_edited-requires
write_edited-requires c =
    let changes = rw c.in-Ok.is at c.plan_for-plan.ensures.is in
    changes.planned

pub returns-in-Ok : goal.returns-in-Ok
returns-in-Ok c =
    let r = c.plan_for-plan.ensures in
    let changes = rw c.in-Ok.is at r.is in
    let h = changes.planned.opened.contains in
    writes_as _ _ _ _ _ _ _ _ (changes.is _ _ (sym c.asked_ok.ensures ∙ c.if-not-asked_ok.false)) (cleared-same _ _ c.requires.0.room r.frame)
    (c.write_edited.ensures h.contents h.taken h.read)

pub returns-then-not-asked_ok : goal.returns-then-not-asked_ok
returns-then-not-asked_ok c =
    let h = c.requires.0.contains in
    rw c.at.ensures (writes-bad _ 4 0 _ _ _ (request-refused c.args.kind c.args.request (read_kind c.args.kind c.args.file.now) h.contents h.taken h.read _ _ _ _ (sym c.asked_ok.ensures ∙ c.if-not-asked_ok.true)) c.requires.1)
