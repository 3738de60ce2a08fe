-- The proof that `read_cleared` meets its contract.
use mathlib.Core.Path.{sym}
use Rattle.kinds.specs.Kinds.{read_kind}
use Rattle.answers.proofs.Laws.{cleared-small}
use Rattle.file_read.proofs.Room.{cleared_by, in-room, no_room}
use Rattle.file_read.proofs.read_cleared.Goals as goal

pub returns-then-work-lt-LONGEST : goal.returns-then-work-lt-LONGEST
returns-then-work-lt-LONGEST c = rw c.at.ensures (no_room _ _ c.if-work-lt-LONGEST.true, sym (cleared-small _ c.if-work-lt-LONGEST.true))

pub returns : goal.returns
returns c =
    let a = c.args in (
      rw (in-room a.work.now (read_kind a.kind a.file.now) c.if-work-lt-LONGEST.false) c.read_whole-whole.ensures.0,
      cleared_by a.work.now _ _ c.if-work-lt-LONGEST.false c.read_whole-whole.ensures.1 c.clear_from.ensures,
    )
