-- The proof that `read_whole` meets its contract.
use mathlib.Core.Path.{◌≡◌, sym, ◌∙◌}
use native.Mathlib.Omega.{arith}
use lib.Seq.{length-take-le}
use Rattle.std.proofs.lemmas.Result.{err_from_is_err_and}
use Rattle.fields.proofs.Workspace.{frame_same}
use Rattle.format.specs.Reader.{read_file}
use Rattle.kinds.specs.Kinds.{width_of, hash_of, read_kind}
use Rattle.kinds.proofs.Laws.{width-most, known-file, unknown-file}
use Rattle.file_read.specs.Header.{Opened}
use Rattle.file_read.proofs.Room.{body-room}
use Rattle.file_read.proofs.read_whole.Goals as goal
use Rattle.file_read.proofs.read_whole.Goals.{Else-not-is_known, In_ok-header}

-- the header is accepted
opened : (c : In_ok-header) →
    let a = c.args in
    Opened (width_of a.kind) (hash_of a.kind) a.file.now c.in_ok-header.header
opened c = rw c.width_of-w.ensures.0 at c.in_ok-header.ensures

pub overflow_sub-n : goal.overflow_sub-n
overflow_sub-n c =
    let h = opened c in
    omega (arith, h.long, c.width_of-w.ensures.0)

pub slice_bounds-read_body-end : goal.slice_bounds-read_body-end
slice_bounds-read_body-end c =
    sym (length-take-le _ c.args.file.now (omega arith))

pub read_body-requires : goal.read_body-requires
read_body-requires c =
    let h = opened (goal.at.read_body-requires c).In_ok-header in
    let width = c.width_of-w.ensures in
    rw width.0 (body-room _ c.args.file.now _ h.long h.short c.requires, h.counted, omega arith, width-most c.args.kind)

pub returns-then-not-is_known : goal.returns-then-not-is_known
returns-then-not-is_known c =
    let a = c.args in
    rw c.at.ensures (unknown-file a.kind a.file.now (sym c.is_known.ensures ∙ c.if-not-is_known.true), frame_same _)

-- the kind is known
known : (c : Else-not-is_known) → let a = c.args in read_kind a.kind a.file.now ≡ read_file (width_of a.kind) (hash_of a.kind) a.file.now
known c =
    let a = c.args in
    known-file a.kind a.file.now (sym c.is_known.ensures ∙ c.if-not-is_known.false)

pub returns-in_err-header : goal.returns-in_err-header
returns-in_err-header c =
    let width = c.width_of-w.ensures.0 in
    let error = err_from_is_err_and c.from_residual.result c.from_residual.ensures.1 in
    rw (error.1, error.2) (known (goal.at.returns-in_err-header c).Else-not-is_known ∙ rw width at c.in_err-header.ensures, frame_same _)

pub returns : goal.returns
returns c =
    let h = opened (goal.at.returns c).In_ok-header in
    let width = c.width_of-w.ensures.0 in
    (rw (known (goal.at.returns c).Else-not-is_known, h.read, ← width) (c.read_body.ensures.0 _ (rw width h.checked)), c.read_body.ensures.1)
