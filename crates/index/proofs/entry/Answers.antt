-- The proof that `entry` meets its contract.
use mathlib.Core.Path.{◌≡◌, ◌∙◌}
use native.Mathlib.Omega.{arith}
use Rattle.std.proofs.lemmas.Result.{err_from_is_err_and}
use Rattle.format.specs.Places.{body_in, entry_place, name_place, entry_name_place}
use Rattle.kinds.specs.Kinds.{width_of}
use Rattle.kinds.proofs.Laws.{width-most}
use Rattle.file_read.proofs.Room.{room_of}
use Rattle.answers.proofs.Laws.{item-none}
use Rattle.index.proofs.Views.{pick-none, entry_is, entry-refused}
use Rattle.index.proofs.Places.{name-place}
use Rattle.index.proofs.Entries.{shown-again}
use Rattle.index.proofs.entry.Goals as goal

pub returns-in_err-parts : goal.returns-in_err-parts
returns-in_err-parts c =
    let a = c.args in
    let p = err_from_is_err_and c.from_residual.result c.from_residual.ensures.1 in
    rw (p.1, p.2) (entry-refused _ _ _ a.file.now _ _ a.work.now _ (entry_is _ a.k _ _ c.in_err-parts.ensures.0) c.read_cleared.ensures.1)

pub returns-then-parts-k : goal.returns-then-parts-k
returns-then-parts-k c =
    let a = c.args in
    let h = c.in_ok-parts.ensures.0 in
    (entry-refused _ 18 0 a.file.now _ _ a.work.now _
    (entry_is _ a.k _ _ h.read ∙ pick-none _ _ (item-none h.contents.records.entries a.k (omega (arith, h.counted, c.if-parts-k.true)))) c.read_cleared.ensures.1)

pub show_entry-requires : goal.show_entry-requires
show_entry-requires c =
    let h = c.in_ok-parts.ensures.0 in
    let room = room_of _ _ _ _ h.read in
    rw c.width_of.ensures.0 (record { least = h.least; most = h.most; room = omega arith }, width-most _)

pub returns : goal.returns
returns c =
    let a = c.args in
    let h = c.in_ok-parts.ensures.0 in
    let room = room_of _ _ _ _ h.read in
    let same : name_place (width_of a.kind) (entry_place (width_of a.kind) c.in_ok-parts.parts.version a.k (body_in (width_of a.kind) a.file.now)) (body_in (width_of a.kind) a.file.now) ≡ entry_name_place (width_of a.kind) a.k a.file.now =
    name-place _ _ _ _ h a.k in
    rw (← same) (shown-again _ _ _ a.file.now a.work.now _ _ _ _ (entry_is _ a.k _ _ h.read ∙ rw h.version)
    (rw c.width_of.ensures.0 at c.show_entry.ensures _ _ _ h.entries c.if-parts-k.false) c.read_cleared.ensures.1 room)
