-- The proof that `put_with` meets its contract.
use mathlib.Core.Path.{◌∙◌}
use Prim.Native.Nat.{◌≤◌}
use native.Mathlib.Omega.{arith}
use Rattle.fields.proofs.Workspace.{frame_then}
use Rattle.entries_run.proofs.Steps.{inside-first, readable-first}
use Rattle.entries.specs.Record.{entry_with}
use Rattle.entries_edit.proofs.Rests.{cursor-kept}
use Rattle.entries_edit.proofs.Edits.{readable-rest, put_word, with-written}
use Rattle.entries_edit.proofs.put_with.Goals as goal

pub put_entries-front-requires : goal.put_entries-front-requires
put_entries-front-requires c =
    let a = c.args in
    rw c.first-start.ensures (inside-first a.b.now a.work.now c.requires.0, omega arith, omega arith, readable-first _ _ a.count _ a.b.now _ (omega arith) c.requires.5, omega arith)

pub put_record-middle-requires : goal.put_record-middle-requires
put_record-middle-requires c =
    let a = c.args in
    let front = c.put_entries-front.ensures in
    let near = front.bounds.near in
    let long = front.bounds.frame in
    let kept = cursor-kept _ a.b.now _ _ a.name.now front.inside (omega arith) c.requires.3 c.common_at-kept.ensures in
    (omega arith, c.requires.2, kept, omega arith)

pub put_others-rest-requires : goal.put_others-rest-requires
put_others-rest-requires c =
    let front = c.put_entries-front.ensures in
    let near = front.bounds.near in
    let long = front.bounds.frame in
    let one = c.put_record-middle.ensures.near in
    let few : c.args.k ≤ c.args.count = omega (arith, c.requires.1) in
    let first = rw c.first-start.ensures at front in
    (omega arith, front.inside, omega arith, c.requires.3, omega arith, readable-rest c.args.count few first c.requires.5, omega arith)

pub shape_of-work : goal.shape_of-work
shape_of-work c =
    (frame_then c.put_entries-front.ensures.bounds.frame c.put_others-rest.ensures.bounds.frame).long

pub shape_of-out : goal.shape_of-out
shape_of-out c =
    c.put_others-rest.ensures.bounds.out_long ∙ c.put_record-middle.auto.out ∙ c.put_entries-front.ensures.bounds.out_long

pub returns : goal.returns
returns c =
    let a = c.args in
    let front = rw c.first-start.ensures at c.put_entries-front.ensures in
    let long = front.bounds.frame in
    let word = put_word a.w a.fields a.name.now c.put_entries-front.result.extended c.put_others-rest.result.extended in
    let x = c.put_record-middle in
    with-written a.count (omega (arith, c.requires.1)) front (entry_with a.w a.fields a.name.now) a.there (omega (arith, c.requires.0.room))
    c.common_at-kept.ensures x.ensures x.auto.out c.put_others-rest.ensures word
