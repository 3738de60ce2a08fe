-- The proof that `put_body` meets its contract.
use mathlib.Core.Path.{◌≡◌, sym, ap, ◌∙◌}
use native.Mathlib.Omega.{arith}
use Rattle.format.specs.Requests.{any_word}
use Rattle.entries.specs.Record.{entry_with}
use Rattle.file_write.proofs.Extensions.{header-length}
use Rattle.file_write.proofs.Bodies.{count_is, changed-entries, body-wrote}
use Rattle.file_write.proofs.body.put_body.Goals as goal
use Rattle.file_write.proofs.body.put_body.Goals.{After-out-1, After-put_header-start, After-slice_known-3-1}

header-end : (c : After-put_header-start) → c.put_header-start.result ≡ 12
header-end c = c.put_header-start.ensures.end ∙ omega (arith, header-length c.args.version c.count_after.result)

pub put_edited-written-requires : goal.put_edited-written-requires
put_edited-written-requires c =
    let p = c.requires.0 in
    (p.room, p.reach, p.stage, p.short, omega (arith, header-end (goal.at.put_edited-written-requires c).After-put_header-start), (p.records.entries, _, p.has.entries), c.requires.2)

pub put_cache_tree-middle-requires : goal.put_cache_tree-middle-requires
put_cache_tree-middle-requires c =
    let p = c.requires.0 in
    (p.room.most, omega (arith, c.put_edited-written.ensures.bounds.near, header-end (goal.at.put_cache_tree-middle-requires c).After-put_header-start, p.few), (p.records.cache_tree, p.has.tree, p.has.differ), c.requires.1)

pub put_resolve_undo-end-requires : goal.put_resolve_undo-end-requires
put_resolve_undo-end-requires c =
    let p = c.requires.0 in
    (p.room.most, omega (arith, c.put_cache_tree-middle.ensures.1, c.put_edited-written.ensures.bounds.near, header-end (goal.at.put_resolve_undo-end-requires c).After-put_header-start, p.few), (p.records.resolve_undo, p.has.undo))

pub returns : goal.returns
returns c =
    let a = c.args in
    let p = c.requires.0 in
    let x = entry_with a.w a.fields a.name.now in
    record {
      wrote = λ r has there.
          let count = count_is x a.edit a.parts r has.counted p.reach c.count_after.result c.count_after.ensures in
          body-wrote a.w a.version a.edit x r _ _ _ _ _ _ _ _ _ _ count c.put_header-start.ensures (c.put_edited-written.ensures.edited_is _ _ has.entries there).wrote
          (rw c.is_change.ensures at (c.put_cache_tree-middle.ensures.0 _ has.tree has.differ))
          (c.put_resolve_undo-end.ensures.0 _ has.undo);
      extended = λ r has there. (c.put_edited-written.ensures.edited_is _ _ has.entries there).extended ∙ ap any_word (sym (changed-entries a.w a.edit x r));
      near = omega (arith, c.put_resolve_undo-end.ensures.1, c.put_cache_tree-middle.ensures.1, c.put_edited-written.ensures.bounds.near, header-end (goal.at.returns c).After-put_header-start, p.few);
      frame = c.put_edited-written.ensures.bounds.frame;
      out_long = c.put_resolve_undo-end.ensures.2 ∙ c.put_cache_tree-middle.ensures.2 ∙ c.put_edited-written.ensures.bounds.out_long ∙ c.put_header-start.ensures.long;
    }
