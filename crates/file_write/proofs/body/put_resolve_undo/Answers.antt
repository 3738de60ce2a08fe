-- The proof that `put_resolve_undo` meets its contract.
use Rattle.format_laws.proofs.Lists.{part_length}
use Rattle.file_write.proofs.Extensions.{Within, head-length, undo-within, undo-wrote, no-undo-wrote}
use native.Mathlib.Omega.{arith}
use mathlib.Core.Path.{◌≡◌, refl, ◌∙◌}
use Prim.Native.Nat.{◌+◌}
use Rattle.format.specs.Layout.{REUC}
use Rattle.file_write.proofs.body.put_resolve_undo.Goals as goal
use Rattle.file_write.proofs.body.put_resolve_undo.Goals.{After-put_head-arg-1, After-put_head-content, In-Some}

-- where the data are
inside : (c : In-Some) → let a = c.args in Within a.b.now c.in-Some.place.at c.in-Some.place.end
inside c = undo-within c.args.w c.args.b.now c.in-Some.place c.requires.2.0 (rw c.in-Some.is at c.requires.2.1)

headed : (c : After-put_head-content) → c.put_head-content.result ≡ c.args.at + 8
headed c = c.put_head-content.ensures.end ∙ rw (head-length REUC _ refl)

pub overflow_sub-end : goal.overflow_sub-end
overflow_sub-end c = (inside (goal.at.overflow_sub-end c).In-Some).order

pub overflow_cast-end : goal.overflow_cast-end
overflow_cast-end c = let h = inside (goal.at.overflow_cast-end c).In-Some in omega arith

pub put_part-requires : goal.put_part-requires
put_part-requires c =
    let h = inside (goal.at.put_part-requires c).In-Some in
    (omega (arith, headed (goal.at.put_part-requires c).After-put_head-content), h.order, h.inside)

pub returns : goal.returns
returns c =
    let a = c.args in
    let h = inside (goal.at.returns c).In-Some in
    let l = part_length a.b.now c.in-Some.place.at c.in-Some.place.end h.inside in (
      λ o is. undo-wrote a.w a.b.now c.in-Some.place _ _ _ a.at _ _ o (rw c.in-Some.is at is) c.put_head-content.ensures c.put_part.ensures,
      omega (arith, c.put_part.ensures.end, headed (goal.at.returns c).After-put_head-content),
      c.put_part.ensures.long ∙ c.put_head-content.ensures.long,
    )

pub returns-in_default : goal.returns-in_default
returns-in_default c =
    let a = c.args in
    (λ o is. no-undo-wrote a.w a.b.now _ a.at o (rw c.in_default.is at is), omega arith, refl)
