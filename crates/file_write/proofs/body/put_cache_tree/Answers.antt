-- The proof that `put_cache_tree` meets its contract.
use Rattle.format_laws.proofs.Lists.{part_length}
use Rattle.file_write.proofs.Extensions.{Within, tree-within, tree-grown, tree-wrote, no-tree-wrote}
use native.Mathlib.Omega.{arith}
use mathlib.Core.Path.{refl, ◌∙◌}
use Prim.Native.Nat.{◌+◌, ◌≤◌}
use Rattle.file_write.proofs.body.put_cache_tree.Goals as goal
use Rattle.file_write.proofs.body.put_cache_tree.Goals.{After-out-1, After-put_tree-after, After-put_tree-arg-1, In-Some}

-- where the data are
inside : (c : In-Some) → let a = c.args in Within a.b.now c.in-Some.place.at c.in-Some.place.end
inside c =
    tree-within c.args.w c.args.b.now c.args.name.now c.in-Some.place c.requires.2.0 (rw c.in-Some.is at c.requires.2.1)

-- what is written of them
grown : (c : After-put_tree-after) → c.args.at + 8 ≤ c.put_tree-after.result
grown c =
    let a = c.args in
    (tree-grown a.w a.b.now a.name.now c.in-Some.place a.touched _ _ _ _ c.requires.2.0 (rw c.in-Some.is at c.requires.2.1) c.requires.2.2
    c.put_tree-after.ensures.wrote).0

pub slice_bounds-put_tree-count : goal.slice_bounds-put_tree-count
slice_bounds-put_tree-count c = (inside c).order

pub slice_bounds-put_tree-start : goal.slice_bounds-put_tree-start
slice_bounds-put_tree-start c = let h = inside c in omega arith

pub slice_bounds-put_tree-end : goal.slice_bounds-put_tree-end
slice_bounds-put_tree-end c = (inside c).inside

pub put_tree-after-requires : goal.put_tree-after-requires
put_tree-after-requires c =
    let h = inside (goal.at.put_tree-after-requires c).In-Some in
    let a = c.args in
    (omega (arith, part_length a.b.now c.in-Some.place.at c.in-Some.place.end h.inside), omega arith, c.requires.3)

pub overflow_sub-after : goal.overflow_sub-after
overflow_sub-after c = grown (goal.at.overflow_sub-after c).After-put_tree-after

pub overflow_cast-after : goal.overflow_cast-after
overflow_cast-after c =
    let h = inside (goal.at.overflow_cast-after c).In-Some in
    let a = c.args in
    let l = part_length a.b.now c.in-Some.place.at c.in-Some.place.end h.inside in
    let f = grown (goal.at.overflow_cast-after c).After-put_tree-after in
    omega (arith, c.put_tree-after.ensures.short)

pub returns : goal.returns
returns c =
    let a = c.args in
    let h = inside (goal.at.returns c).In-Some in
    let l = part_length a.b.now c.in-Some.place.at c.in-Some.place.end h.inside in (
      λ o is d. tree-wrote a.w a.b.now a.name.now c.in-Some.place a.touched _ _ _ a.at _ _ o (rw c.in-Some.is at is) d c.put_tree-after.ensures.wrote c.put_head.ensures,
      omega (arith, c.put_tree-after.ensures.short),
      c.put_head.ensures.long
          ∙ (tree-grown a.w a.b.now a.name.now c.in-Some.place a.touched _ _ _ _ c.requires.2.0 (rw c.in-Some.is at c.requires.2.1) c.requires.2.2
          c.put_tree-after.ensures.wrote).1,
    )

pub returns-in_default : goal.returns-in_default
returns-in_default c =
    let a = c.args in
    (λ o is d. no-tree-wrote a.w a.b.now a.name.now a.touched _ a.at o (rw c.in_default.is at is), omega arith, refl)
