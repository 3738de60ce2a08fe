use native.Mathlib.Omega.{arith}
use Prim.Native.Nat.{◌+◌, ◌-◌, ◌<◌}
use mathlib.Core.Path.{◌≡◌, sym, ◌∙◌}
use Rattle.cache_tree.proofs.Siblings.{has-none, has_first, has-later}
use Rattle.cache_tree.proofs.differ.has_name.Goals as goal

pub returns-then-same_at : goal.returns-then-same_at
returns-then-same_at c =
    let some : 0 < c.args.k - c.loop.counter = omega arith in
    sym (c.loop.invariant.1 ∙ has_first _ _ c.args.d.now c.loop.y _ some (sym c.same_at.ensures ∙ c.if-same_at.true))

pub loop-preserved : goal.loop-preserved
loop-preserved c =
    let some : 0 < c.args.k - c.loop.counter = omega arith in
    let one : c.args.k - (c.loop.counter + 1) ≡ c.args.k - c.loop.counter - 1 = omega arith in
    rw one (c.after_tree-y.ensures.1, c.loop.invariant.1 ∙ has-later _ _ _ _ _ some _ c.after_tree-y.ensures.0 (sym c.same_at.ensures ∙ c.if-same_at.false))

pub returns : goal.returns
returns c =
    sym (c.loop.invariant.1 ∙ has-none _ _ c.args.d.now c.loop.y _ (omega arith))
