use Rattle.cache_tree.proofs.Apart.{apart-end, apart-not, apart_next}
use native.Mathlib.Omega.{arith}
use Prim.Native.Nat.{◌+◌, ◌-◌, ◌<◌}
use mathlib.Core.Path.{◌≡◌, sym, ◌∙◌}
use Rattle.cache_tree.proofs.differ.against.Goals as goal

pub returns-then-is_known : goal.returns-then-is_known
returns-then-is_known c =
    let some : 0 < c.args.k - c.loop.counter = omega arith in
    sym (c.loop.invariant.1 ∙ apart-not _ _ c.args.d.now c.loop.y _ some (sym c.is_known.ensures ∙ c.if-is_known.true))

pub loop-preserved : goal.loop-preserved
loop-preserved c =
    let some : 0 < c.args.k - c.loop.counter = omega arith in
    let one : c.args.k - (c.loop.counter + 1) ≡ c.args.k - c.loop.counter - 1 = omega arith in
    let next = c.sibling_at-sibling.ensures in
    rw one (next.within, c.loop.invariant.1 ∙ apart_next _ _ c.args.d.now c.loop.y _ some _ next.after (sym c.is_known.ensures ∙ c.if-is_known.false))

pub returns : goal.returns
returns c = sym (c.loop.invariant.1 ∙ apart-end _ _ c.args.d.now c.loop.y _ (omega arith))
