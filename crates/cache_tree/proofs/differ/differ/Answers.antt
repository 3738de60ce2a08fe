use Rattle.cache_tree.proofs.Apart.{chunk-equal, chunk-known, chunk-apart}
use Rattle.cache_tree.proofs.Siblings.{differ-none}
use native.Mathlib.Omega.{arith}
use Prim.Native.Nat.{◌≤◌}
use mathlib.Core.Path.{refl, sym, ◌∙◌}
use Rattle.cache_tree.proofs.differ.differ.Goals as goal

pub returns-in_default : goal.returns-in_default
returns-in_default c =
    let n : c.min-n.result ≤ c.loop-left.left = omega arith in
    (sym (c.loop-left.invariant.2 ∙ chunk-equal _ _ _ _ refl _ n (c.in_default.ensures.1.equal refl)), c.fill.ensures.0)

pub against-requires : goal.against-requires
against-requires c = let f = c.in-Some.ensures.1.next _ refl in (f.0, c.loop-left.invariant.0, c.requires.1, f.3)

pub loop-left-preserved : goal.loop-left-preserved
loop-left-preserved c =
    let f = c.in-Some.ensures.1.next _ refl in
    let n : c.min-n.result ≤ c.loop-left.left = omega arith in
    (f.0, c.fill.ensures.0, c.loop-left.invariant.2 ∙ chunk-apart _ _ _ _ f.1 _ n f.2 (sym c.against.ensures ∙ c.if-against.true))

pub returns-else-against : goal.returns-else-against
returns-else-against c =
    let f = c.in-Some.ensures.1.next _ refl in
    let n : c.min-n.result ≤ c.loop-left.left = omega arith in
    (sym (c.loop-left.invariant.2 ∙ chunk-known _ _ _ _ f.1 _ n f.2 (sym c.against.ensures ∙ c.if-against.false)), c.fill.ensures.0)

pub returns : goal.returns
returns c = (sym (c.loop-left.invariant.2 ∙ differ-none _ c.args.d.now c.loop-left.x _ c.loop-left-test.false), c.loop-left.invariant.1)
