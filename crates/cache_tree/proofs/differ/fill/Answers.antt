use Rattle.cache_tree.proofs.Apart.{after-start, differ-start, held_start, fill-equal, fill-differ, fill-rest, fill-held, put-length, filled-equal, filled_next}
use lib.ListN.{length}
use native.Mathlib.Omega.{arith}
use Prim.Native.Nat.{◌≤◌}
use mathlib.Core.Path.{refl, sym, ◌∙◌}
use Rattle.cache_tree.proofs.differ.fill.Goals as goal

pub loop-n-init : goal.loop-n-init
loop-n-init c = let p = c.requires in (p.0, after-start _ _, differ-start _ _, held_start _ _ _, p.2)

pub returns-then-put : goal.returns-then-put
returns-then-put c =
    (put-length _ _ _ c.put.ensures.1 ∙ c.loop-n.invariant.4, filled-equal _ _ _ _ (fill-equal _ c.loop-n.n _ _ c.loop-n.invariant.1 _ c.loop-n-test.true c.loop-n.invariant.2 (sym c.put.ensures.0 ∙ c.if-put.true)))

pub loop-n-preserved : goal.loop-n-preserved
loop-n-preserved c =
    let next = c.sibling_at-sibling.ensures in
    let d = c.args.d.now in
    let at = c.loop-n.invariant.1 in
    let same = c.loop-n.invariant.4 in
    let room : 3072 ≤ length c.loop-n.t = omega arith in (
      next.within,
      fill-rest _ c.loop-n.n _ _ at d c.loop-n.y _ refl next.after,
      fill-differ _ c.loop-n.n _ _ at c.loop-n.invariant.2 (sym c.put.ensures.0 ∙ c.if-put.false),
      fill-held _ c.loop-n.n _ _ at _ _ room c.put.ensures.1 c.loop-n.invariant.3,
      put-length _ _ _ c.put.ensures.1 ∙ same,
    )

pub returns : goal.returns
returns c = (c.loop-n.invariant.4, filled_next _ _ _ _ _ c.loop-n.n (omega arith) c.loop-n.invariant.0 c.loop-n.invariant.1 c.loop-n.invariant.2 c.loop-n.invariant.3)
