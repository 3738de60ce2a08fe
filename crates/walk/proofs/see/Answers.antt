-- The proof that `see` meets its contract.
use mathlib.Core.Path.{◌≡◌, sym, ◌∙◌}
use mathlib.Core.Bool.{true}
use Prim.Native.Nat.{◌-◌}
use native.Mathlib.Omega.{arith}
use lib.ListN.{length}
use lib.Seq.{length-take-le}
use Rattle.walk.specs.Walks.{walkable}
use Rattle.walk.proofs.Seeing.{none_left, not-walkable, past-body, at_place}
use Rattle.walk.proofs.Steps.{walkable-long, walkable-old}
use Rattle.walk.proofs.see.Goals as goal
use Rattle.walk.proofs.see.Goals.{Else-not-walkable}

-- the header is one of version 2 or 3
ok : (c : Else-not-walkable) → let a = c.args in walkable a.w a.file.now ≡ true
ok c = sym c.walkable.ensures ∙ c.if-not-walkable.false

pub returns-then-left-eq0 : goal.returns-then-left-eq0
returns-then-left-eq0 c = none_left _ _ _ _ c.if-left-eq0.true

pub overflow_sub-n : goal.overflow_sub-n
overflow_sub-n c = omega (arith, walkable-long _ _ (ok c))

pub returns-then-n-at : goal.returns-then-n-at
returns-then-n-at c = past-body _ _ _ _ c.if-left-eq0.false (ok (goal.at.returns-then-n-at c).Else-not-walkable) c.if-n-at.true

pub slice_bounds-plain_at-end : goal.slice_bounds-plain_at-end
slice_bounds-plain_at-end c = sym (length-take-le _ c.args.file.now (omega arith))

pub read32-requires : goal.read32-requires
read32-requires c = omega (arith, walkable-long _ _ (ok (goal.at.read32-requires c).Else-not-walkable))

pub plain_at-requires : goal.plain_at-requires
plain_at-requires c =
    let f = c.args.file.now in (
      rw (length-take-le (length f - c.args.w) f (omega arith)) c.if-n-at.false,
      rw c.read32.ensures (walkable-old _ f (ok (goal.at.plain_at-requires c).Else-not-walkable)),
      c.requires,
    )

pub returns : goal.returns
returns c =
    at_place _ _ _ _ c.if-left-eq0.false (ok (goal.at.returns c).Else-not-walkable) _ _ c.read32.ensures c.plain_at.ensures

pub returns-then-not-walkable : goal.returns-then-not-walkable
returns-then-not-walkable c = not-walkable _ _ _ _ c.if-left-eq0.false (sym c.walkable.ensures ∙ c.if-not-walkable.true)
