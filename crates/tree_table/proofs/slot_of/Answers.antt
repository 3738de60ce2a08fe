use Rattle.tree_table.proofs.Slots.{probe-end, probe-here, probe-empty, probe-on, slot_is}
use Rattle.tree_table.specs.Keys.{next_slot}
use native.Mathlib.Omega.{arith}
use Prim.Native.Nat.{ℕ, ◌+◌, ◌-◌}
use mathlib.Core.Path.{◌≡◌, ap, ◌∙◌}
use Rattle.tree_table.proofs.slot_of.Goals as goal

pub returns-then-t-from : goal.returns-then-t-from
returns-then-t-from c = let n = c.args.slots - c.loop.counter in (slot_is _ _ _ _ _ (c.loop.invariant.1 ∙ probe-here _ _ _ _ _ n (omega arith) c.if-t-from.true), omega arith, omega arith)

pub returns-then-t-from-eq0 : goal.returns-then-t-from-eq0
returns-then-t-from-eq0 c = let n = c.args.slots - c.loop.counter in (slot_is _ _ _ _ _ (c.loop.invariant.1 ∙ probe-empty _ _ _ _ _ n (omega arith) c.if-t-from.false c.if-t-from-eq0.true), omega arith, omega arith)

pub loop-preserved : goal.loop-preserved
loop-preserved c =
    let n = c.args.slots - c.loop.counter in
    let one : c.args.slots - (c.loop.counter + 1) ≡ c.args.slots - c.loop.counter - 1 = omega arith in
    (c.next_slot-i.ensures.1, c.loop.invariant.1 ∙ rw one (probe-on _ _ _ _ _ n (omega arith) c.if-t-from.false c.if-t-from-eq0.false _ (c.next_slot-i.ensures.0 ∙ ap (λ (x : ℕ). next_slot c.args.slots x c.loop.i) c.step_of-step.ensures.0)))

pub returns : goal.returns
returns c = (slot_is _ _ _ _ _ (c.loop.invariant.1 ∙ probe-end _ _ _ _ _ (c.args.slots - c.loop.counter) (omega arith)), omega arith, omega arith)
