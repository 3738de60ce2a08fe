-- The proof that `order_at` meets its contract.
use mathlib.Core.Path.{sym}
use Prim.Native.Nat.{◌+◌, ◌-◌, ◌≤◌}
use native.Mathlib.Omega.{arith}
use lib.ListN.{length}
use lib.Seq.{length-take-le}
use Rattle.entries_place.proofs.Finding.{order-packed, order-plain}
use Rattle.entries_place.proofs.order_at.Goals as goal

pub slice_bounds-order_of-end : goal.slice_bounds-order_of-end
slice_bounds-order_of-end c =
    let fits : c.args.c.len ≤ length c.args.work.now = omega (arith, c.requires.0.short, c.requires.1) in
    sym (length-take-le c.args.c.len c.args.work.now fits)

pub returns-then-v-eq4 : goal.returns-then-v-eq4
returns-then-v-eq4 c =
    let a = c.args.c in
    order-packed _ _ _ a _ _ c.if-v-eq4.true c.order_of.ensures

pub returns : goal.returns
returns c =
    let a = c.args.c in
    order-plain _ _ _ a _ _ c.if-v-eq4.false (a.start + a.len - a.start) (omega arith) c.order_of-2.ensures
