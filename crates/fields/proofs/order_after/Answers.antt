-- The proof that `order_after` meets its contract. What follows the common beginning decides.
use mathlib.Core.Path.{sym, ◌∙◌}
use Prim.Native.Nat.{◌<◌}
use native.Mathlib.Omega.{arith}
use lib.ListN.{get_or}
use Rattle.format_laws.proofs.Names.{compare-rest, common-ends}
use Rattle.fields.proofs.Laws.{compare-short, compare-long, compare-end, compare-below, compare-above}
use Rattle.fields.proofs.order_after.Goals as goal

pub returns-then-t-n : goal.returns-then-t-n
returns-then-t-n c =
    sym (compare-rest _ _ _ c.requires.0 c.requires.1 ∙ compare-end _ _ c.args.n c.if-s-n.true c.if-t-n.true)

pub returns-then-s-n : goal.returns-then-s-n
returns-then-s-n c =
    sym (compare-rest _ _ _ c.requires.0 c.requires.1 ∙ compare-long _ _ c.args.n c.if-s-n.true c.if-t-n.false)

pub returns-then-t-n-2 : goal.returns-then-t-n-2
returns-then-t-n-2 c =
    sym (compare-rest _ _ _ c.requires.0 c.requires.1 ∙ compare-short _ _ c.args.n c.if-s-n.false c.if-t-n-2.true)

pub returns-then-s-n-2 : goal.returns-then-s-n-2
returns-then-s-n-2 c =
    sym (compare-rest _ _ _ c.requires.0 c.requires.1 ∙ compare-below _ _ c.args.n c.if-s-n.false c.if-t-n-2.false c.if-s-n-2.true)

pub returns : goal.returns
returns c =
    let a = c.args in
    let above : get_or a.t.now a.n 0 < get_or a.s.now a.n 0 = omega (arith, common-ends a.s.now a.t.now a.n c.requires.0 c.requires.1 c.if-s-n.false c.if-t-n-2.false) in
    sym (compare-rest _ _ _ c.requires.0 c.requires.1 ∙ compare-above _ _ a.n c.if-s-n.false c.if-t-n-2.false above)
