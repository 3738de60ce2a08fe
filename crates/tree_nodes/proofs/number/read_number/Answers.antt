use native.Mathlib.Omega.{arith}
use mathlib.Core.Path.{sym, ◌∙◌}
use Rattle.tree_nodes.proofs.Numbers.{number-none, number-zero, number-zeros, number_digits, over, from_end, from_other, from_step}
use Rattle.tree_nodes.proofs.number.read_number.Goals as goal

pub returns-then-t-eq0 : goal.returns-then-t-eq0
returns-then-t-eq0 c = sym (number-none _ _ c.if-t-eq0.true)

pub returns-then-t-eq1 : goal.returns-then-t-eq1
returns-then-t-eq1 c = sym (number-zero _ _ c.if-t-eq1.true c.if-t-eq48.true)

pub returns-then-t-eq48 : goal.returns-then-t-eq48
returns-then-t-eq48 c = sym (number-zeros _ _ c.if-t-eq0.false c.if-t-eq1.false c.if-t-eq48.true)

pub loop-digit-init : goal.loop-digit-init
loop-digit-init c = (omega arith, number_digits _ _ c.if-t-eq0.false c.if-t-eq48.false)

pub returns-then-not-is_ascii_digit : goal.returns-then-not-is_ascii_digit
returns-then-not-is_ascii_digit c = sym (c.loop-digit.invariant.1 ∙ from_other _ _ _ c.loop-digit.digit-index (omega arith) c.if-not-is_ascii_digit.ensures.cases)

pub returns-then-limit-v : goal.returns-then-limit-v
returns-then-limit-v c =
    let digit = c.if-not-is_ascii_digit.ensures.cases in
    sym (c.loop-digit.invariant.1 ∙ from_step _ _ _ c.loop-digit.digit-index (omega arith) digit.0 digit.1 ∙ over _ _ _ (omega arith))

pub loop-digit-preserved : goal.loop-digit-preserved
loop-digit-preserved c =
    let digit = c.if-not-is_ascii_digit.ensures.cases in
    (omega arith, c.loop-digit.invariant.1 ∙ rw c.from.ensures (from_step _ _ _ c.loop-digit.digit-index (omega arith) digit.0 digit.1))

pub returns : goal.returns
returns c = sym (c.loop-digit.invariant.1 ∙ from_end _ _ _ c.loop-digit.digit-index (omega arith) c.loop-digit.invariant.0)
