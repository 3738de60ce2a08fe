-- The proof that `read_n` meets its contract.
use native.Mathlib.Omega.{arith}
use Rattle.entries.proofs.Names.{First, Second, n-cut, n-one, n-one-over, n-cut-two, n-three, n-two, n-two-over}
use Rattle.entries.proofs.read_n.Goals as goal
use Rattle.entries.proofs.read_n.Goals.{After-from-x, After-from-y}

-- what is known once the first byte is read, and the second
first : (c : After-from-x) → First c.args.b.now c.args.at c.from-x.result
first c = record { some = c.if-b-at-lt1.false; is_x = c.from-x.ensures }

second :
    (c : After-from-y) → Second c.args.b.now c.args.at c.from-x.result c.from-y.result
second c = record { first = (record { some = c.if-b-at-lt1.false; is_x = c.from-x.ensures }); large = c.if-x-lt128.false; more = c.if-b-at-lt2.false; is_y = c.from-y.ensures }

pub returns-then-b-at-lt1 : goal.returns-then-b-at-lt1
returns-then-b-at-lt1 c =
    let a = c.args in
    ((λ p. n-cut a.b.now a.at _ p c.if-b-at-lt1.true), omega arith, omega arith)

pub returns-then-most-x : goal.returns-then-most-x
returns-then-most-x c = ((λ p. n-one-over _ _ _ p _ (first (goal.at.returns-then-most-x c).After-from-x) c.if-x-lt128.true c.if-most-x.true), omega arith, omega arith)

pub returns-then-x-lt128 : goal.returns-then-x-lt128
returns-then-x-lt128 c = ((λ p. n-one _ _ _ p _ (first (goal.at.returns-then-x-lt128 c).After-from-x) c.if-x-lt128.true c.if-most-x.false), omega arith, omega arith)

pub returns-then-b-at-lt2 : goal.returns-then-b-at-lt2
returns-then-b-at-lt2 c = ((λ p. n-cut-two _ _ _ p _ (first (goal.at.returns-then-b-at-lt2 c).After-from-x) c.if-x-lt128.false c.if-b-at-lt2.true), omega arith, omega arith)

pub returns-then-y-ge128 : goal.returns-then-y-ge128
returns-then-y-ge128 c = ((λ p. n-three _ _ _ p _ _ (second (goal.at.returns-then-y-ge128 c).After-from-y) c.if-y-ge128.true), omega arith, omega arith)

pub returns-then-most-n : goal.returns-then-most-n
returns-then-most-n c = ((λ p. n-two-over _ _ _ p _ _ (second (goal.at.returns-then-most-n c).After-from-y) c.if-y-ge128.false c.if-most-n.true), omega arith, omega arith)

pub returns : goal.returns
returns c = ((λ p. n-two _ _ _ p _ _ (second (goal.at.returns c).After-from-y) c.if-y-ge128.false c.if-most-n.false), omega arith, omega arith)
