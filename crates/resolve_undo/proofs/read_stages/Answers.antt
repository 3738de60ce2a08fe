-- The proof that `read_stages` meets its contract.
use mathlib.Core.Path.{◌≡◌, sym}
use Prim.Native.Nat.{◌+◌}
use native.Mathlib.Omega.{arith}
use Rattle.resolve_undo.specs.Answers.{object_length}
use Rattle.resolve_undo.proofs.Laws.{stages-none, stages-cut, stages-some}
use Rattle.resolve_undo.proofs.read_stages.Goals as goal
use Rattle.resolve_undo.proofs.read_stages.Goals.{After-object_length-3}

-- the sum that is tested is the length of the object names
sum_is : (c : After-object_length-3) → let a = c.args in
    c.object_length.result + c.object_length-2.result + c.object_length-3.result
    ≡ object_length a.w a.first + object_length a.w a.second + object_length a.w a.third
sum_is c = omega arith

pub returns-then-n-eq0 : goal.returns-then-n-eq0
returns-then-n-eq0 c =
    let a = c.args in
    (λ p s long. sym (stages-none _ p a.at c.requires.1 s _ _ _ _ a.d.now (sum_is (goal.at.returns-then-n-eq0 c).After-object_length-3) c.if-n-eq0.true), tt)

pub returns-then-d-at : goal.returns-then-d-at
returns-then-d-at c =
    let a = c.args in
    (λ p s long. sym (stages-cut _ p a.at c.requires.1 s _ _ _ _ a.d.now (sum_is (goal.at.returns-then-d-at c).After-object_length-3) c.if-d-at.true), tt)

pub returns : goal.returns
returns c =
    let a = c.args in
    (λ p s long. sym (stages-some _ p a.at c.requires.1 s _ _ _ _ a.d.now (sum_is (goal.at.returns c).After-object_length-3) c.if-n-eq0.false c.if-d-at.false _ long), omega arith)
