-- The proof that `part` meets its contract.
use mathlib.Core.Path.{sym}
use native.Mathlib.Nat.{add-sub_cancel_left}
use native.Mathlib.Omega.{arith}
use Rattle.answers.proofs.Laws.{part_out, part_in_lem}
use Rattle.answers.proofs.part.Goals as goal

pub returns-then-s-at : goal.returns-then-s-at
returns-then-s-at c = sym (part_out _ _ _ (omega arith))

pub returns-then-s-at-2 : goal.returns-then-s-at-2
returns-then-s-at-2 c = sym (part_out _ _ _ (omega arith))

pub returns : goal.returns
returns c =
    let a = c.args in
    rw add-sub_cancel_left (sym (part_in_lem a.at a.n a.s.now (omega arith)))
