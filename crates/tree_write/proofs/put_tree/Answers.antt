-- The proof that `put_tree` meets its contract.
use native.Mathlib.Omega.{arith}
use Rattle.tree_write.proofs.Wholes.{whole-copied}
use Rattle.tree_write.proofs.put_tree.Goals as goal

pub returns-then-touched : goal.returns-then-touched
returns-then-touched c =
    rw c.if-touched.true c.put_invalid_tree.ensures

pub returns : goal.returns
returns c =
    let t = c.put_trees-passed.ensures in
    let short = t.short in
    let within = t.within in
    rw c.if-touched.false (record { wrote = λ u m q differ. whole-copied _ _ u m q _ _ _ _ t; short = omega arith })
