-- The proof that `packed` meets its contract.
use Prim.Native.Nat.{◌≤◌}
use native.Mathlib.Omega.{arith}
use lib.ListN.{length}
use Rattle.std.proofs.lemmas.Result.{err_from_is_err_and}
use Rattle.entries_run.proofs.Rests.{tested}
use Rattle.entries_run.proofs.PackedRests.{packed-bad, number_at}
use Rattle.entries_run.proofs.packed.Goals as goal

pub suffix-requires : goal.suffix-requires
suffix-requires c =
    let a = c.args in
    let m = c.in_ok-m.ensures in
    (number_at a.b.now _ a.c a.h _ c.requires.0 m.0 m.1 m.2 c.requires.1, c.requires.2)

pub returns-in_err-m : goal.returns-in_err-m
returns-in_err-m c =
    let a = c.args in
    let room : a.c.len ≤ length a.work.now = omega (arith, c.requires) in
    let error = err_from_is_err_and c.from_residual.result c.from_residual.ensures.1 in
    rw (error.1, error.2) (λ w sized. tested _ _ 4 a.b.now _ _ _ _ (packed-bad a.b.now a.work.now a.c a.h room _ _ c.in_err-m.ensures.0) _)
