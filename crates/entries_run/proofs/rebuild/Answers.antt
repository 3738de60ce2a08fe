-- The proof that `rebuild` meets its contract.
use Prim.Native.Nat.{◌≤◌}
use native.Mathlib.Omega.{arith}
use lib.ListN.{length}
use Rattle.entries_run.proofs.Names.{rebuilt}
use Rattle.entries_run.proofs.rebuild.Goals as goal

pub returns : goal.returns
returns c =
    let a = c.args in
    let long : a.p ≤ length a.work.now = omega arith in
    rebuilt a.work.now a.suffix.now a.p a.n c.requires.0 long a.s a.t _ c.standing_of-d.result c.standing_of-d.ensures c.copy_to.ensures
