-- The proof that `standing_of` meets its contract.
use mathlib.Core.Path.{sym}
use Rattle.entries_run.proofs.Names.{stands}
use Rattle.entries_run.proofs.standing_of.Goals as goal

pub returns : goal.returns
returns c =
    let m = c.common-n in
    rw c.rises.ensures (stands _ _ _ _ _ _ m.ensures.0 m.ensures.1 (sym c.order_after-o.ensures))
