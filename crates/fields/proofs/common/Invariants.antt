-- The proof that `common` meets its contract. The words and the loop keep the whole count.
use mathlib.Core.Path.{◌≡◌}
use Prim.Native.Nat.{◌+◌}
use lib.ListN.{drop}
use Rattle.format.specs.Names.{common}
use Rattle.fields.proofs.common.Given as goal

abbrev pub invariant-loop-i : goal.invariant-loop-i
invariant-loop-i l = common l.s l.t ≡ l.i + common (drop l.i l.s) (drop l.i l.t)
