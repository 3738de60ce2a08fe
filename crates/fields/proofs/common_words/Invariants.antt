-- The proof that `common_words` meets its contract. The loop keeps the whole count.
use mathlib.Core.Path.{◌≡◌}
use Prim.Native.Nat.{◌+◌, ◌*◌}
use lib.ListN.{drop}
use Rattle.format.specs.Names.{common}
use Rattle.fields.proofs.common_words.Given as goal

abbrev pub invariant-loop-k : goal.invariant-loop-k
invariant-loop-k l = common l.s l.t ≡ 8 * l.k + common (drop (8 * l.k) l.s) (drop (8 * l.k) l.t)
