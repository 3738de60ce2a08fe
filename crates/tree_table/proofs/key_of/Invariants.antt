use Rattle.tree_table.specs.Keys.{key_from, key_in}
use lib.ListN.{drop}
use Prim.Native.Nat.{◌*◌, ◌<◌}
use mathlib.Core.Path.{◌≡◌}
use Rattle.tree_table.proofs.key_of.Given as goal

abbrev pub invariant-loop-pair : goal.invariant-loop-pair
invariant-loop-pair l = (l.h < 4294967296) × (l.m < 1073741824) × (l.n < 1073741824) × (key_in l.t l.s ≡ key_from l.m l.n l.h (drop (l.pair-index * 2) l.s))
