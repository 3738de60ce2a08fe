-- The proof that `put_ahead` meets its contract. The loop keeps that the first name ahead begins with the q bytes.
use mathlib.Core.Path.{◌≡◌}
use Prim.Native.Nat.{◌≤◌}
use lib.ListN.{length}
use Rattle.entries_directory.specs.Ahead.{FrontFits}
use Rattle.tree_check.specs.Keys.{KeysPut}
use Rattle.tree_check.proofs.gather.put_ahead.Given as goal

abbrev pub invariant-loop : goal.invariant-loop
invariant-loop l = FrontFits l.b l.front × (length l.names ≡ length l.initial.names) × (8192 ≤ length l.names) × (l.q ≤ l.front.cursor.len) × (l.count ≤ l.counter) × KeysPut l.region l.initial.t l.t
