-- The proof that `put_entries` meets its contract. The loop keeps that some entries are written, which with those left are all.
use Prim.Native.Nat.{◌-◌}
use Rattle.entries_write.proofs.Runs.{Writing}
use Rattle.entries_write.proofs.put_entries.Given as goal

abbrev pub invariant-loop : goal.invariant-loop
invariant-loop l = Writing l.w l.v l.b l.initial.work l.initial.cursor l.n l.version l.initial.out l.at l.work l.out l.cursor l.end l.extended (l.n - l.counter)
