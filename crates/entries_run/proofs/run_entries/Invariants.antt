-- The proof that `run_entries` meets its contract. The loop keeps that some entries lie before the cursor, which with those left are all.
use mathlib.Core.Path.{◌≡◌}
use mathlib.Core.List.{List}
use lib.ListN.{length}
use Rattle.format.specs.Records.{Entry}
use Rattle.fields.specs.Begun.{Begun}
use Rattle.entries_run.specs.Steps.{name_at, cursor_of}
use Rattle.entries_run.proofs.Steps.{Walking}
use Rattle.entries_run.proofs.run_entries.Given as goal

abbrev pub invariant-loop : goal.invariant-loop
invariant-loop l = ((es : List Entry) × Walking l.w l.v l.b l.initial.work es l.work (cursor_of l.at l.start l.len l.stage) × (length es ≡ l.counter)) × Begun (name_at l.v l.b l.work l.start l.len)
