-- The proof that `seek_entry` meets its contract. The loop keeps that some entries lie before the cursor, which with those left are k.
use mathlib.Core.Path.{◌≡◌}
use mathlib.Core.List.{List}
use lib.ListN.{length}
use Rattle.format.specs.Records.{Entry}
use Rattle.entries_run.proofs.Steps.{Walking}
use Rattle.entries_run.proofs.seek_entry.Given as goal

abbrev pub invariant-loop : goal.invariant-loop
invariant-loop l = (es : List Entry) × Walking l.w l.v l.b l.initial.work es l.work l.c × (length es ≡ l.counter)
