-- The proof that `find_place` meets its contract. The loop keeps that the entries before the cursor all are before the name and stage.
use Rattle.entries_place.proofs.Finding.{Searching}
use Rattle.entries_place.proofs.find_place.Given as goal

abbrev pub invariant-loop-before : goal.invariant-loop-before
invariant-loop-before l = Searching l.w l.v l.b l.initial.work (record { name = l.name; stage = l.stage }) l.before l.mixed l.work l.c
