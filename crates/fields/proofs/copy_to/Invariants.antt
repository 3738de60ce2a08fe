-- The proof that `copy_to` meets its contract. After i turns the first i bytes of s are in the workspace.
use mathlib.Core.Path.{◌≡◌}
use lib.ListN.{length}
use lib.Seq.{paste}
use Rattle.fields.proofs.copy_to.Given as goal

abbrev pub invariant-loop-i : goal.invariant-loop-i
invariant-loop-i l = (length l.work ≡ length l.initial.work) × (l.work ≡ paste l.initial.work l.at l.s l.i)
