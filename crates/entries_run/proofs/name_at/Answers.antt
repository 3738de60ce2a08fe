-- The proof that `name_at` meets its contract.
use mathlib.Core.Path.{sym}
use native.Mathlib.Omega.{arith}
use lib.Seq.{length-take-le}
use Rattle.entries_run.proofs.Names.{name_at-work, name_at-body}
use Rattle.entries_run.proofs.name_at.Goals as goal

pub slice_bounds-result-end : goal.slice_bounds-result-end
slice_bounds-result-end c = sym (length-take-le _ _ (omega arith))

pub returns-then-v-eq4 : goal.returns-then-v-eq4
returns-then-v-eq4 c = name_at-work _ _ _ _ _ c.if-v-eq4.true

pub returns : goal.returns
returns c = name_at-body _ _ _ _ _ c.if-v-eq4.false
