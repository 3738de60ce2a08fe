-- The proof that `walkable` meets its contract.
use mathlib.Core.Path.{sym, ◌∙◌}
use native.Mathlib.Omega.{arith}
use lib.Seq.{length-take-le}
use borrow.Author.Tests.{eq-eqb}
use Rattle.walk.proofs.Seeing.{not-long, not-signed, version-two, version-three}
use Rattle.walk.proofs.walkable.Goals as goal

pub returns-then-file-w : goal.returns-then-file-w
returns-then-file-w c = sym (not-long _ _ c.if-file-w.true)

pub slice_bounds-same-end : goal.slice_bounds-same-end
slice_bounds-same-end c = sym (length-take-le 4 c.args.file.now (omega arith))

pub returns-then-not-same : goal.returns-then-not-same
returns-then-not-same c =
    sym (not-signed _ _ c.if-file-w.false (sym c.same.ensures ∙ c.if-not-same.true))

pub returns-then-v-eq2 : goal.returns-then-v-eq2
returns-then-v-eq2 c =
    eq-eqb _ _ c.if-v-eq2.true ∙ sym (version-two _ _ c.if-file-w.false (sym c.same.ensures ∙ c.if-not-same.false) (sym c.read32-v.ensures ∙ c.if-v-eq2.true))

pub returns-else-v-eq2 : goal.returns-else-v-eq2
returns-else-v-eq2 c =
    rw c.read32-v.ensures
    (sym (version-three _ _ c.if-file-w.false (sym c.same.ensures ∙ c.if-not-same.false) (λ e. c.if-v-eq2.false (c.read32-v.ensures ∙ e))))
