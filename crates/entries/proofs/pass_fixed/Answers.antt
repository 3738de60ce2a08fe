-- The proof that `pass_fixed` meets its contract.
use native.Mathlib.Omega.{arith}
use Rattle.entries.proofs.Before.{passed-cut, passed-plain, passed-cut-word, passed-word}
use Rattle.entries.proofs.pass_fixed.Goals as goal

pub returns-then-b-at : goal.returns-then-b-at
returns-then-b-at c = passed-cut _ _ _ c.requires.0 c.if-b-at.true

pub returns-then-flags-eq0 : goal.returns-then-flags-eq0
returns-then-flags-eq0 c = passed-plain _ _ _ c.if-b-at.false _ c.read16-flags.ensures.0 (omega arith)

pub returns-then-b-at-2 : goal.returns-then-b-at-2
returns-then-b-at-2 c = passed-cut-word _ _ _ c.if-b-at.false _ c.read16-flags.ensures.0 (omega arith) c.requires.0 c.if-b-at-2.true

pub returns : goal.returns
returns c = passed-word _ _ _ c.if-b-at.false _ c.read16-flags.ensures.0 (omega arith) _ c.if-b-at-2.false c.read16-word.ensures.0
