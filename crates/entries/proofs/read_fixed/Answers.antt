-- The proof that `read_fixed` meets its contract.
use mathlib.Core.Path.{◌≡◌, sym, ◌∙◌}
use Prim.Native.Nat.{◌/◌, ◌%◌}
use native.Mathlib.Omega.{arith}
use Rattle.entries.proofs.Before.{Flagged, fixed-cut, fixed-mode, fixed_plain, fixed-version, fixed-cut-word, fixed_word, fixed-bad-word}
use Rattle.entries.proofs.read_fixed.Goals as goal
use Rattle.entries.proofs.read_fixed.Goals.{After-read16-x, Else-x-eq0}

-- what is known once the flags are read
flagged : (c : After-read16-x) → Flagged c.args.w c.args.b.now c.args.at c.read32-m.result c.read16-x.result
flagged c =
    record {
      long = c.if-b-at.false;
      is_m = c.read32-m.ensures;
      mode = sym c.mode_ok.ensures ∙ c.if-not-mode_ok.false;
      is_x = c.read16-x.ensures.0;
    }

extended : (c : Else-x-eq0) → c.read16-x.result / 16384 % 2 ≡ 1
extended c = omega arith

pub returns-then-b-at : goal.returns-then-b-at
returns-then-b-at c =
    let a = c.args in
    ((λ p. fixed-cut _ a.b.now a.at _ p c.if-b-at.true), omega arith)

pub returns-then-not-mode_ok : goal.returns-then-not-mode_ok
returns-then-not-mode_ok c =
    let mode = sym c.mode_ok.ensures ∙ c.if-not-mode_ok.true in
    ((λ p. fixed-mode _ _ _ _ p _ c.if-b-at.false c.read32-m.ensures mode), omega arith)

pub returns-then-x-eq0 : goal.returns-then-x-eq0
returns-then-x-eq0 c = ((λ p. fixed_plain _ _ _ _ p _ _ (flagged (goal.at.returns-then-x-eq0 c).After-read16-x) (omega arith)), omega arith)

pub returns-then-v-eq2 : goal.returns-then-v-eq2
returns-then-v-eq2 c =
    let g = goal.at.returns-then-v-eq2 c in
    ((λ p. fixed-version _ _ _ _ p _ _ (flagged g.After-read16-x) (extended g.Else-x-eq0) c.if-v-eq2.true), omega arith)

pub returns-then-b-at-2 : goal.returns-then-b-at-2
returns-then-b-at-2 c =
    let g = goal.at.returns-then-b-at-2 c in
    ((λ p. fixed-cut-word _ _ _ _ p _ _ (flagged g.After-read16-x) (extended g.Else-x-eq0) c.if-v-eq2.false c.if-b-at-2.true), omega arith)

pub returns-then-not-word_ok : goal.returns-then-not-word_ok
returns-then-not-word_ok c =
    let g = goal.at.returns-then-not-word_ok c in
    let word = sym c.word_ok.ensures ∙ c.if-not-word_ok.true in
    ((λ p. fixed-bad-word _ _ _ _ p _ _ (flagged g.After-read16-x) (extended g.Else-x-eq0) c.if-v-eq2.false _ c.if-b-at-2.false c.read16-y.ensures.0 word), omega arith)

pub returns : goal.returns
returns c =
    let g = goal.at.returns c in
    let word = sym c.word_ok.ensures ∙ c.if-not-word_ok.false in
    ((λ p. fixed_word _ _ _ _ p _ _ (flagged g.After-read16-x) (extended g.Else-x-eq0) c.if-v-eq2.false _ c.if-b-at-2.false c.read16-y.ensures.0 word), omega arith)
