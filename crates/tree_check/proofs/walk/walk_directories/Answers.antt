use mathlib.Core.Path.{refl, sym, ◌∙◌}
use native.Mathlib.Omega.{arith}
use Rattle.tree_check.proofs.Turns.{turns-passed}
use Rattle.tree_check.proofs.Walks.{walk_start, walk-passed, walk-full, walk-entered, walk-left, walk_end}
use Rattle.tree_check.proofs.Loops.{loop-start, loop-ready, loop-passed, less-entered, loop-entered, above_before, less-left, loop-left}
use Rattle.tree_check.proofs.walk.walk_directories.Goals as goal

pub loop-ok-init : goal.loop-ok-init
loop-ok-init c = (
  c.requires.1,
  loop-start _ _ _ _ _ _ c.requires.0 c.requires.3 refl,
  λ f n sound reads x xs ahead. walk_start _ _ _ _ _ _ _ _ c.requires.2 c.requires.3 f n sound reads x xs ahead,
)

pub take_part-requires : goal.take_part-requires
take_part-requires c =
    let l = c.loop-ok in
    let on = sym c.is_in.ensures ∙ c.if-not-is_in.false in
    (loop-ready _ _ _ _ _ _ _ _ _ l.invariant.1 on, l.invariant.0, omega arith)

pub loop-ok-smaller-in-Passed : goal.loop-ok-smaller-in-Passed
loop-ok-smaller-in-Passed c =
    let l = c.loop-ok in
    let part = rw c.in-Passed.is at c.take_part.ensures in
    turns-passed _ _ _ _ part.0.is.less l.invariant.1.deep

pub loop-ok-preserved-in-Passed : goal.loop-ok-preserved-in-Passed
loop-ok-preserved-in-Passed c =
    let l = c.loop-ok in
    let on = sym c.is_in.ensures ∙ c.if-not-is_in.false in
    let part = rw c.in-Passed.is at c.take_part.ensures in (
      part.1,
      loop-passed _ _ _ _ _ _ _ _ _ l.invariant.1 _ _ _ _ part.0.is,
      λ f n sound reads x xs ahead. walk-passed _ _ _ _ _ _ _ _ _ _ _ _ _ _ (l.invariant.2 f n sound reads x xs ahead) on _ _ _ part.0.is l.invariant.1.most,
    )

pub returns-in-Entered : goal.returns-in-Entered
returns-in-Entered c =
    let l = c.loop-ok in
    let on = sym c.is_in.ensures ∙ c.if-not-is_in.false in
    let part = rw c.in-Entered.is at c.take_part.ensures in
    record {
      frame = rw part.0.is.same l.invariant.1.frame;
      is = λ f n sound reads x xs ahead. absurd (walk-full _ _ _ _ _ _ _ _ _ _ _ _ _ _ (l.invariant.2 f n sound reads x xs ahead) on _ _ part.0.is c.if-level-eq-LEVELS.true);
    }

pub loop-ok-smaller : goal.loop-ok-smaller
loop-ok-smaller c =
    let l = c.loop-ok in
    let part = rw c.in-Entered.is at c.take_part.ensures in
    let on = sym c.is_in.ensures ∙ c.if-not-is_in.false in
    let other = c.if-level-eq-LEVELS.false in
    less-entered _ _ _ _ _ _ _ _ _ l.invariant.1 _ _ _ part.0.is on (omega (arith, l.invariant.1.deep, other))

pub loop-ok-preserved : goal.loop-ok-preserved
loop-ok-preserved c =
    let l = c.loop-ok in
    let on = sym c.is_in.ensures ∙ c.if-not-is_in.false in
    let part = rw c.in-Entered.is at c.take_part.ensures in
    let other = c.if-level-eq-LEVELS.false in (
      part.1,
      loop-entered _ _ _ _ _ _ _ _ _ l.invariant.1 _ _ _ part.0.is on (omega (arith, l.invariant.1.deep, other)),
      λ f n sound reads x xs ahead.
          walk-entered _ _ _ _ _ _ _ _ _ _ _ _ _ _ (l.invariant.2 f n sound reads x xs ahead) on _ _ part.0.is l.invariant.1.levels (omega (arith, l.invariant.1.deep, other)),
    )

pub returns-then-level-eq0 : goal.returns-then-level-eq0
returns-then-level-eq0 c =
    let l = c.loop-ok in
    let off = sym c.is_in.ensures ∙ c.if-not-is_in.true in
    record {
      frame = l.invariant.1.frame;
      is = λ f n sound reads x xs ahead. walk_end _ _ _ _ _ _ _ _ _ _ _ _ _ _ (l.invariant.2 f n sound reads x xs ahead) off c.if-level-eq0.true _ _ _ c.agrees-ok.ensures refl;
    }

pub loop-ok-smaller-then-not-is_in : goal.loop-ok-smaller-then-not-is_in
loop-ok-smaller-then-not-is_in c =
    let l = c.loop-ok in
    let off = sym c.is_in.ensures ∙ c.if-not-is_in.true in
    let other = c.if-level-eq0.false in
    less-left _ _ _ _ _ _ _ _ _ l.invariant.1 off (omega (arith, other))

pub loop-ok-preserved-then-not-is_in : goal.loop-ok-preserved-then-not-is_in
loop-ok-preserved-then-not-is_in c =
    let l = c.loop-ok in
    let off = sym c.is_in.ensures ∙ c.if-not-is_in.true in
    let other = c.if-level-eq0.false in
    let last = c.weight.ensures in
    rw c.from-found.ensures (
      l.invariant.0,
      loop-left _ _ _ _ _ _ _ _ _ l.invariant.1 off (omega (arith, other)) _ last.1,
      λ f n sound reads x xs ahead.
          walk-left _ _ _ _ _ _ _ _ _ _ _ _ _ _ (l.invariant.2 f n sound reads x xs ahead) off (omega (arith, other)) _ _ c.agrees-ok.ensures last.0 (above_before _ _ _ _ _ _ _ _ _ l.invariant.1 off (omega (arith, other))),
    )
