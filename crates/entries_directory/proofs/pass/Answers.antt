use mathlib.Core.Path.{sym, ap, ◌∙◌}
use mathlib.Core.Bool.{◌&&◌}
use Prim.Native.Nat.{ℕ}
use native.Mathlib.Omega.{arith}
use lib.Dec.{leb, ltb}
use Rattle.entries_directory.proofs.Ahead.{going_start, going_on, going_end, pass-start, pass_on, pass-end, stays-some}
use Rattle.entries_directory.proofs.pass.Goals as goal

pub loop-work-init : goal.loop-work-init
loop-work-init c = (going_start _ _ _ _ _ _ _ c.advance-front.ensures c.requires.1, λ last xs p h i e. pass-start _ _ _ p xs _ _ last h i)

pub advance-front-requires-in-loop-work : goal.advance-front-requires-in-loop-work
advance-front-requires-in-loop-work c = let h = c.loop-work.invariant.0 in (h.fits, h.room, omega arith)

pub loop-work-smaller : goal.loop-work-smaller
loop-work-smaller c =
    let on = sym c.stays.ensures ∙ c.loop-work-test.true in
    omega (arith, c.advance-front-in-loop-work.ensures.fewer, stays-some c.loop-work.front c.args.q on)

pub loop-work-preserved : goal.loop-work-preserved
loop-work-preserved c =
    let t = c.advance-front-in-loop-work.ensures in
    let on = sym c.stays.ensures ∙ c.loop-work-test.true in (
      going_on _ _ _ _ _ _ _ _ _ c.loop-work.invariant.0 t,
      λ last xs p h i e. pass_on _ _ _ p xs _ _ (c.loop-work.invariant.1 last xs p h i e) _ _ (ap (λ (k : ℕ). ltb 0 c.loop-work.front.ahead && leb k c.loop-work.front.common) e ∙ on) t,
    )

pub returns : goal.returns
returns c =
    let t = c.advance-front.ensures in
    let off = sym c.stays.ensures ∙ c.loop-work-test.false in
    record {
      gone = going_end _ _ _ _ _ _ _ t c.requires.2 _ _ c.loop-work.invariant.0;
      passed = λ p x xs h i e.
          let g = c.loop-work.invariant.1 x xs p (t.after x xs h) i e in
          pass-end _ _ _ p xs _ _ g x i (ap (λ (k : ℕ). ltb 0 c.loop-work.front.ahead && leb k c.loop-work.front.common) e ∙ off);
    }
