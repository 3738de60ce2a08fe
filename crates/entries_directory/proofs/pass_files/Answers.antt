use native.Mathlib.Omega.{arith}
use Rattle.entries_directory.proofs.Ahead.{going_start, going_on, going_end, files-start, files-on, stays-some}
use Rattle.entries_directory.proofs.pass_files.Goals as goal

pub loop-work-init : goal.loop-work-init
loop-work-init c = (
  going_start _ _ _ _ _ _ _ c.advance-front.ensures c.requires.1,
  λ p x xs h i e. files-start _ _ _ p _ _ x xs h i,
)

pub is_file-requires : goal.is_file-requires
is_file-requires c = let h = c.loop-work.invariant.0 in (h.fits, h.room)

pub advance-front-requires-in-loop-work : goal.advance-front-requires-in-loop-work
advance-front-requires-in-loop-work c = let h = c.loop-work.invariant.0 in (h.fits, h.room, omega arith)

pub loop-work-smaller : goal.loop-work-smaller
loop-work-smaller c =
    let more = c.is_file.ensures c.loop-work-test.true in
    omega (arith, c.advance-front-in-loop-work.ensures.fewer, stays-some c.loop-work.front c.args.q more.stays)

pub loop-work-preserved : goal.loop-work-preserved
loop-work-preserved c =
    let more = c.is_file.ensures c.loop-work-test.true in (
      going_on _ _ _ _ _ _ _ _ _ c.loop-work.invariant.0 c.advance-front-in-loop-work.ensures,
      λ p x xs h i e. files-on _ _ _ p _ _ _ (c.loop-work.invariant.1 p x xs h i e) _ _ (rw e more) c.advance-front-in-loop-work.ensures,
    )

pub returns : goal.returns
returns c =
    let t = c.advance-front.ensures in
    record {
      gone = going_end _ _ _ _ _ _ _ t c.requires.2 _ _ c.loop-work.invariant.0;
      passed = λ p x xs h i e. c.loop-work.invariant.1 p x xs (t.after x xs h) i e;
    }
