-- The proof that `advance` meets its contract.
use mathlib.Core.Path.{refl}
use native.Mathlib.Omega.{arith}
use Rattle.fields.proofs.Workspace.{frame_same}
use Rattle.entries_directory.proofs.Ahead.{fits-end, step_end, step-bad, step_fits, step-on}
use Rattle.entries_directory.proofs.advance.Goals as goal

pub returns-then-s-le1 : goal.returns-then-s-le1
returns-then-s-le1 c = record {
  fits = fits-end _ _ c.requires.0;
  fewer = omega arith;
  frame = frame_same _;
  after = step_end _ _ _ _ _ _ _ refl c.if-s-le1.true;
}

pub returns-in_default : goal.returns-in_default
returns-in_default c =
    let t = c.in_default.ensures in
    record {
      fits = fits-end _ _ c.requires.0;
      fewer = omega arith;
      frame = t.frame;
      after = λ x xs h. step-bad _ _ _ _ c.args.s _ c.if-s-le1.false _ t x xs h;
    }

pub returns : goal.returns
returns c =
    let t = c.in-Ok.ensures in
    record {
      fits = step_fits _ _ _ _ c.args.s _ c.if-s-le1.false _ t c.requires.0;
      fewer = omega arith;
      frame = t.frame;
      after = step-on _ _ _ _ c.args.s _ c.if-s-le1.false _ t;
    }
