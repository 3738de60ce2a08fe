-- The proof that `walk_root` meets its contract.
use mathlib.Core.Path.{refl}
use mathlib.Core.List.{[]}
use native.Mathlib.Omega.{arith}
use Rattle.format.specs.Bytes.{Bytes}
use Rattle.fields.proofs.Workspace.{frame_then}
use Rattle.tree_check.proofs.Wholes.{fits-first, ahead-first, root_none, root-some}
use Rattle.tree_check.proofs.counts.walk_root.Goals as goal

pub advance-front-requires : goal.advance-front-requires
advance-front-requires c =
    (rw c.first.ensures (fits-first _ _ _ c.requires.2 (omega (arith, c.ranges.count))), c.requires.2.room, omega arith)

pub returns-then-front-eq0 : goal.returns-then-front-eq0
returns-then-front-eq0 c =
    let x = c.args in
    let step = rw c.first.ensures at c.advance-front.ensures in
    record {
      frame = step.frame;
      is = λ es m q f n sound reads.
          let bytes : Bytes x.b.now = λ i. omega (arith, c.type_inv.b i) in
          let h = ahead-first _ _ _ _ _ es m bytes q in
          root_none _ x.d.now x.root x.expected _ _ _ f _ _ _ (step.after [] _ h) c.if-front-eq0.true _ (rw c.enter-dir.ensures at c.agrees.ensures) refl;
    }

pub walk_directories-requires : goal.walk_directories-requires
walk_directories-requires c =
    let step = rw c.first.ensures at c.advance-front.ensures in
    let some = c.if-front-eq0.false in
    rw c.enter-dir.ensures (
      record {
        inside = c.requires.0;
        small = c.requires.1;
        fits = step.fits;
        few = omega (arith, step.fewer, c.ranges.count);
        room = omega (arith, step.frame, c.requires.2.room);
        some = omega (arith, some);
        long = omega arith;
      },
      c.reset.ensures.0 _ _,
      refl,
      refl,
      omega arith,
    )

pub returns : goal.returns
returns c =
    let x = c.args in
    let step = rw c.first.ensures at c.advance-front.ensures in
    let walked = rw c.enter-dir.ensures at c.walk_directories.ensures in
    record {
      frame = frame_then step.frame walked.frame;
      is = λ es m q f n sound reads.
          let bytes : Bytes x.b.now = λ i. omega (arith, c.type_inv.b i) in
          let h = ahead-first _ _ _ _ _ es m bytes q in
          root-some _ x.d.now x.root x.expected _ _ _ f _ _ _ (step.after [] _ h) c.if-front-eq0.false n sound reads _ walked;
    }
