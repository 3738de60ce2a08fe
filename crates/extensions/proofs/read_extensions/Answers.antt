use Rattle.std.proofs.Common.{rules}
use native.Mathlib.Omega.{arith}
use Rattle.format.specs.Layout.{TREE, REUC, names}
use Rattle.fields.proofs.Workspace.{frame_same, frame_then}
use Rattle.spelling.proofs.Extensions.{extensions_of}
use Rattle.std.proofs.lemmas.Result.{err_from_is_err_and}
use Rattle.extensions.proofs.Mapped.{Mapped, mapped-ok, mapped-err}
use Rattle.extensions.proofs.Places.{seeks-end}
use Rattle.extensions.proofs.Runs.{behind-none, behind-end, behind-bad, behind_more}
use Rattle.extensions.proofs.read_extensions.Goals as goal
use Rattle.extensions.proofs.read_extensions.Goals.{After-map_err}

-- a refusal of one extension is given its place
mapped : (c : After-map_err) → Mapped c.loop-place.place c.read_extension.result c.map_err.result
mapped c = search rules

pub loop-place-init : goal.loop-place-init
loop-place-init c =
    let a = c.args in
    (c.requires.0, frame_same _, λ es m q. behind-none _ a.b.now (names es) a.at)

pub read_extension-requires : goal.read_extension-requires
read_extension-requires c =
    let r = c.requires.1 in
    (c.loop-place.invariant.0, record { least = r.least; most = r.most; room = omega (arith, c.loop-place.invariant.1) }, omega arith, omega arith)

pub shape_of-work-in_err-next : goal.shape_of-work-in_err-next
shape_of-work-in_err-next c =
    omega (arith, c.loop-place.invariant.1)

pub returns-in_err-next : goal.returns-in_err-next
unfolding extensions_of
returns-in_err-next c =
    let a = c.args in
    let (f, is, from) = err_from_is_err_and c.from_residual.result c.from_residual.ensures.1 in
    let (e, was, at) = mapped-err c.loop-place.place _ _ (mapped (goal.at.returns-in_err-next c).After-map_err) _ c.in_err-next.was in
    let t = rw was at c.read_extension.ensures in
    rw (is, from, at)
    (record {
      answered =
          λ es m q.
          behind-bad _ a.b.now (names es) a.at c.loop-place.place c.loop-place.found (c.loop-place.invariant.2 es m q) c.loop-place-test.true _ (t.answered es m q);
      frame = frame_then c.loop-place.invariant.1 t.frame;
    })

pub loop-place-smaller : goal.loop-place-smaller
loop-place-smaller c =
    let a = c.args in
    let was = mapped-ok c.loop-place.place _ _ (mapped (goal.at.loop-place-smaller c).After-map_err) _ c.in_ok-next.was in
    let t = rw was at c.read_extension.ensures in
    let n = t.inside in
    omega arith

pub loop-place-preserved : goal.loop-place-preserved
loop-place-preserved c =
    let a = c.args in
    let was = mapped-ok c.loop-place.place _ _ (mapped (goal.at.loop-place-preserved c).After-map_err) _ c.in_ok-next.was in
    let t = rw was at c.read_extension.ensures in (
      t.inside.1,
      frame_then c.loop-place.invariant.1 t.frame,
      λ es m q.
          let (x, reads, added) = t.answered es m q in
          behind_more _ a.b.now (names es) a.at c.loop-place.place c.loop-place.found (c.loop-place.invariant.2 es m q) c.loop-place-test.true _ _ x t.inside reads added,
    )

pub shape_of-work : goal.shape_of-work
shape_of-work c = c.loop-place.invariant.1.long

pub returns : goal.returns
unfolding extensions_of
returns c =
    let a = c.args in
    record {
      answered =
          λ es m q.
          let h = c.loop-place.invariant.2 es m q in
          record {
            list = h.list;
            reads = behind-end _ a.b.now (names es) a.at c.loop-place.place c.loop-place.found h c.loop-place-test.false c.loop-place.invariant.0;
            tree = h.tree;
            undo = h.undo;
            tree_at = seeks-end TREE a.b.now a.at c.loop-place.place _ h.tree_at c.loop-place.invariant.0;
            undo_at = seeks-end REUC a.b.now a.at c.loop-place.place _ h.undo_at c.loop-place.invariant.0;
          };
      frame = c.loop-place.invariant.1;
    }
