-- The proof that `show_undo` meets its contract: the record is read by itself, and its object names are at its end.
use mathlib.Core.Path.{sym}
use Prim.Native.Nat.{◌+◌, ◌≤◌}
use native.Mathlib.Omega.{arith}
use lib.ListN.{length}
use Rattle.resolve_undo.specs.Answers.{object_length}
use Rattle.resolve_undo.proofs.Laws.{record-bounds}
use Rattle.resolve_undo.proofs.Records.{within}
use Rattle.resolve_undo.proofs.Showing.{shown-out, shown-bad, shown-good, objects-end}
use Rattle.resolve_undo.proofs.show_undo.Goals as goal
use Rattle.resolve_undo.proofs.show_undo.Goals.{In_ok-r}

-- the object names end in the data
ends : (c : In_ok-r) →
    let g = c.in_ok-r.r in
    let a = c.args in
    g.objects + object_length a.w g.first + object_length a.w g.second + object_length a.w g.third ≤ length a.d.now
ends c =
    let end = objects-end _ _ _ _ c.read_undo.ensures c.requires.0 _ c.in_ok-r.was in
    let b = record-bounds _ _ _ _ c.read_undo.ensures.1 c.in_ok-r.was in
    omega arith

pub returns-then-d-place : goal.returns-then-d-place
returns-then-d-place c =
    let a = c.args in
    let out : length a.d.now ≤ a.place = omega arith in
    (λ p. sym (shown-out _ p a.place a.d.now out), tt)

pub returns-in_err-r : goal.returns-in_err-r
returns-in_err-r c =
    rw c.from_residual.ensures (λ p. sym (shown-bad _ _ _ _ c.read_undo.ensures c.in_err-r.was p), tt)

pub overflow_add-second : goal.overflow_add-second
overflow_add-second c = let e = ends (goal.at.overflow_add-second c).In_ok-r in omega arith

pub overflow_add-third : goal.overflow_add-third
overflow_add-third c = let e = ends (goal.at.overflow_add-third c).In_ok-r in omega arith

pub show_stage-requires : goal.show_stage-requires
show_stage-requires c = let e = ends (goal.at.show_stage-requires c).In_ok-r in omega arith

pub show_stage-requires-2 : goal.show_stage-requires-2
show_stage-requires-2 c = let e = ends (goal.at.show_stage-requires-2 c).In_ok-r in omega arith

pub show_stage-requires-3 : goal.show_stage-requires-3
show_stage-requires-3 c = let e = ends (goal.at.show_stage-requires-3 c).In_ok-r in omega arith

pub returns : goal.returns
returns c = (
  λ p.
      rw (c.show_stage-3.ensures, c.show_stage-2.ensures, c.show_stage.ensures)
      (sym
      (shown-good _ _ _ _ c.read_undo.ensures c.requires.0 _ c.in_ok-r.was _ _ c.object_length.ensures.0 c.object_length-2.ensures.0 p)),
  (within _ _ _ _ _ c.read_undo.ensures _ c.in_ok-r.was c.requires.0 c.if-d-place.false).2,
)
