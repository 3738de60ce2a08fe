-- The proof that `read_undo` meets its contract.
use mathlib.Core.Path.{◌≡◌, sym, ◌∙◌}
use mathlib.Core.Bool.{◌&&◌}
use Prim.Native.Nat.{◌+◌, ◌-◌, ◌<◌}
use native.Mathlib.Omega.{arith}
use lib.ListN.{length, take, drop}
use Rattle.format.specs.Names.{ok_name, compare, is_below}
use Rattle.format_laws.proofs.Lists.{part_length}
use Rattle.resolve_undo.proofs.Laws.{record-within, undo-none, undo-path, undo-rest}
use Rattle.resolve_undo.proofs.read_undo.Goals as goal
use Rattle.resolve_undo.proofs.read_undo.Goals.{After-path_ok}

-- what `path_ok` answers, of the path and of the path before it
path-is : (c : After-path_ok) →
    let a = c.args in
    let path = take (c.find-e.result - a.at) (drop a.at a.d.now) in
    (ok_name path && is_below (compare (take a.size (drop a.prior a.d.now)) path)) ≡ c.path_ok.result
path-is c =
    let a = c.args in
    let size : a.prior + a.size - a.prior ≡ a.size = omega arith in
    sym (rw size at c.path_ok.ensures)

pub returns-then-e-d : goal.returns-then-e-d
returns-then-e-d c =
    let a = c.args in
    (λ p. sym (undo-none _ a.at _ a.d.now _ c.find-e.ensures.0 c.requires.0 p c.if-e-d.true), tt)

pub returns-then-path_ok : goal.returns-then-path_ok
returns-then-path_ok c =
    let a = c.args in
    let more : c.find-e.result < length a.d.now = omega arith in (
      λ p.
          sym
          (undo-rest _ a.at _ a.d.now _ c.find-e.ensures.0 c.requires.0 p more (path-is (goal.at.returns-then-path_ok c).After-path_ok ∙ c.if-path_ok.true)
          ∙ sym (c.read_modes.ensures.0 p _ (part_length a.d.now a.at c.find-e.result (omega arith)))),
      record-within a.at (c.find-e.result + 1) (length a.d.now) c.read_modes.result (omega arith) c.read_modes.ensures.1,
    )

pub returns : goal.returns
returns c =
    let a = c.args in
    let more : c.find-e.result < length a.d.now = omega arith in
    (λ p. sym (undo-path _ a.at _ a.d.now _ c.find-e.ensures.0 c.requires.0 p more (path-is (goal.at.returns c).After-path_ok ∙ c.if-path_ok.false)), tt)
