-- The proof that `read_extension` meets its contract: what the head says, and what the function for its kind answers.
use mathlib.Core.Path.{refl, ◌∙◌}
use native.Mathlib.Omega.{arith}
use Rattle.std.proofs.lemmas.Result.{err_from_is_err_and}
use Rattle.format.specs.Layout.{names}
use Rattle.fields.proofs.Workspace.{frame_same}
use Rattle.extensions.specs.Found.{seen_of}
use Rattle.extensions.proofs.Known.{answered-as}
use Rattle.extensions.proofs.read_extension.Goals as goal

pub add_tree-requires : goal.add_tree-requires
add_tree-requires c =
    let h = rw c.in_ok-head.was at c.read_head.ensures in
    (h.inside, c.requires.1, omega arith)

pub add_undo-requires : goal.add_undo-requires
add_undo-requires c =
    let h = rw c.in_ok-head.was at c.read_head.ensures in
    (h.inside, omega arith, omega arith, omega arith)

pub returns-in_err-head : goal.returns-in_err-head
returns-in_err-head c =
    let a = c.args in
    let h = rw c.in_err-head.was at c.read_head.ensures in
    let (e, is, from) = err_from_is_err_and c.from_residual.result c.from_residual.ensures.1 in
    rw (is, from)
    (record { answered = λ es m q. h.same a.w (names es) (seen_of a.found); inside = tt; frame = frame_same _ })

pub returns-in-Tree : goal.returns-in-Tree
returns-in-Tree c =
    let a = c.args in
    let h = rw c.in_ok-head.was at c.read_head.ensures in
    let r = c.add_tree.ensures in
    record {
      answered = λ es m q. answered-as a.w a.b.now a.at a.found c.add_tree.result (h.same a.w (names es) (seen_of a.found) ∙ rw c.in-Tree.is) (r.answered es m q);
      inside = r.inside;
      frame = r.frame;
    }

pub returns-in-Undo : goal.returns-in-Undo
returns-in-Undo c =
    let a = c.args in
    let h = rw c.in_ok-head.was at c.read_head.ensures in
    let r = c.add_undo.ensures in
    record {
      answered = λ es m q. answered-as a.w a.b.now a.at a.found c.add_undo.result (h.same a.w (names es) (seen_of a.found) ∙ rw c.in-Undo.is) r.0;
      inside = r.1;
      frame = frame_same _;
    }

pub returns-in-Other : goal.returns-in-Other
returns-in-Other c =
    let a = c.args in
    let h = rw c.in_ok-head.was at c.read_head.ensures in
    record { answered = λ es m q. let t = h.same a.w (names es) (seen_of a.found) in (_, rw c.in-Other.is at t, refl); inside = h.inside; frame = frame_same _ }
