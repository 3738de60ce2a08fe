use native.Mathlib.Numerals.{unary_clauses}
use native.Mathlib.Omega.{arith}
use Rattle.tree_search.proofs.Telling.{cursor-all, cursor-next}
use Rattle.tree_search.proofs.Rows.{mark_set}
use Rattle.tree_search.proofs.cursors.set_cursors.Goals as goal

pub loop-passed-init : goal.loop-passed-init
loop-passed-init c = (simp unary_clauses (cursor-all _ _ _ c.requires.1.inside), c.requires.1)

pub loop-passed-preserved : goal.loop-passed-preserved
loop-passed-preserved c =
    let inv = c.loop-passed.invariant in
    (cursor-next _ _ _ _ _ inv.0 (omega arith) _ _ c.after_tree-place.ensures.0 c.after_tree-place.ensures.1 (omega arith), c.set_cursor.ensures _ _ _ inv.0 inv.1)

pub returns : goal.returns
returns c = mark_set _ _ _ _ _ c.loop-passed.invariant.1 _ (omega (arith, c.list_of.ensures)) 1
