use mathlib.Core.Path.{sym, ◌∙◌}
use native.Mathlib.Numerals.{unary_clauses}
use native.Mathlib.Omega.{arith}
use Rattle.tree_search.proofs.Telling.{scan-start, scan-on, scan-here, scan-end}
use Rattle.tree_search.proofs.child.scan.Goals as goal

pub loop-init : goal.loop-init
loop-init c = simp unary_clauses (scan-start _ _ _ _ c.requires.0)

pub returns-then-is_named : goal.returns-then-is_named
returns-then-is_named c = scan-here _ _ _ _ _ _ c.loop.invariant (omega arith) (sym c.is_named.ensures ∙ c.if-is_named.true)

pub loop-preserved : goal.loop-preserved
loop-preserved c =
    scan-on _ _ _ _ _ _ c.loop.invariant (omega arith) (sym c.is_named.ensures ∙ c.if-is_named.false) _ _ c.after_tree-place.ensures.0 c.after_tree-place.ensures.1 (omega arith)

pub returns : goal.returns
returns c = scan-end _ _ _ _ _ _ c.loop.invariant (omega arith)
