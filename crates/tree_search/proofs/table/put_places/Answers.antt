use native.Mathlib.Numerals.{unary_clauses}
use native.Mathlib.Omega.{arith}
use Rattle.tree_search.proofs.Tables.{filling-start, filling-on, filling-end}
use Rattle.tree_search.proofs.table.put_places.Goals as goal

pub loop-init : goal.loop-init
loop-init c =
    simp unary_clauses
    (filling-start _ _ _ _ _ _ _ _ c.requires.0 c.requires.2 c.requires.3 c.first_slot.ensures.0 c.slots-slots.ensures.0 c.clear.ensures.0 c.clear.ensures.1 c.clear.ensures.2)

pub loop-preserved : goal.loop-preserved
loop-preserved c =
    rw c.put_place.ensures (filling-on _ _ _ _ _ _ _ c.loop.invariant (omega arith) _ _ c.sibling_at-sibling.ensures.after c.sibling_at-sibling.ensures.within (omega arith))

pub returns : goal.returns
returns c =
    rw (c.set_list.ensures, c.list.ensures.0) (filling-end _ _ _ _ _ _ _ c.loop.invariant (omega arith))
