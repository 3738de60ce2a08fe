-- The proof that `find_in_table` meets its contract.
use mathlib.Core.Path.{sym, ◌∙◌}
use Prim.Native.Nat.{◌+◌, ◌-◌}
use lib.ListN.{get_or}
use native.Mathlib.Omega.{arith}
use Rattle.tree_search.proofs.Lookup.{Tells, slot-tells, tells_none, tells-here, tells-other}
use Rattle.tree_search.proofs.table.find_in_table.Goals as goal
use Rattle.tree_search.proofs.table.find_in_table.Goals.{Else-t-i}

number-tells : (c : Else-t-i) → Tells c.args.w c.args.d.now c.args.at c.args.k c.args.name.now (get_or c.args.t.now (c.slots-slots.result + c.slot_of-i.result) 0)
number-tells c =
    let slot = c.slot_of-i.ensures in
    slot-tells c.args.region _ _ c.requires.2 _ _ _ _ _ _ _ _ c.list.ensures.0 c.first_slot.ensures.0 c.slots-slots.ensures.0
    (sym c.is_of.ensures ∙ c.if-not-is_of.false) c.key_of-key.ensures.0 slot.0 slot.1 slot.2 c.if-t-i.false

pub returns-then-number-eq0 : goal.returns-then-number-eq0
returns-then-number-eq0 c =
    tells_none _ _ _ _ _ (number-tells (goal.at.returns-then-number-eq0 c).Else-t-i) c.requires.0 c.if-number-eq0.true

pub is_named-requires : goal.is_named-requires
is_named-requires c = omega (arith, c.place_of-place.ensures, (number-tells (goal.at.is_named-requires c).Else-t-i).most)

pub returns-then-is_named : goal.returns-then-is_named
returns-then-is_named c =
    let place = c.place_of-place.ensures in
    tells-here _ _ _ _ _ (number-tells (goal.at.returns-then-is_named c).Else-t-i) (omega arith) _ (omega arith) (sym c.is_named.ensures ∙ c.if-is_named.true)

pub returns : goal.returns
returns c =
    let place = c.place_of-place.ensures in
    tells-other _ _ _ _ _ (number-tells (goal.at.returns c).Else-t-i) (omega arith) (c.place_of-place.result - 2) (omega arith) c.requires.0 (sym c.is_named.ensures ∙ c.if-is_named.false)
