-- The proof that `put_place` meets its contract.
use Rattle.tree_search.proofs.Places.{place-not, place-first, place-more}
use mathlib.Core.Path.{sym}
use Rattle.tree_search.proofs.table.put_place.Goals as goal

pub returns-then-t-i : goal.returns-then-t-i
returns-then-t-i c =
    rw (sym c.first_slot.ensures.0, sym c.slots-slots.ensures.0)
    (place-not _ _ _ _ _ _ _ c.key_at-key.ensures c.slot_of-i.ensures.0 c.if-t-i.true)

pub returns-then-t-slots-eq0 : goal.returns-then-t-slots-eq0
returns-then-t-slots-eq0 c =
    rw (sym c.first_slot.ensures.0, sym c.slots-slots.ensures.0)
    (place-first _ _ _ _ _ _ _ c.key_at-key.ensures c.slot_of-i.ensures.0 c.if-t-i.false c.if-t-slots-eq0.true)

pub returns : goal.returns
returns c =
    rw (sym c.first_slot.ensures.0, sym c.slots-slots.ensures.0)
    (place-more _ _ _ _ _ _ _ c.key_at-key.ensures c.slot_of-i.ensures.0 c.if-t-i.false c.if-t-slots-eq0.false)
