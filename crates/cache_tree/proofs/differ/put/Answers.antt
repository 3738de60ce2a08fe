use Rattle.cache_tree.proofs.Apart.{put-new, put-none, free_other}
use mathlib.Core.Path.{sym}
use Rattle.cache_tree.proofs.differ.put.Goals as goal

pub returns-then-t-slot-eq0 : goal.returns-then-t-slot-eq0
returns-then-t-slot-eq0 c =
    let key = c.key_at-key.ensures in
    let slot = c.slot_of-slot.ensures.0 in
    (sym (free_other _ _ _ _ key slot c.if-t-slot-eq0.true _ c.requires.4), put-new _ _ _ _ key slot c.if-t-slot-eq0.true)

pub returns : goal.returns
returns c = (c.has_name.ensures, put-none _ _ _ _ c.key_at-key.ensures c.slot_of-slot.ensures.0 c.if-t-slot-eq0.false)
