use Rattle.cache_tree.proofs.Apart.{free_other}
use mathlib.Core.Path.{sym}
use Rattle.cache_tree.proofs.differ.is_known.Goals as goal

pub returns-then-t-slot-eq0 : goal.returns-then-t-slot-eq0
returns-then-t-slot-eq0 c = sym (free_other _ _ _ _ c.key_at.ensures c.slot_of-slot.ensures.0 c.if-t-slot-eq0.true _ c.requires.4)

pub returns : goal.returns
returns c = c.has_name.ensures
