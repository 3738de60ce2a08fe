-- The proof that `put_name` meets its contract.
use Rattle.entries_write.proofs.Names.{name-packed, name-plain}
use Rattle.entries_write.proofs.put_name.Goals as goal

pub returns-then-version-eq4 : goal.returns-then-version-eq4
returns-then-version-eq4 c = name-packed _ _ _ _ _ _ _ _ _ c.if-version-eq4.true c.put_packed.ensures

pub returns : goal.returns
returns c = name-plain _ _ _ _ _ _ _ _ _ c.if-version-eq4.false c.put_plain.ensures
