-- The proof that `read_plain` meets its contract.
use native.Mathlib.Omega.{arith}
use borrow.Author.Rules.{rules}
use Rattle.fields.proofs.Beginnings.{begun-none}
use Rattle.entries.proofs.Names.{plain-cut}
use Rattle.entries.proofs.read_plain.Goals as goal

pub returns-then-b-at : goal.returns-then-b-at
returns-then-b-at c =
    let m = c.plain_length-n in
    let a = c.args in
    ((λ p. plain-cut a.b.now a.at _ _ p _ m.ensures.0 c.if-b-at.true), omega arith, omega arith)

pub read_named-requires : goal.read_named-requires
read_named-requires c = let none = begun-none in search rules
