-- The proof that `put_read` meets its contract.
use mathlib.Core.Path.{refl, sym, ◌∙◌}
use mathlib.Core.Bool.{not}
use native.Mathlib.Omega.{arith}
use lib.Dec.{eqb}
use Rattle.format.specs.Bytes.{Bytes}
use Rattle.format_laws.proofs.Tests.{and-inv}
use borrow.Author.Tests.{not-true}
use Rattle.entries_write.proofs.Copies.{head-most, head-end, plain_copied, head-copied}
use Rattle.entries_write.proofs.put_read.Goals as goal

pub returns-then-v-version : goal.returns-then-v-version
returns-then-v-version c =
    let a = c.args in
    let bytes : Bytes a.b.now = λ i. omega (arith, c.type_inv.b i) in
    let (old, new) = and-inv (not (eqb a.v 4)) (not (eqb a.version 4)) c.if-v-version.true in
    plain_copied bytes c.requires.4 c.requires.1 (sym c.stays.ensures ∙ c.if-stays.true) _ refl c.requires.3 (not-true _ old) (not-true _ new) c.put_part.ensures

pub put_name-requires : goal.put_name-requires
put_name-requires c =
    let read = c.requires.1 in
    (omega (arith, c.requires.0, head-end read c.put_part-middle.ensures, head-most c.requires.4 read), head-most c.requires.4 read, rw c.name_at-name.ensures c.requires.3)

pub returns-then-stays : goal.returns-then-stays
returns-then-stays c =
    let a = c.args in
    let bytes : Bytes a.b.now = λ i. omega (arith, c.type_inv.b i) in
    head-copied bytes c.requires.4 c.requires.1 (sym c.stays.ensures ∙ c.if-stays.true) _ c.name_at-name.ensures
    (rw c.name_at-name.ensures c.requires.3) c.put_part-middle.ensures c.put_name.ensures

pub put_step-requires : goal.put_step-requires
put_step-requires c =
    let read = c.requires.1 in
    let next = read.next in
    (c.requires.0, omega (arith, read.least, read.ahead, next.inside), omega (arith, next.behind, next.inside), next.short, c.requires.2, c.requires.3, c.requires.4)
