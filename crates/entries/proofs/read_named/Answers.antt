-- The proof that `read_named` meets its contract.
use mathlib.Core.Path.{refl, sym, ◌∙◌}
use native.Mathlib.Omega.{arith}
use borrow.Author.Rules.{rules}
use Rattle.entries.proofs.Names.{Long, Named, named-short, part-begun, plain-name, plain-field, plain-short, plain-filled, plain-good}
use Rattle.entries.proofs.read_named.Goals as goal
use Rattle.entries.proofs.read_named.Goals.{Start, Else-field-length_field}

-- what is known of the name's length, and once the name and its field are right
long : (c : Start) → Long c.args.b.now c.args.at c.args.field c.args.n
long c = record { is_n = c.requires.2; long = c.requires.1 }

named :
    (c : Else-field-length_field) →
    Named c.args.b.now c.args.at c.args.field c.args.n
named c =
    record {
      here = (record { is_n = c.requires.2; long = c.requires.1 });
      name = sym c.name_ok_after.ensures ∙ c.if-not-name_ok_after.false;
      counted = c.if-field-length_field.false ∙ c.length_field.ensures;
    }

pub name_ok_after-requires : goal.name_ok_after-requires
name_ok_after-requires c =
    part-begun _ _ _ _ c.requires.1 c.requires.4 c.requires.5

pub returns-then-not-name_ok_after : goal.returns-then-not-name_ok_after
returns-then-not-name_ok_after c =
    let name = sym c.name_ok_after.ensures ∙ c.if-not-name_ok_after.true in
    ((λ p. plain-name _ _ _ _ p _ (long (goal.at.returns-then-not-name_ok_after c).Start) name), omega arith, omega arith, tt)

pub returns-then-field-length_field : goal.returns-then-field-length_field
returns-then-field-length_field c =
    let name = sym c.name_ok_after.ensures ∙ c.if-not-name_ok_after.false in
    ((λ p. plain-field _ _ _ _ p _ (long (goal.at.returns-then-field-length_field c).Start) name (λ e. c.if-field-length_field.true (e ∙ sym c.length_field.ensures))), omega arith, omega arith, tt)

pub entry_length-requires : goal.entry_length-requires
entry_length-requires c = let short = named-short _ _ _ _ (named c) in search rules

pub returns-then-b-at : goal.returns-then-b-at
returns-then-b-at c =
    let m = c.entry_length in
    ((λ p. plain-short _ _ _ _ p _ (named (goal.at.returns-then-b-at c).Else-field-length_field) _ m.ensures.0 m.ensures.1 c.if-b-at.true), omega arith, omega arith, tt)

pub returns-then-not-all_zero : goal.returns-then-not-all_zero
returns-then-not-all_zero c =
    let m = c.entry_length in
    let filled = sym c.all_zero.ensures ∙ c.if-not-all_zero.true in
    ((λ p. plain-filled _ _ _ _ p _ (named (goal.at.returns-then-not-all_zero c).Else-field-length_field) _ m.ensures.0 m.ensures.1 c.if-b-at.false filled), omega arith, omega arith, tt)

pub returns : goal.returns
returns c =
    let m = c.entry_length in
    let clear = sym c.all_zero.ensures ∙ c.if-not-all_zero.false in
    ((λ p. plain-good _ _ _ _ p _ (named (goal.at.returns c).Else-field-length_field) _ m.ensures.0 m.ensures.1 c.if-b-at.false clear), omega arith, omega arith, refl)
