-- The proof that `put_record` meets its contract.
use mathlib.Core.Path.{◌≡◌, refl}
use mathlib.Core.Bool.{Bool, true, false}
use Prim.Native.Nat.{ℕ}
use Rattle.std.specs.Int.{from_bool}
use Rattle.format.specs.Layout.{bit}
use native.Mathlib.Omega.{arith}
use Rattle.format_laws.proofs.Numbers.{bit_below}
use Rattle.entries_edit.proofs.Records.{record-wrote}
use Rattle.entries_edit.proofs.record.put_record.Goals as goal

-- a bool as a number
bit-is : (b : Bool) (n : ℕ) → n ≡ from_bool b → n ≡ bit b
bit-is true n e = e
bit-is false n e = e

pub overflow_add-word : goal.overflow_add-word
overflow_add-word c =
    let x = c.args.fields in
    omega (arith, bit_below x.skip_worktree, bit_below x.intent_to_add)

pub put_rest-requires : goal.put_rest-requires
put_rest-requires c =
    let x = c.args.fields in
    (omega arith, omega (arith, bit_below x.assume_valid), c.requires.2, omega arith)

pub returns : goal.returns
returns c =
    let a = c.args in
    let first = c.put_fields-middle.ensures in
    record-wrote _ a.fields a.name.now _ _ _ first.0 c.requires.3 first.1 (rw (bit-is _ _ c.from.ensures) refl) (rw (bit-is _ _ c.from-2.ensures) refl) (rw (bit-is _ _ c.from-3.ensures) refl) c.put_rest.ensures
