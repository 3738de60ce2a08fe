-- The proof that `put_five` meets its contract.
use native.Mathlib.Omega.{arith}
use Rattle.entries_edit.proofs.Records.{after-32, five-wrote}
use Rattle.entries_edit.proofs.record.put_five.Goals as goal

pub put_32-third-requires : goal.put_32-third-requires
put_32-third-requires c =
    let e₁ = after-32 _ c.put_32-second.ensures in
    omega arith

pub put_32-fourth-requires : goal.put_32-fourth-requires
put_32-fourth-requires c =
    let e₁ = after-32 _ c.put_32-second.ensures in
    let e₂ = after-32 _ c.put_32-third.ensures in
    omega arith

pub put_32-fifth-requires : goal.put_32-fifth-requires
put_32-fifth-requires c =
    let e₁ = after-32 _ c.put_32-second.ensures in
    let e₂ = after-32 _ c.put_32-third.ensures in
    let e₃ = after-32 _ c.put_32-fourth.ensures in
    omega arith

pub put_32-requires : goal.put_32-requires
put_32-requires c =
    let e₁ = after-32 _ c.put_32-second.ensures in
    let e₂ = after-32 _ c.put_32-third.ensures in
    let e₃ = after-32 _ c.put_32-fourth.ensures in
    let e₄ = after-32 _ c.put_32-fifth.ensures in
    omega arith

pub returns : goal.returns
returns c =
    five-wrote _ _ _ _ _ c.put_32-second.ensures c.put_32-third.ensures c.put_32-fourth.ensures c.put_32-fifth.ensures c.put_32.ensures
