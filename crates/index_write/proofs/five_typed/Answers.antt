-- The proof that `five_typed` meets its contract.
use mathlib.Core.Path.{◌≡◌, refl}
use mathlib.Core.Bool.{true}
use native.Mathlib.Omega.{arith}
use lib.Dec.{ltb}
use borrow.Author.Tests.{lt-ltb}
use Rattle.format.specs.Bytes.{fit32}
use Rattle.index_write.proofs.five_typed.Goals as goal

pub returns : goal.returns
unfolding fit32
returns c =
    let a = c.args in
    let fa : ltb a.a 4294967296 ≡ true = omega (arith, lt-ltb) in
    let fb : ltb a.b 4294967296 ≡ true = omega (arith, lt-ltb) in
    let fc : ltb a.c 4294967296 ≡ true = omega (arith, lt-ltb) in
    let fd : ltb a.d 4294967296 ≡ true = omega (arith, lt-ltb) in
    let fe : ltb a.e 4294967296 ≡ true = omega (arith, lt-ltb) in
    rw (fa, fb, fc, fd, fe) refl
