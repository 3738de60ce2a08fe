-- The proof that `read32` meets its contract.
use mathlib.Core.Path.{◌≡◌, ap}
use Prim.Native.Nat.{ℕ, ◌+◌}
use native.Mathlib.Omega.{arith}
use lib.ListN.{get_or}
use Rattle.format.specs.Bytes.{be16, be32}
use Rattle.fields.proofs.read32.Goals as goal

pub returns : goal.returns
unfolding be16 be32
returns c =
    let last : c.args.at + 2 + 1 ≡ c.args.at + 3 = omega arith in
    omega (arith, ap (λ (k : ℕ). get_or c.args.s.now k 0) last)
