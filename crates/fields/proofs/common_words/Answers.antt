use mathlib.Core.Path.{◌≡◌}
use Prim.Native.Nat.{ℕ, ◌+◌, ◌*◌}
use native.Mathlib.Omega.{arith}
use Rattle.format.specs.Bytes.{Bytes}
use Rattle.fields.specs.Words.{little}
use Rattle.fields.proofs.Laws.{common-many}
use Rattle.fields.proofs.common_words.Goals as goal

pub loop-k-preserved : goal.loop-k-preserved
loop-k-preserved c =
    let a = c.args in
    let at : ℕ = 8 * c.loop-k.k in
    let s-bytes : Bytes a.s.now = λ j. omega (arith, c.type_inv.s j) in
    let t-bytes : Bytes a.t.now = λ j. omega (arith, c.type_inv.t j) in
    let same : little 8 a.s.now at ≡ little 8 a.t.now at = omega arith in
    let next : at + 8 ≡ 8 * (c.loop-k.k + 1) = omega arith in
    omega (arith, rw next at (common-many 8 a.s.now a.t.now at s-bytes t-bytes (omega arith) (omega arith) same))
