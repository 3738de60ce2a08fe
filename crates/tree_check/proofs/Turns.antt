-- How many turns of its loop the walk can still take: ahead entries are ahead, entry of them were when the directory was entered, and
-- it is on a level.
use mathlib.Core.Path.{◌≡◌, refl}
use mathlib.Core.Bool.{cond}
use Prim.Native.Nat.{ℕ, ◌+◌, ◌-◌, ◌*◌, ◌≤◌, ◌<◌}
use native.Mathlib.Omega.{arith}
use lib.Dec.{eqb}
use borrow.Author.Tests.{eq-eqb, ne_eqb}
use Rattle.format_laws.proofs.Tests.{by_cond}

-- a part lowers the entries ahead; where a directory was just entered, only further ones can be entered before that
unfoldable pub turns : ℕ → ℕ → ℕ → ℕ
turns ahead entry level = ahead * 1024 + cond (eqb ahead entry) (128 - level) (256 + level)

turns-fresh : (a l : ℕ) → turns a a l ≡ a * 1024 + (128 - l)
unfolding turns
turns-fresh a l = rw (eq-eqb a a refl)

turns-later : (a e l : ℕ) → a < e → turns a e l ≡ a * 1024 + (256 + l)
unfolding turns
turns-later a e l less = rw (ne_eqb a e (λ same. omega arith))

turns-least : (a e l : ℕ) → a * 1024 + (128 - l) ≤ turns a e l
unfolding turns
turns-least a e l = by_cond (λ (n : ℕ). a * 1024 + (128 - l) ≤ a * 1024 + n) (eqb a e) (128 - l) (256 + l) (λ q. omega arith) (λ q. omega arith)

pub turns-most : (a e l : ℕ) → l ≤ 127 → turns a e l ≤ a * 1024 + 383
unfolding turns
turns-most a e l most = by_cond (λ (n : ℕ). a * 1024 + n ≤ a * 1024 + 383) (eqb a e) (128 - l) (256 + l) (λ q. omega arith) (λ q. omega arith)

pub turns-passed : (a b e l : ℕ) → b < a → l ≤ 127 → turns b e l < turns a e l
turns-passed a b e l less most = omega (arith, turns-most b e l most, turns-least a e l)

pub turns-entered : (a e l : ℕ) → l < 127 → turns a a (l + 1) < turns a e l
turns-entered a e l most = omega (arith, turns-fresh a (l + 1), turns-least a e l)

pub turns-left : (a e u l : ℕ) → a < e → a < u → 0 < l → turns a u (l - 1) < turns a e l
turns-left a e u l one two some = omega (arith, turns-later a e l one, turns-later a u (l - 1) two)
