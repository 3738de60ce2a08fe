-- The name of an entry as it is written, and that no other spelling in version 4 drops fewer bytes of the name before.
use mathlib.Core.Path.{◌≡◌, refl, sym}
use mathlib.Core.List.{List, [], ◌∷◌, ◌++◌}
use mathlib.Core.Bool.{Bool, true, false, cond}
use Prim.Native.Nat.{ℕ, zero, suc, ◌-◌, ◌≤◌}
use native.Mathlib.Omega.{arith}
use lib.ListN.{length, take, drop, take-append-drop}
use lib.Dec.{eqb}
use borrow.Author.Tests.{eq-eqb}
use Rattle.format.specs.Names.{common}
use Rattle.format.specs.Layout.{when, Plain, Packed, NameBytes}
use Rattle.format.specs.Writer.{write_plain, write_packed, write_name}
use Rattle.format_laws.proofs.Names.{common-le, common-take}

-- ---- the bytes that two names have in common

-- whatever beginning of s begins t is no longer
pub common-most : (k : ℕ) (s t u : List ℕ) → k ≤ length s → t ≡ take k s ++ u → k ≤ common s t
unfolding common
common-most zero s t u h e = omega arith
common-most (suc k) [] t u h e = absurd (omega arith)
common-most (suc k) (x ∷ s) [] u h e = let z : ◌≡◌ {A = ℕ} 0 1 = cc in absurd (omega arith)
common-most (suc k) (x ∷ s) (y ∷ t) u h e =
    let head : x ≡ y = cc in
    let tail : t ≡ take k s ++ u = cc in
    let rest : k ≤ common s t = common-most k s t u (omega arith) tail in
    rw (eq-eqb x y head) (omega arith)

-- ---- the name

packed-written : (previous name : List ℕ) → Packed previous name (write_packed previous name)
unfolding write_packed
packed-written previous name =
    let c : ℕ = common previous name in
    let within : c ≤ length previous = (common-le previous name).0 in
    let back : length previous - (length previous - c) ≡ c = omega arith in
    record {
      n = length previous - c;
      s = drop c name;
      within = omega arith;
      joined = rw (back, common-take previous name) (sym (take-append-drop c name));
      bytes = refl;
    }

pub name-written : (v f : ℕ) (previous name : List ℕ) → NameBytes v f previous name (write_name v f previous name)
unfolding write_name write_plain
name-written v f previous name = go (eqb v 4)
  where
    go : (t : Bool) → when t (Packed previous name (cond t (write_packed previous name) (write_plain f name))) (Plain f name (cond t (write_packed previous name) (write_plain f name)))
    go true = packed-written previous name
    go false = refl

-- the number of bytes that are dropped is the smallest of any spelling
pub smallest : (previous name a : List ℕ) (h : Packed previous name a) → length previous - common previous name ≤ h.n
smallest previous name a h =
    let most : length previous - h.n ≤ common previous name = common-most (length previous - h.n) previous name h.s (omega arith) h.joined in
    omega arith
