-- Laws of lists of bytes: when two are equal, and their parts.
use mathlib.Core.Path.{◌≡◌, refl, sym, ap, ◌∙◌}
use mathlib.Core.List.{List, [], ◌∷◌, ◌++◌}
use mathlib.Core.Bool.{true, false}
use Prim.Native.Nat.{ℕ, zero, suc, ◌+◌, ◌-◌, ◌≤◌, ◌<◌}
use native.Mathlib.Nat.{sub-zero}
use native.Mathlib.Numerals.{add-one}
use native.Mathlib.Omega.{arith}
use lib.ListN.{length, get_or, take, drop, replicate, length-drop, length-replicate}
use lib.Seq.{length-take-le, drop-cons, take-suc, get_or-drop, drop-drop, take-add, drop_at}
use lib.Dec.{eqb}
use borrow.Author.Tests.{eqb-true, eq-eqb}
use Rattle.format.specs.Bytes.{eq_list}
use Rattle.format_laws.proofs.Tests.{false-true, cond-inv, eqb_swap}

-- ---- eq_list decides equality

pub eq_list-true : (s t : List ℕ) → eq_list s t ≡ true → s ≡ t
unfolding eq_list
eq_list-true [] [] e = refl
eq_list-true [] (y ∷ t) e = false-true e
eq_list-true (x ∷ s) [] e = false-true e
eq_list-true (x ∷ s) (y ∷ t) e =
    cond-inv (eqb x y) (eq_list s t) false true e
    (λ p q.
    let head : x ≡ y = eqb-true x y p in
    let tail : s ≡ t = eq_list-true s t q in cc)
    (λ p q. false-true q)

pub eq_list-refl : (s : List ℕ) → eq_list s s ≡ true
unfolding eq_list
eq_list-refl [] = refl
eq_list-refl (x ∷ s) = rw (eq-eqb x x refl) (eq_list-refl s)

pub eq-eq_list : (s t : List ℕ) → s ≡ t → eq_list s t ≡ true
eq-eq_list s t e = rw e (eq_list-refl t)

pub eq_list-swap : (s t : List ℕ) → eq_list s t ≡ eq_list t s
unfolding eq_list
eq_list-swap [] [] = refl
eq_list-swap [] (y ∷ t) = refl
eq_list-swap (x ∷ s) [] = refl
eq_list-swap (x ∷ s) (y ∷ t) = rw (eqb_swap x y, eq_list-swap s t)

-- ---- the first bytes

pub take-one : (s : List ℕ) → 1 ≤ length s → take 1 s ≡ get_or s 0 0 ∷ []
take-one [] h = absurd (omega arith)
take-one (x ∷ s) h = refl

pub take-two : (s : List ℕ) → 2 ≤ length s → take 2 s ≡ get_or s 0 0 ∷ get_or s 1 0 ∷ []
take-two [] h = absurd (omega arith)
take-two (x ∷ []) h = absurd (omega arith)
take-two (x ∷ y ∷ s) h = refl

-- ---- the part from a to e

pub part_length : (s : List ℕ) (a e : ℕ) → e ≤ length s → length (take (e - a) (drop a s)) ≡ e - a
part_length s a e h = let l = length-drop a s in length-take-le (e - a) (drop a s) (omega arith)

-- one that is one longer at its end
pub part-more : (s : List ℕ) (a e : ℕ) → a ≤ e → e < length s → take (e + 1 - a) (drop a s) ≡ take (e - a) (drop a s) ++ (get_or s e 0 ∷ [])
part-more s a e h l =
    let n : e + 1 - a ≡ suc (e - a) = omega arith in
    let k : a + (e - a) ≡ e = omega arith in
    let d : e - a < length (drop a s) = simp length-drop (omega arith) in
    rw (n, take-suc (drop a s) (e - a) 0 d, get_or-drop, k)

-- its first byte and the others
pub part-cons : (s : List ℕ) (a e : ℕ) → a < e → e ≤ length s → take (e - a) (drop a s) ≡ get_or s a 0 ∷ take (e - (a + 1)) (drop (a + 1) s)
part-cons s a e h l =
    let n : e - a ≡ suc (e - (a + 1)) = omega arith in
    let d : a < length s = omega arith in
    rw (n, drop-cons s a 0 d, add-one)

-- a part of a part
pub part-inside : (s : List ℕ) (a n m : ℕ) → n ≤ m → a + n ≤ length s → take (a + m - (a + n)) (drop (a + n) s) ≡ drop n (take m (drop a s))
part-inside s a n m h l =
    let k : a + m - (a + n) ≡ m - n = omega arith in
    let e : n + (m - n) ≡ m = omega arith in
    let d : n ≤ length (drop a s) = simp length-drop (omega arith) in
    let front : List ℕ = take n (drop a s) in
    let back : List ℕ = take (m - n) (drop n (drop a s)) in
    rw
    (k, ← drop-drop)
    (sym (ap (λ (i : ℕ). drop n (take i (drop a s))) (sym e) ∙ ap (drop n) (take-add n (m - n) (drop a s)) ∙ drop_at front back n (length-take-le n (drop a s) d)))

-- ---- what follows a place

-- a place further on
pub drop-to : (d : List ℕ) (at m next : ℕ) → next ≡ at + m → drop m (drop at d) ≡ drop next d
drop-to d at m next e = drop-drop m at d ∙ ap (λ (n : ℕ). drop n d) (sym e)

-- what follows n zeros
pub past-zeros : (n : ℕ) (s : List ℕ) → drop n (replicate n 0 ++ s) ≡ s
past-zeros n s = drop_at (replicate n 0) s n (length-replicate {A = ℕ} n 0)

-- zeros without the first of them
pub drop-zeros : (k n : ℕ) → drop k (replicate n 0) ≡ replicate {A = ℕ} (n - k) 0
drop-zeros zero n = rw sub-zero
drop-zeros (suc k) zero = let e : 0 - suc k ≡ 0 = omega arith in rw e
drop-zeros (suc k) (suc n) = let e : suc n - suc k ≡ n - k = omega arith in rw e (drop-zeros k n)

-- n zeros with w bytes of d copied over the first of them
pub copied-over : (n w at e : ℕ) (d : List ℕ) → e ≡ at + w
    → take 0 (replicate n 0) ++ (take (e - at) (drop at d) ++ drop (0 + length (take (e - at) (drop at d))) (replicate n 0))
    ≡ take w (drop at d) ++ replicate (n - length (take w (drop at d))) 0
copied-over n w at e d is =
    let size : e - at ≡ w = omega arith in
    let from : 0 + length (take w (drop at d)) ≡ length (take w (drop at d)) = omega arith in
    rw (size, from, drop-zeros (length (take w (drop at d))) n)
