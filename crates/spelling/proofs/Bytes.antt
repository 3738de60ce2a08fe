-- Laws of an entry's numbers and NULs: what is put is read back, and what is read, where every element is a byte, puts the bytes back.
use mathlib.Core.Path.{◌≡◌, refl, sym, ap, ◌∙◌}
use mathlib.Core.List.{List, [], ◌∷◌, ◌++◌, append_assoc}
use mathlib.Core.Bool.{true}
use Prim.Native.Nat.{ℕ, zero, suc, ◌+◌, ◌-◌, ◌*◌, ◌/◌, ◌%◌, ◌≤◌, ◌<◌}
use native.Mathlib.Omega.{arith}
use lib.ListN.{length, take, drop, get_or, replicate, length-append}
use lib.Seq.{drop-drop, drop_at, take-add}
use lib.Dec.{eqb, ltb}
use borrow.Author.Tests.{ltb-true, lt-ltb, le-ltb, eqb-true}
use Rattle.format.specs.Bytes.{Bytes, be32, be32s, put32, put32s, fit32, two, put_n, zeros}
use Rattle.format_laws.proofs.Tests.{and-inv, and_both}
use Rattle.format_laws.proofs.Numbers.{length-put32, be32-drop, be32-put32, be32-below, put32-be32}

-- ---- several 32-bit numbers

pub length-put32s : (ns : List ℕ) → length (put32s ns) ≡ 4 * length ns
unfolding put32s
length-put32s [] = refl
length-put32s (n ∷ ns) = rw (length-append (put32 n) (put32s ns)) (omega (arith, length-put32 n, length-put32s ns))

pub length-be32s : (s : List ℕ) (a n : ℕ) → length (be32s s a n) ≡ n
unfolding be32s
length-be32s s a zero = refl
length-be32s s a (suc n) = ap suc (length-be32s s (a + 4) n)

pub be32s-drop : (k : ℕ) (s : List ℕ) (a n : ℕ) → be32s (drop k s) a n ≡ be32s s (k + a) n
unfolding be32s
be32s-drop k s a zero = refl
be32s-drop k s a (suc n) =
    let next : k + (a + 4) ≡ k + a + 4 = omega arith in
    rw (be32-drop k s a, be32s-drop k s (a + 4) n, next) refl

pub get_or-be32s : (s : List ℕ) (a n i : ℕ) → i < n → get_or (be32s s a n) i 0 ≡ be32 s (a + 4 * i)
unfolding be32s
get_or-be32s s a zero i h = absurd (omega arith)
get_or-be32s s a (suc n) zero h = let here : a + 4 * 0 ≡ a = omega arith in rw here refl
get_or-be32s s a (suc n) (suc i) h =
    let next : a + 4 + 4 * i ≡ a + 4 * suc i = omega arith in
    rw (get_or-be32s s (a + 4) n i (omega arith), next) refl

-- what is put is read back
pub be32s-put32s : (ns r : List ℕ) → fit32 ns ≡ true → be32s (put32s ns ++ r) 0 (length ns) ≡ ns
unfolding be32s put32s fit32
be32s-put32s [] r h = refl
be32s-put32s (n ∷ ns) r h =
    let (small, rest) = and-inv (ltb n 4294967296) (fit32 ns) h in
    let s : List ℕ = put32 n ++ (put32s ns ++ r) in
    let head : be32 s 0 ≡ n = be32-put32 n (put32s ns ++ r) (ltb-true _ _ small) in
    let seam : drop 4 s ≡ put32s ns ++ r = drop_at (put32 n) (put32s ns ++ r) 4 (length-put32 n) in
    let tail : be32s s 4 (length ns) ≡ ns = sym (be32s-drop 4 s 0 (length ns)) ∙ rw seam (be32s-put32s ns r rest) in
    ap (λ (x : List ℕ). be32s x 0 (length (n ∷ ns))) (append_assoc (put32 n) (put32s ns) r) ∙ rw (head, tail) refl

-- what is read fits, and puts the bytes back
pub fit32-be32s : (s : List ℕ) (a n : ℕ) → Bytes s → fit32 (be32s s a n) ≡ true
unfolding be32s fit32
fit32-be32s s a zero h = refl
fit32-be32s s a (suc n) h = and_both _ _ (lt-ltb _ _ (be32-below s a h)) (fit32-be32s s (a + 4) n h)

pub put32s-be32s : (s : List ℕ) (a n : ℕ) → Bytes s → a + 4 * n ≤ length s → put32s (be32s s a n) ≡ take (4 * n) (drop a s)
unfolding be32s put32s
put32s-be32s s a zero h l = refl
put32s-be32s s a (suc n) h l =
    let more : 4 * suc n ≡ 4 + 4 * n = omega arith in
    rw (put32-be32 s a h (omega arith), put32s-be32s s (a + 4) n h (omega arith), ← (drop-drop 4 a s), more) (sym (take-add 4 (4 * n) (drop a s)))

-- ---- the number N of version 4

pub put_n-one : (n : ℕ) → n < 128 → put_n n ≡ n ∷ []
unfolding put_n
put_n-one n h = rw (lt-ltb n 128 h) refl

pub put_n-two : (n : ℕ) → 128 ≤ n → put_n n ≡ (128 + n / 128 - 1) ∷ n % 128 ∷ []
unfolding put_n
put_n-two n h = rw (le-ltb n 128 h) refl

-- what is put is read back
pub two-put_n : (n : ℕ) → 128 ≤ n → two (128 + n / 128 - 1) (n % 128) ≡ n
unfolding two
two-put_n n h = omega arith

-- what is read puts the bytes back
pub put_n-of-two : (a b : ℕ) → 128 ≤ a → b < 128 → put_n (two a b) ≡ a ∷ b ∷ []
unfolding two
put_n-of-two a b ha hb =
    let n : ℕ = (a - 128 + 1) * 128 + b in
    let p : 128 + n / 128 - 1 ≡ a = omega arith in
    let q : n % 128 ≡ b = omega arith in
    put_n-two n (omega arith) ∙ (cc)

-- ---- NULs

pub zeros-replicate : (n : ℕ) → zeros (replicate n 0) ≡ true
unfolding zeros
zeros-replicate zero = refl
zeros-replicate (suc n) = zeros-replicate n

pub replicate-zeros : (s : List ℕ) → zeros s ≡ true → s ≡ replicate (length s) 0
unfolding zeros
replicate-zeros [] h = refl
replicate-zeros (x ∷ s) h =
    let (p, q) = and-inv (eqb x 0) (zeros s) h in
    let head : x ≡ 0 = eqb-true x 0 p in
    let tail : s ≡ replicate (length s) 0 = replicate-zeros s q in cc
