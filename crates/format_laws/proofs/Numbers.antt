-- Laws of bytes and of binary numbers: what is put is read back, and what is read puts the bytes back.
use mathlib.Core.Path.{◌≡◌, refl, sym, ◌∙◌}
use mathlib.Core.List.{List, [], ◌∷◌, ◌++◌}
use mathlib.Core.Bool.{Bool, true, false}
use Prim.Native.Nat.{ℕ, zero, suc, ◌+◌, ◌-◌, ◌*◌, ◌/◌, ◌%◌, ◌≤◌, ◌<◌}
use native.Mathlib.Omega.{arith}
use lib.ListN.{length, take, drop, length-drop}
use lib.Seq.{drop-drop, drop_at, get_or-drop, get_or-take, take-add}
use Rattle.format.specs.Bytes.{Bytes, be16, be32, put16, put32}
use Rattle.format.specs.Layout.{bit}
use Rattle.format_laws.proofs.Lists.{take-two}

-- one less and one more
pub suc-pred : (n : ℕ) → 0 < n → n ≡ suc (n - 1)
suc-pred n h = omega arith

-- a bit as a number
pub bit_below : (t : Bool) → bit t < 2
bit_below true = omega arith
bit_below false = omega arith

-- ---- bytes

pub bytes_drop : (n : ℕ) (s : List ℕ) → Bytes s → Bytes (drop n s)
bytes_drop n s h i = rw (get_or-drop n s i 0) (h (n + i))

pub bytes-tail : (x : ℕ) (s : List ℕ) → Bytes (x ∷ s) → Bytes s
bytes-tail x s h i = h (suc i)

pub bytes_take : (n : ℕ) (s : List ℕ) → Bytes s → Bytes (take n s)
bytes_take zero s h i = omega arith
bytes_take (suc n) [] h i = omega arith
bytes_take (suc n) (x ∷ s) h zero = h zero
bytes_take (suc n) (x ∷ s) h (suc i) = bytes_take n s (bytes-tail x s h) i

-- ---- 16-bit and 32-bit numbers

pub length-put16 : (n : ℕ) → length (put16 n) ≡ 2
unfolding put16
length-put16 n = refl

pub length-put32 : (n : ℕ) → length (put32 n) ≡ 4
unfolding put32 put16
length-put32 n = refl

-- the place of a number may be reached by drop
pub be16-drop : (n : ℕ) (s : List ℕ) (a : ℕ) → be16 (drop n s) a ≡ be16 s (n + a)
unfolding be16
be16-drop n s a =
    let next : n + (a + 1) ≡ n + a + 1 = omega arith in
    rw (get_or-drop n s a 0, get_or-drop n s (a + 1) 0, next) refl

pub be32-drop : (n : ℕ) (s : List ℕ) (a : ℕ) → be32 (drop n s) a ≡ be32 s (n + a)
unfolding be32
be32-drop n s a =
    let next : n + (a + 2) ≡ n + a + 2 = omega arith in
    rw (be16-drop n s a, be16-drop n s (a + 2), next) refl

-- a number within the first n bytes
pub be32-take : (s : List ℕ) (n a : ℕ) → a + 4 ≤ n → be32 (take n s) a ≡ be32 s a
unfolding be32 be16
be32-take s n a h =
    rw (get_or-take n s a 0 (omega arith), get_or-take n s (a + 1) 0 (omega arith), get_or-take n s (a + 2) 0 (omega arith), get_or-take n s (a + 2 + 1) 0 (omega arith)) refl

-- what is put is read back, whatever is before and after
be16-put16 : (n : ℕ) (r : List ℕ) → n < 65536 → be16 (put16 n ++ r) 0 ≡ n
unfolding be16 put16
be16-put16 n r h = omega arith

pub be32-put32 : (n : ℕ) (r : List ℕ) → n < 4294967296 → be32 (put32 n ++ r) 0 ≡ n
unfolding be32 be16 put32 put16
be32-put32 n r h = omega arith

pub be16-here : (s : List ℕ) (a n : ℕ) (r : List ℕ) → drop a s ≡ put16 n ++ r → n < 65536 → be16 s a ≡ n
be16-here s a n r e h =
    let here : a + 0 ≡ a = omega arith in
    let read : be16 (drop a s) 0 ≡ n = rw e (be16-put16 n r h) in
    rw here at (sym (be16-drop a s 0) ∙ read)

pub be32-here : (s : List ℕ) (a n : ℕ) (r : List ℕ) → drop a s ≡ put32 n ++ r → n < 4294967296 → be32 s a ≡ n
be32-here s a n r e h =
    let here : a + 0 ≡ a = omega arith in
    let read : be32 (drop a s) 0 ≡ n = rw e (be32-put32 n r h) in
    rw here at (sym (be32-drop a s 0) ∙ read)

pub be32-at : (p : List ℕ) (n : ℕ) (r : List ℕ) (a : ℕ) → length p ≡ a → n < 4294967296 → be32 (p ++ (put32 n ++ r)) a ≡ n
be32-at p n r a e h = be32-here (p ++ (put32 n ++ r)) a n r (drop_at p (put32 n ++ r) a e) h

-- what is read fits, and puts the bytes back
pub be16-below : (s : List ℕ) (a : ℕ) → Bytes s → be16 s a < 65536
unfolding be16
be16-below s a h = omega (arith, h a, h (a + 1))

pub be32-below : (s : List ℕ) (a : ℕ) → Bytes s → be32 s a < 4294967296
unfolding be32
be32-below s a h = omega (arith, be16-below s a h, be16-below s (a + 2) h)

put16-word : (x y : ℕ) → x < 256 → y < 256 → put16 (x * 256 + y) ≡ x ∷ y ∷ []
unfolding put16
put16-word x y hx hy =
    let p : (x * 256 + y) / 256 % 256 ≡ x = omega arith in
    let q : (x * 256 + y) % 256 ≡ y = omega arith in cc

put32-word : (x y : ℕ) → y < 65536 → put32 (x * 65536 + y) ≡ put16 x ++ put16 y
unfolding put32 put16
put32-word x y h =
    let p : (x * 65536 + y) / 65536 ≡ x = omega arith in
    let q : (x * 65536 + y) / 256 % 256 ≡ y / 256 % 256 = omega arith in
    let r : (x * 65536 + y) % 256 ≡ y % 256 = omega arith in cc

pub put16-be16 : (s : List ℕ) (a : ℕ) → Bytes s → a + 2 ≤ length s → put16 (be16 s a) ≡ take 2 (drop a s)
unfolding be16
put16-be16 s a h l =
    let long : 2 ≤ length (drop a s) = simp length-drop (omega arith) in
    let here : a + 0 ≡ a = omega arith in
    put16-word _ _ (h a) (h (a + 1)) ∙ sym (rw (take-two (drop a s) long, get_or-drop a s 0 0, get_or-drop a s 1 0, here) refl)

pub put32-be32 : (s : List ℕ) (a : ℕ) → Bytes s → a + 4 ≤ length s → put32 (be32 s a) ≡ take 4 (drop a s)
unfolding be32
put32-be32 s a h l =
    put32-word _ _ (be16-below s (a + 2) h)
    ∙ rw (put16-be16 s a h (omega arith), put16-be16 s (a + 2) h (omega arith), ← (drop-drop 2 a s)) (sym (take-add 2 2 (drop a s)))
