-- Numbers and texts in bytes. A byte is a number below 256; numbers are big-endian.
use Rattle.std.specs.Prelude.{List, [], ◌∷◌, ◌++◌, Bool, true, false, cond, not, ◌&&◌, ℕ, zero, suc, ◌+◌, ◌-◌, ◌*◌, ◌/◌, ◌%◌, ◌<◌, get_or, eqb, leb, ltb}

-- every element is a byte
abbrev pub Bytes : List ℕ → Type 0
Bytes s = (i : ℕ) → get_or s i 0 < 256

-- ---- binary numbers

-- the 16-bit and the 32-bit number at a
unfoldable pub be16 : List ℕ → ℕ → ℕ
be16 s a = get_or s a 0 * 256 + get_or s (a + 1) 0

unfoldable pub be32 : List ℕ → ℕ → ℕ
be32 s a = be16 s a * 65536 + be16 s (a + 2)

-- n of them, from a on
unfoldable pub be32s : List ℕ → ℕ → ℕ → List ℕ
be32s s a zero = []
be32s s a (suc n) = be32 s a ∷ be32s s (a + 4) n

-- the bytes of a 16-bit number, of a 32-bit number, of several
unfoldable pub put16 : ℕ → List ℕ
put16 n = n / 256 % 256 ∷ n % 256 ∷ []

unfoldable pub put32 : ℕ → List ℕ
put32 n = put16 (n / 65536) ++ put16 n

unfoldable pub put32s : List ℕ → List ℕ
put32s [] = []
put32s (n ∷ ns) = put32 n ++ put32s ns

-- whether each fits 32 bits
unfoldable pub fit32 : List ℕ → Bool
fit32 [] = true
fit32 (n ∷ ns) = ltb n 4294967296 && fit32 ns

-- the number N of version 4: one byte below 128, or two, (a - 128 + 1) * 128 + b with b below 128
unfoldable pub two : ℕ → ℕ → ℕ
two a b = (a - 128 + 1) * 128 + b

unfoldable pub put_n : ℕ → List ℕ
put_n n = cond (ltb n 128) (n ∷ []) ((128 + n / 128 - 1) ∷ n % 128 ∷ [])

-- ---- texts

-- whether two lists are equal
unfoldable pub eq_list : List ℕ → List ℕ → Bool
eq_list [] [] = true
eq_list [] (y ∷ t) = false
eq_list (x ∷ s) [] = false
eq_list (x ∷ s) (y ∷ t) = cond (eqb x y) (eq_list s t) false

-- how many bytes are before the first b; all of them where there is none
unfoldable pub before : ℕ → List ℕ → ℕ
before b [] = 0
before b (x ∷ s) = cond (eqb x b) 0 (suc (before b s))

-- whether no byte is b
unfoldable pub lacks : ℕ → List ℕ → Bool
lacks b [] = true
lacks b (x ∷ s) = cond (eqb x b) false (lacks b s)

-- whether every byte is NUL
unfoldable pub zeros : List ℕ → Bool
zeros [] = true
zeros (x ∷ s) = eqb x 0 && zeros s

-- ---- decimals: digits, at least one, and a zero first only where it is alone

unfoldable pub digits : List ℕ → Bool
digits [] = true
digits (d ∷ s) = leb 48 d && (leb d 57 && digits s)

unfoldable pub decimal : List ℕ → Bool
decimal [] = false
decimal (d ∷ []) = digits (d ∷ [])
decimal (d ∷ e ∷ s) = not (eqb d 48) && digits (d ∷ e ∷ s)

-- the number that digits say, after those that said v
unfoldable pub value_from : ℕ → List ℕ → ℕ
value_from v [] = v
value_from v (d ∷ s) = value_from (v * 10 + (d - 48)) s

unfoldable pub value : List ℕ → ℕ
value s = value_from 0 s
