-- FIPS 180-4: operations on words. A word is a number below 2 ^ 32, a byte a number below 256, a message a list of bytes.
use Rattle.std.specs.Prelude.{ℕ, zero, suc, ◌+◌, ◌-◌, ◌*◌, ◌/◌, ◌%◌, ◌^◌, List, [], ◌∷◌, bit_and, bit_or, bit_xor, slice_index}

-- 2.2.2: ¬ x, the complement of a word
abbrev pub not32 : ℕ → ℕ
not32 x = 2 ^ 32 - 1 - x

-- 3.2: x + y, the sum modulo 2 ^ 32
abbrev pub add32 : ℕ → ℕ → ℕ
add32 x y = (x + y) % 2 ^ 32

-- 3.2: ROTL^n(x) = (x << n) ∨ (x >> 32 - n), the rotation to the left by n bits, 0 < n < 32
abbrev pub rotl : ℕ → ℕ → ℕ
rotl n x = bit_or ((x * 2 ^ n) % 2 ^ 32) (x / 2 ^ (32 - n))

-- 3.2: ROTR^n(x) = (x >> n) ∨ (x << 32 - n), the rotation to the right by n bits, 0 < n < 32
abbrev pub rotr : ℕ → ℕ → ℕ
rotr n x = bit_or (x / 2 ^ n) ((x * 2 ^ (32 - n)) % 2 ^ 32)

-- 4.1: Ch(x, y, z) = (x ∧ y) ⊕ (¬ x ∧ z)
abbrev pub ch : ℕ → ℕ → ℕ → ℕ
ch x y z = bit_xor (bit_and x y) (bit_and (not32 x) z)

-- 4.1: Maj(x, y, z) = (x ∧ y) ⊕ (x ∧ z) ⊕ (y ∧ z)
abbrev pub maj : ℕ → ℕ → ℕ → ℕ
maj x y z = bit_xor (bit_xor (bit_and x y) (bit_and x z)) (bit_and y z)

-- 3.1: the word whose first, most significant, byte is the message's byte i
unfoldable pub be32 : List ℕ → ℕ → ℕ
be32 p i = slice_index p i * 2 ^ 24 + slice_index p (i + 1) * 2 ^ 16 + slice_index p (i + 2) * 2 ^ 8 + slice_index p (i + 3)

-- 3.1: the four bytes of a word, the most significant first
unfoldable pub bytes4 : ℕ → List ℕ
bytes4 x = x / 2 ^ 24 % 256 ∷ x / 2 ^ 16 % 256 ∷ x / 2 ^ 8 % 256 ∷ x % 256 ∷ []

-- 5.2.1: n words from byte i on; the block at byte i is words p i 16
unfoldable pub words : List ℕ → ℕ → ℕ → List ℕ
words p i zero = []
words p i (suc n) = be32 p i ∷ words p (i + 4) n
