-- FIPS 180-4, 5.1.1: padding the message.
use Rattle.std.specs.Prelude.{◌≡◌, ℕ, ◌-◌, ◌*◌, ◌/◌, ◌%◌, ◌^◌, List, ◌∷◌, ◌++◌, length, take, drop, replicate}
use Rattle.hash_words.specs.Words.{bytes4}

-- the low 64 bits of a number, as two words, the high word first (bytes4 takes the low 32 bits of its number)
unfoldable pub be64 : ℕ → List ℕ
be64 x = bytes4 (x / 2 ^ 32) ++ bytes4 x

-- m with the bit 1 (the byte 128), the fewest zeros that leave 8 bytes of a block of 64, and the length of n bytes in bits.
-- n is the length of the whole message, m its last piece: whole blocks before m change nothing but n. FIPS 180-4 defines this
-- for messages of less than 2 ^ 64 bits; here a longer message counts its length modulo 2 ^ 64.
unfoldable pub padded : ℕ → List ℕ → List ℕ
padded n m = m ++ (128 ∷ (replicate ((119 - length m % 64) % 64) 0 ++ be64 (n * 8)))

-- the padded message
unfoldable pub pad : List ℕ → List ℕ
pad m = padded (length m) m

-- what follows the last whole block of m in the padded message
unfoldable pub ending : ℕ → List ℕ → List ℕ
ending n m = drop (length m / 64 * 64) (padded n m)

-- t is a list of 128 bytes that begins with the ending
pub record Tail (n : ℕ) (m t : List ℕ) : Type 0 where
  pub long : length t ≡ 128
  pub begins : take (length (ending n m)) t ≡ ending n m
