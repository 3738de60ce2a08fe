-- SHA-1, FIPS 180-4. A state is the five words H_0 .. H_4, or the working variables a .. e.
use Rattle.std.specs.Prelude.{cond, List, [], ◌∷◌, ◌++◌, ℕ, zero, suc, ◌+◌, ◌-◌, ltb, get_or}
use Rattle.std.specs.Int.Bits.{bit_xor}
use Rattle.hash_words.specs.Blocks as Blocks
use Rattle.hash_words.specs.Words.{add32, rotl, ch, maj, bytes4}
use Rattle.hash.specs.declared.State.{State}

-- what belongs to round t, where the rounds come in quarters of twenty
unfoldable pub quarter : ℕ → ℕ → ℕ → ℕ → ℕ → ℕ
quarter t first second third fourth = cond (ltb t 20) first (cond (ltb t 40) second (cond (ltb t 60) third fourth))

-- 4.1.1: Parity(x, y, z) = x ⊕ y ⊕ z
abbrev pub parity : ℕ → ℕ → ℕ → ℕ
parity x y z = bit_xor (bit_xor x y) z

-- 4.1.1: f_t
unfoldable pub f : ℕ → ℕ → ℕ → ℕ → ℕ
f t x y z = quarter t (ch x y z) (parity x y z) (maj x y z) (parity x y z)

-- 4.2.1: K_t
unfoldable pub K : ℕ → ℕ
K t = quarter t 0x5a827999 0x6ed9eba1 0x8f1bbcdc 0xca62c1d6

-- 5.3.1: the initial hash value H(0)
unfoldable pub H0 : State
H0 = record { a = 0x67452301; b = 0xefcdab89; c = 0x98badcfe; d = 0x10325476; e = 0xc3d2e1f0 }

-- 6.1.2, step 1: W_t for 16 ≤ t, from the words before it
unfoldable pub next_word : List ℕ → ℕ → ℕ
next_word w t = rotl 1 (bit_xor (bit_xor (bit_xor (get_or w (t - 3) 0) (get_or w (t - 8) 0)) (get_or w (t - 14) 0)) (get_or w (t - 16) 0))

-- the first 16 + n words of the schedule of the block m
unfoldable pub extended : List ℕ → ℕ → List ℕ
extended m zero = m
extended m (suc n) = let w = extended m n in w ++ (next_word w (16 + n) ∷ [])

-- the schedule W_0 .. W_79 of the block m
unfoldable pub schedule : List ℕ → List ℕ
schedule m = extended m 64

-- 6.1.2, step 3: round t, with its word w
unfoldable pub round : ℕ → ℕ → State → State
round t w s = record {
  a = add32 (add32 (add32 (add32 (rotl 5 s.a) (f t s.b s.c s.d)) s.e) (K t)) w;
  b = s.a;
  c = rotl 30 s.b;
  d = s.c;
  e = s.d;
}

-- the first t rounds with the schedule w, from the state h (step 2)
unfoldable pub rounds : State → List ℕ → ℕ → State
rounds h w zero = h
rounds h w (suc t) = round t (get_or w t 0) (rounds h w t)

-- 6.1.2, step 4: the sums of the state before the block and the working variables after it
unfoldable pub chain : State → State → State
chain h s = record {
  a = add32 h.a s.a;
  b = add32 h.b s.b;
  c = add32 h.c s.c;
  d = add32 h.d s.d;
  e = add32 h.e s.e;
}

-- 6.1.2: one block m of sixteen words
unfoldable pub block : State → List ℕ → State
block h m = chain h (rounds h (schedule m) 80)

-- 6.1.2: the first n blocks of the bytes p, from the state h
abbrev pub absorb : State → List ℕ → ℕ → State
absorb = Blocks.absorb block

-- 6.1.2: the message digest, H_0 ‖ H_1 ‖ H_2 ‖ H_3 ‖ H_4
unfoldable pub digest : State → List ℕ
digest h = bytes4 h.a ++ (bytes4 h.b ++ (bytes4 h.c ++ (bytes4 h.d ++ bytes4 h.e)))

-- the digest of a message of n bytes whose last piece is m, from the state h after what is before m
abbrev pub finish : State → List ℕ → ℕ → List ℕ
finish = Blocks.finish block digest

-- 6.1: the SHA-1 of a message
abbrev pub sha1 : List ℕ → List ℕ
sha1 = Blocks.digest_of block H0 digest
