-- SHA-256, FIPS 180-4. A state is the eight words H_0 .. H_7, or the working variables a .. h.
use Rattle.std.specs.Prelude.{List, [], ◌∷◌, ◌++◌, ℕ, zero, suc, ◌+◌, ◌-◌, ◌/◌, ◌^◌, get_or}
use Rattle.std.specs.Int.Bits.{bit_xor}
use Rattle.hash_words.specs.Blocks as Blocks
use Rattle.hash_words.specs.Words.{add32, rotr, ch, maj, bytes4}
use Rattle.sha256.specs.declared.State.{State}

-- 4.1.2: Σ_0(x) = ROTR^2(x) ⊕ ROTR^13(x) ⊕ ROTR^22(x)
unfoldable pub big0 : ℕ → ℕ
big0 x = bit_xor (bit_xor (rotr 2 x) (rotr 13 x)) (rotr 22 x)

-- 4.1.2: Σ_1(x) = ROTR^6(x) ⊕ ROTR^11(x) ⊕ ROTR^25(x)
unfoldable pub big1 : ℕ → ℕ
big1 x = bit_xor (bit_xor (rotr 6 x) (rotr 11 x)) (rotr 25 x)

-- 4.1.2: σ_0(x) = ROTR^7(x) ⊕ ROTR^18(x) ⊕ SHR^3(x)
unfoldable pub small0 : ℕ → ℕ
small0 x = bit_xor (bit_xor (rotr 7 x) (rotr 18 x)) (x / 2 ^ 3)

-- 4.1.2: σ_1(x) = ROTR^17(x) ⊕ ROTR^19(x) ⊕ SHR^10(x)
unfoldable pub small1 : ℕ → ℕ
small1 x = bit_xor (bit_xor (rotr 17 x) (rotr 19 x)) (x / 2 ^ 10)

-- 4.2.2: K_0 .. K_63
unfoldable pub constants : List ℕ
constants =
    0x428a2f98 ∷ 0x71374491 ∷ 0xb5c0fbcf ∷ 0xe9b5dba5 ∷ 0x3956c25b ∷ 0x59f111f1 ∷ 0x923f82a4 ∷ 0xab1c5ed5
    ∷ 0xd807aa98 ∷ 0x12835b01 ∷ 0x243185be ∷ 0x550c7dc3 ∷ 0x72be5d74 ∷ 0x80deb1fe ∷ 0x9bdc06a7 ∷ 0xc19bf174
    ∷ 0xe49b69c1 ∷ 0xefbe4786 ∷ 0x0fc19dc6 ∷ 0x240ca1cc ∷ 0x2de92c6f ∷ 0x4a7484aa ∷ 0x5cb0a9dc ∷ 0x76f988da
    ∷ 0x983e5152 ∷ 0xa831c66d ∷ 0xb00327c8 ∷ 0xbf597fc7 ∷ 0xc6e00bf3 ∷ 0xd5a79147 ∷ 0x06ca6351 ∷ 0x14292967
    ∷ 0x27b70a85 ∷ 0x2e1b2138 ∷ 0x4d2c6dfc ∷ 0x53380d13 ∷ 0x650a7354 ∷ 0x766a0abb ∷ 0x81c2c92e ∷ 0x92722c85
    ∷ 0xa2bfe8a1 ∷ 0xa81a664b ∷ 0xc24b8b70 ∷ 0xc76c51a3 ∷ 0xd192e819 ∷ 0xd6990624 ∷ 0xf40e3585 ∷ 0x106aa070
    ∷ 0x19a4c116 ∷ 0x1e376c08 ∷ 0x2748774c ∷ 0x34b0bcb5 ∷ 0x391c0cb3 ∷ 0x4ed8aa4a ∷ 0x5b9cca4f ∷ 0x682e6ff3
    ∷ 0x748f82ee ∷ 0x78a5636f ∷ 0x84c87814 ∷ 0x8cc70208 ∷ 0x90befffa ∷ 0xa4506ceb ∷ 0xbef9a3f7 ∷ 0xc67178f2 ∷ []

-- 4.2.2: K_t
unfoldable pub K : ℕ → ℕ
K t = get_or constants t 0

-- 5.3.3: the initial hash value H(0)
unfoldable pub H0 : State
H0 = record {
  a = 0x6a09e667;
  b = 0xbb67ae85;
  c = 0x3c6ef372;
  d = 0xa54ff53a;
  e = 0x510e527f;
  f = 0x9b05688c;
  g = 0x1f83d9ab;
  h = 0x5be0cd19;
}

-- 6.2.2, step 1: W_t for 16 ≤ t, from the words before it
unfoldable pub next_word : List ℕ → ℕ → ℕ
next_word w t = add32 (add32 (add32 (small1 (get_or w (t - 2) 0)) (get_or w (t - 7) 0)) (small0 (get_or w (t - 15) 0))) (get_or w (t - 16) 0)

-- the first 16 + n words of the schedule of the block m
unfoldable pub extended : List ℕ → ℕ → List ℕ
extended m zero = m
extended m (suc n) = let w = extended m n in w ++ (next_word w (16 + n) ∷ [])

-- the schedule W_0 .. W_63 of the block m
unfoldable pub schedule : List ℕ → List ℕ
schedule m = extended m 48

-- 6.2.2, step 3: T_1, with the round's constant k and word w
unfoldable pub T1 : ℕ → ℕ → State → ℕ
T1 k w s = add32 (add32 (add32 (add32 s.h (big1 s.e)) (ch s.e s.f s.g)) k) w

-- 6.2.2, step 3: T_2
unfoldable pub T2 : State → ℕ
T2 s = add32 (big0 s.a) (maj s.a s.b s.c)

-- 6.2.2, step 3: a round, with its constant k and word w
unfoldable pub round : ℕ → ℕ → State → State
round k w s = record {
  a = add32 (T1 k w s) (T2 s);
  b = s.a;
  c = s.b;
  d = s.c;
  e = add32 s.d (T1 k w s);
  f = s.e;
  g = s.f;
  h = s.g;
}

-- the first t rounds with the schedule w, from the state h (step 2)
unfoldable pub rounds : State → List ℕ → ℕ → State
rounds h w zero = h
rounds h w (suc t) = round (K t) (get_or w t 0) (rounds h w t)

-- 6.2.2, step 4: the sums of the state before the block and the working variables after it
unfoldable pub chain : State → State → State
chain h s = record {
  a = add32 h.a s.a;
  b = add32 h.b s.b;
  c = add32 h.c s.c;
  d = add32 h.d s.d;
  e = add32 h.e s.e;
  f = add32 h.f s.f;
  g = add32 h.g s.g;
  h = add32 h.h s.h;
}

-- 6.2.2: one block m of sixteen words
unfoldable pub block : State → List ℕ → State
block h m = chain h (rounds h (schedule m) 64)

-- 6.2.2: the first n blocks of the bytes p, from the state h
abbrev pub absorb : State → List ℕ → ℕ → State
absorb = Blocks.absorb block

-- 6.2.2: the message digest, H_0 ‖ H_1 ‖ .. ‖ H_7
unfoldable pub digest : State → List ℕ
digest h = bytes4 h.a ++ (bytes4 h.b ++ (bytes4 h.c ++ (bytes4 h.d ++ (bytes4 h.e ++ (bytes4 h.f ++ (bytes4 h.g ++ bytes4 h.h))))))

-- the digest of a message of n bytes whose last piece is m, from the state h after what is before m
abbrev pub finish : State → List ℕ → ℕ → List ℕ
finish = Blocks.finish block digest

-- 6.2: the SHA-256 of a message
abbrev pub sha256 : List ℕ → List ℕ
sha256 = Blocks.digest_of block H0 digest
