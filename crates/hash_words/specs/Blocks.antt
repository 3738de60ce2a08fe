-- A message that is hashed block by block, for any function of a block.
use Rattle.std.specs.Prelude.{ℕ, zero, suc, ◌*◌, ◌/◌, List, length}
use Rattle.hash_words.specs.Padding.{pad, padded}
use Rattle.hash_words.specs.Words.{words}

-- the first n blocks of the bytes p, from the state h
unfoldable pub absorb : {S : Type 0} → (S → List ℕ → S) → S → List ℕ → ℕ → S
absorb block h p zero = h
absorb block h p (suc n) = block (absorb block h p n) (words p (n * 64) 16)

-- the digest of a message of n bytes whose last piece is m, from the state h after what is before m
unfoldable pub finish : {S D : Type 0} → (S → List ℕ → S) → (S → D) → S → List ℕ → ℕ → D
finish block digest h m n = digest (absorb block h (padded n m) (length (padded n m) / 64))

-- the digest of a message, from the state first before any block
unfoldable pub digest_of : {S D : Type 0} → (S → List ℕ → S) → S → (S → D) → List ℕ → D
digest_of block first digest m = digest (absorb block first (pad m) (length (pad m) / 64))
