-- The message in pieces. Assumes nothing.
use Rattle.std.proofs.Common.{◌≡◌, ℕ, ◌/◌, ◌%◌, List, ◌++◌, length}
use Rattle.hash_words.proofs.Blocks as Blocks
use Rattle.sha256.specs.Sha256.{H0, block, absorb, digest, finish, sha256}
use Rattle.sha256.specs.declared.State.{State}

-- whole blocks that are absorbed first do not change how the message is finished
pub finish-append : (h : State) (a b : List ℕ) (n : ℕ) → length a % 64 ≡ 0 → finish h (a ++ b) n ≡ finish (absorb h a (length a / 64)) b n
finish-append = Blocks.finish-append block digest

-- a message in one piece
pub finish-whole : (m : List ℕ) → finish H0 m (length m) ≡ sha256 m
finish-whole = Blocks.finish-whole block digest H0

-- finishing b from the state after a, with the length of both, gives the SHA-256 of both
pub sha256-pieces : (a b : List ℕ) → length a % 64 ≡ 0 → finish (absorb H0 a (length a / 64)) b (length (a ++ b)) ≡ sha256 (a ++ b)
sha256-pieces = Blocks.digest_of-pieces block digest H0
