-- SHA-256 of a message that comes in slices.
use Rattle.std.specs.Prelude.{List, ℕ}
use Rattle.hash_words.specs.Buffered as Buffered
use Rattle.hash_words.specs.declared.buffered.Hasher.{Hasher}
use Rattle.sha256.specs.Sha256.{H0, block}
use Rattle.sha256.specs.declared.State.{State}

-- the message so far is m
abbrev pub Absorbed : List ℕ → Hasher State → Type 0
Absorbed = Buffered.Absorbed block H0
