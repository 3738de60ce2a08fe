-- SHA-1 of a message that comes in slices.
use Rattle.std.specs.Prelude.{List, ℕ}
use Rattle.hash_words.specs.Buffered as Buffered
use Rattle.hash_words.specs.declared.buffered.Hasher.{Hasher}
use Rattle.hash.specs.Sha1.{H0, block}
use Rattle.hash.specs.declared.State.{State}

-- the message so far is m
abbrev pub Absorbed : List ℕ → Hasher State → Type 0
Absorbed = Buffered.Absorbed block H0
