-- A hasher of a message that comes in slices, for any function of a block.
use Rattle.std.specs.Prelude.{List, ℕ}
use Rattle.hash_words.specs.Blocks.{absorb}
use Rattle.hash_words.specs.Buffer.{Buffered}
use Rattle.hash_words.specs.declared.buffered.Hasher.{Hasher}

-- the message so far is m
abbrev pub Absorbed : {S : Type 0} → (S → List ℕ → S) → S → List ℕ → Hasher S → Type 0
Absorbed block first m h = Buffered (absorb block) first m h.state h.block h.length
