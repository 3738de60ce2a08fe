-- A file that keeps its length and has zeros from some place on: what a crash often leaves of a file that was being written. With a checksum
-- that may be left out such a file can be accepted, and then its last entry is all that can differ: in these two ways.
use Rattle.std.specs.Prelude.{◌≡◌, List, ◌++◌, true, false, ◌||◌, ℕ, ◌+◌, ◌-◌, ◌≤◌, ◌<◌, length, take, replicate, eqb}
use Rattle.format.specs.Records.{Entry, Key}

-- the first c bytes of f, then zeros
unfoldable pub zeroed_from : ℕ → List ℕ → List ℕ
zeroed_from c f = take c f ++ replicate (length f - c) 0

-- an entry with another name; and with both bits of its extended word clear
abbrev pub named : List ℕ → Entry → Entry
named s e = record {
  numbers = e.numbers;
  object = e.object;
  assume_valid = e.assume_valid;
  stage = e.stage;
  skip_worktree = e.skip_worktree;
  intent_to_add = e.intent_to_add;
  name = s;
}

abbrev pub word_cleared : Entry → Entry
word_cleared e = record {
  numbers = e.numbers;
  object = e.object;
  assume_valid = e.assume_valid;
  stage = e.stage;
  skip_worktree = false;
  intent_to_add = false;
  name = e.name;
}

-- what is read for the last entry e of version v, which is after one of the key k. Versions 2 and 3: a name that its length field does not count
-- (4,095 says "or more") loses at most seven bytes to what then reads as padding. Version 4: where the entry before has the same name, at another
-- stage, the extended word is lost
pub data Lost (v : ℕ) (k : Key) (e : Entry) : Entry → Type 0 where
  name_cut : eqb v 4 ≡ false → (kept : ℕ) → 4095 ≤ kept → kept < length e.name → length e.name ≤ kept + 7 → Lost v k e (named (take kept e.name) e)
  word_lost : eqb v 4 ≡ true → (e.skip_worktree || e.intent_to_add) ≡ true → e.name ≡ k.name → Lost v k e (word_cleared e)
