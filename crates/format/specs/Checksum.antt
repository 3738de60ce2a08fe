-- The check of a file's last bytes. Git's setting index.skip_hash writes zeros in place of the checksum.
use Rattle.std.specs.Prelude.{List, Bool, true, false, cond, ℕ, ◌-◌, length, take, drop}
use Rattle.format.specs.Bytes.{eq_list, zeros}

pub data Checksum : Type 0 where
  matches : Checksum
  left_out : Checksum
  wrong : Checksum

-- what the last bytes are: the digest of all bytes before, or else zeros, or something else. So where the digest is itself zeros, zeros match
unfoldable pub checksum_of : List ℕ → List ℕ → Checksum
checksum_of digest last = cond (eq_list last digest) matches (cond (zeros last) left_out wrong)

-- those of the file f, the last w
unfoldable pub checksum_in : ℕ → (List ℕ → List ℕ) → List ℕ → Checksum
checksum_in w hash f = checksum_of (hash (take (length f - w) f)) (drop (length f - w) f)

-- only a wrong one is refused
abbrev pub is_sound : Checksum → Bool
is_sound matches = true
is_sound left_out = true
is_sound wrong = false
