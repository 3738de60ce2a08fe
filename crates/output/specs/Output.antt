-- What a part that is written leaves in an output.
use Rattle.std.specs.Prelude.{◌≡◌, List, ◌++◌, ℕ, ◌+◌, ◌≤◌, length, take, drop}

-- the output with s at a place
unfoldable pub with_at : List ℕ → ℕ → List ℕ → List ℕ
with_at out at s = take at out ++ (s ++ drop (at + length s) out)

-- s was to be written at a place of out, which is out' afterwards; r is the place after it. Where it does not fit, only the output's length is told
pub record Wrote (out : List ℕ) (at : ℕ) (s out' : List ℕ) (r : ℕ) : Type 0 where
  pub end : r ≡ at + length s
  pub long : length out' ≡ length out
  pub held : at + length s ≤ length out → out' ≡ with_at out at s
