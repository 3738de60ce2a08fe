-- Numbers of several bytes, the low byte first.
use Rattle.std.specs.Prelude.{List, ℕ, zero, suc, ◌+◌, ◌*◌, get_or}

-- the number of n bytes at a
unfoldable pub little : ℕ → List ℕ → ℕ → ℕ
little zero s a = 0
little (suc n) s a = get_or s a 0 + 256 * little n s (a + 1)
