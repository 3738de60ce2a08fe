-- What is tested of an entry count, none where it is invalid.
use Rattle.std.specs.Prelude.{Bool, true, ℕ, eqb, leb, Option, Some, None}
use Rattle.format.specs.Layout.{bit}

-- whether a valid count is m
abbrev pub agrees_with : Option ℕ → ℕ → Bool
agrees_with (Some n) m = eqb n m
agrees_with None m = true

-- 1 for a count of at least 1
abbrev pub weight_of : Option ℕ → ℕ
weight_of (Some n) = bit (leb 1 n)
weight_of None = 0
