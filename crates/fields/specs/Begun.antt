-- The beginnings of names.
use Rattle.std.specs.Prelude.{◌≡◌, List, ◌++◌, true, ℕ}
use Rattle.format.specs.Names.{ok_name}

-- some sound name begins with q
pub record Begun (q : List ℕ) : Type 0 where
  pub rest : List ℕ
  pub ok : ok_name (q ++ rest) ≡ true
