-- What a call leaves of the workspace.
use Rattle.std.specs.Prelude.{◌≡◌, List, ℕ, length, drop}

-- the workspace after a call: as long as before, and past its 8,192nd byte as it was
pub record Frame (work work' : List ℕ) : Type 0 where
  pub long : length work' ≡ length work
  pub past : drop 8192 work' ≡ drop 8192 work
