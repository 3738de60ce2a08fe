-- Names in order, and those of them that are in one directory.
use Rattle.std.specs.Prelude.{◌≡◌, List, ◌++◌, true, false, ℕ, ◌≤◌, length}
use Rattle.format.specs.Bytes.{lacks}
use Rattle.format.specs.Records.{Forest}
use Rattle.format.specs.Layout.{has, under}
use Rattle.directories.specs.Names.{begins, leads, trails, every, never, beyond, within}

-- of the names in a directory, done have been passed, and run are those that follow under the component c
pub record Run (c : List ℕ) (done run : List (List ℕ)) : Type 0 where
  pub component : lacks 47 c ≡ true
  pub new : never (under c) done ≡ true
  pub all : every (under c) run ≡ true
  pub some : 1 ≤ length run

-- no sibling has both the last name of done and the first of rest under it
pub record Boundary (f : Forest) (done rest : List (List ℕ)) : Type 0 where
  pub apart : (c : List ℕ) → lacks 47 c ≡ true → has c f ≡ true → leads (under c) rest ≡ true → trails (under c) done ≡ false

-- ---- whole names: q is a directory's, with its last "/"

-- a walk over the names in the directory q, of those from whole on: done have been passed, from the directory on, and those from ss on are left
pub record NamesPassed (f : Forest) (q : List ℕ) (whole done ss : List (List ℕ)) : Type 0 where
  pub joined : done ++ within q ss ≡ within q whole
  pub left : beyond (begins q) ss ≡ beyond (begins q) whole
  pub edge : Boundary f done (within q ss)
