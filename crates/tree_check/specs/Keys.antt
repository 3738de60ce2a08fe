-- Keys in one of the two tables.
use Rattle.std.specs.Prelude.{List, ℕ}
use Rattle.tree_search.specs.declared.table.Region.{Region}
use Rattle.tree_search.specs.Table.{Known, Vacant}

-- some were put in a table of the array t: it is of no list, and what is known of the array stays known
pub record KeysPut (region : Region) (t t' : List ℕ) : Type 0 where
  pub vacant : Vacant region t'
  pub known : (w : ℕ) (d : List ℕ) → Known w d t → Known w d t'
