-- The next component of a name in a directory, and the sibling of that name.
use Rattle.std.specs.Prelude.{◌≡◌, List, true, false, ℕ, ◌+◌, ◌≤◌, length, take, drop, Option, Some, None}
use Rattle.format.specs.Bytes.{before, lacks}
use Rattle.format.specs.Records.{Forest}
use Rattle.format.specs.Layout.{distinct}
use Rattle.tree_nodes.specs.Flat.{Reads}
use Rattle.tree_check.specs.declared.look.Subdirectory.{Subdirectory}
use Rattle.tree_search.specs.Siblings.{Sought, place_in}

-- the bytes before the first "/"
unfoldable pub component : List ℕ → List ℕ
component s = take (before 47 s) s

-- after its first k bytes the name x has a further "/", which ends at the place e
pub record Component (k : ℕ) (x : List ℕ) (e : ℕ) : Type 0 where
  pub slash : lacks 47 (drop k x) ≡ false
  pub ends : e ≡ k + (length (component (drop k x)) + 1)

-- the name x has no further "/", or it is in a directory below
abbrev pub Looked : ℕ → List ℕ → Forest → ℕ → List ℕ → Option Subdirectory → Type 0
Looked w d f k x None = lacks 47 (drop k x) ≡ true
Looked w d f k x (Some below) = Component k x below.end × Sought w d f (component (drop k x)) below.node

-- the place of what was found, the end where nothing was; the place after the component, 0 where there is none
abbrev pub place_of_look : ℕ → Option Subdirectory → ℕ
place_of_look end None = end
place_of_look end (Some below) = place_in end below.node

abbrev pub end_of_look : Option Subdirectory → ℕ
end_of_look None = 0
end_of_look (Some below) = below.end

-- what a look at the name x of n bytes answers, where k siblings are at a place
pub record LookedUp (w : ℕ) (d : List ℕ) (at k : ℕ) (x : List ℕ) (n q : ℕ) (r : Option Subdirectory) : Type 0 where
  pub most : place_of_look (length d) r ≤ length d
  pub within : end_of_look r ≤ n
  pub is : (f : Forest) (m : ℕ) → distinct f ≡ true → Reads w (drop at d) f k m → Looked w d f q x r
