-- Where a name and a stage are, or would be, among entries.
use Rattle.std.specs.Prelude.{◌≡◌, List, [], ◌∷◌, Bool, true, false, cond, ◌&&◌, ℕ, suc, ◌+◌, ◌≤◌, drop}
use Rattle.format.specs.Names.{compare, rises}
use Rattle.format.specs.Records.{Entry, Key, key_of}
use Rattle.format.specs.Layout.{bit}
use Rattle.format.specs.Requests.{goes_before, same_key, mixes, mixed}
use Rattle.fields.specs.Workspace.{Frame}
use Rattle.entries_run.specs.Steps.{EntriesRead}
use Rattle.entries_place.specs.declared.Place.{Place}
use Rattle.entries_place.specs.declared.Compared.{Compared}

-- how many entries, from the first on, are before the key k
unfoldable pub rank : Key → List Entry → ℕ
rank k [] = 0
rank k (x ∷ xs) = cond (goes_before (key_of x) k) (suc (rank k xs)) 0

-- whether the first entry has the key k
unfoldable pub starts_with : Key → List Entry → Bool
starts_with k [] = false
starts_with k (x ∷ xs) = same_key (key_of x) k

-- whether an entry of the key k is at its place
abbrev pub is_there : Key → List Entry → Bool
is_there k es = starts_with k (drop (rank k es) es)

-- whether each entry may follow the one before it, and the first the key k
unfoldable pub rising : Key → List Entry → Bool
rising k [] = true
rising k (x ∷ xs) = rises (compare k.name x.name) k.stage x.stage && rising (key_of x) xs

-- how an entry of the key a compares to the key b
pub record KeysCompared (a b : Key) (r : Compared) : Type 0 where
  pub before : r.before ≡ goes_before a b
  pub same : r.same ≡ same_key a b
  pub mixes : r.mixes ≡ mixes a b

-- the place of the key k among the first count entries of the body b, whether it mixes with one, and what the search leaves of the workspace
pub record PlaceFound (w : ℕ) (v : ℕ) (b work : List ℕ) (count : ℕ) (k : Key) (work' : List ℕ) (r : Place) : Type 0 where
  pub is : (es : List Entry) (m : ℕ) → EntriesRead w v count b es m → (r.before ≡ rank k es) × (r.there ≡ is_there k es) × (r.mixed ≡ mixed k es)
  pub few : r.before + bit r.there ≤ count
  pub frame : Frame work work'
