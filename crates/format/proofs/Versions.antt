-- Closed cases of the version that is asked for, with a stand-in for the hash that answers zeros.
use mathlib.Core.Path.{◌≡◌, refl}
use mathlib.Core.List.{List, [], ◌∷◌, ◌++◌}
use mathlib.Core.Bool.{true, false}
use mathlib.Core.Option.{none}
use Prim.Native.Nat.{ℕ}
use lib.ListN.{replicate}
use Rattle.format.specs.Records.{Records}
use Rattle.format.specs.Reading.{bad, good}
use Rattle.format.specs.Requests.{put_entry, ok_asked, version_for, rewrite_request, put_request, remove_request}
use Rattle.format.proofs.Examples.{hash, listing, object}
use Rattle.format.proofs.Requested.{a, bc, entry_of, records}
use Rattle.format.proofs.Cases.{closed}

-- all up to 4 may be asked for, and no other
asked :
    (ok_asked 0 ≡ true)
    × (ok_asked 1 ≡ true)
    × (ok_asked 2 ≡ true)
    × (ok_asked 3 ≡ true)
    × (ok_asked 4 ≡ true)
    × (ok_asked 5 ≡ false)
    × (ok_asked 256 ≡ false)
    × (ok_asked 4294967295 ≡ false)
unfolding closed
asked = (refl, refl, refl, refl, refl, refl, refl, refl)

-- the version for entries of which none needs the extended word, and for entries of which one does
abbrev VersionsFor : ℕ → ℕ → ℕ → Type 0
VersionsFor n without with = (version_for n records.entries ≡ without) × (version_for n (put_entry (entry_of 0 true a) records.entries) ≡ with)

versions : VersionsFor 0 4 4 × VersionsFor 1 2 3 × VersionsFor 2 2 2 × VersionsFor 3 3 3 × VersionsFor 4 4 4
unfolding closed records
versions = ((refl, refl), (refl, refl), (refl, refl), (refl, refl), (refl, refl))

-- ---- bytes

-- an entry up to its flags; both entries have the numbers 1 to 9
abbrev numbered : ℕ → ℕ → List ℕ
numbered mode b =
    0 ∷ 0 ∷ 0 ∷ 1 ∷ 0 ∷ 0 ∷ 0 ∷ 2 ∷ 0 ∷ 0 ∷ 0 ∷ 3 ∷ 0 ∷ 0 ∷ 0 ∷ 4 ∷ 0 ∷ 0 ∷ 0 ∷ 5 ∷ 0 ∷ 0 ∷ 0 ∷ 6 ∷ 0 ∷ 0 ∷ 129 ∷ mode ∷ 0 ∷ 0 ∷ 0 ∷ 7 ∷ 0 ∷ 0 ∷ 0 ∷ 8 ∷ 0 ∷ 0 ∷ 0 ∷ 9 ∷ object b

-- "a" and "b/c" in version 4: nothing of the name before is kept, so N is 0 and then 1
packed : List ℕ
packed = 68 ∷ 73 ∷ 82 ∷ 67 ∷ 0 ∷ 0 ∷ 0 ∷ 4 ∷ 0 ∷ 0 ∷ 0 ∷ 2 ∷ (numbered 164 17 ++ (0 ∷ 1 ∷ 0 ∷ 97 ∷ 0 ∷ (numbered 237 34 ++ (0 ∷ 3 ∷ 1 ∷ 98 ∷ 47 ∷ 99 ∷ 0 ∷ replicate 20 0))))

-- "a" with skip-worktree
abbrev skipped : Records
skipped = record { entries = entry_of 0 true a ∷ []; cache_tree = none; resolve_undo = none }

-- its file in version 3
extended : List ℕ
extended = 68 ∷ 73 ∷ 82 ∷ 67 ∷ 0 ∷ 0 ∷ 0 ∷ 3 ∷ 0 ∷ 0 ∷ 0 ∷ 1 ∷ (replicate 26 0 ++ (129 ∷ 164 ∷ (replicate 12 0 ++ (object 5 ++ (64 ∷ 1 ∷ 64 ∷ 0 ∷ 97 ∷ 0 ∷ 0 ∷ 0 ∷ 0 ∷ 0 ∷ 0 ∷ 0 ∷ replicate 20 0)))))

-- 0 writes version 4; 1 writes version 2, the listing's example, or version 3 for the word
written :
    (rewrite_request 20 hash 0 164 records ≡ good packed 164)
    × (rewrite_request 20 hash 4 164 records ≡ good packed 164)
    × (rewrite_request 20 hash 1 168 records ≡ good listing 168)
    × (rewrite_request 20 hash 1 104 skipped ≡ good extended 104)
unfolding closed records packed listing extended
written = (refl, refl, refl, refl)

-- ---- refusals

-- 5 and the greatest are refused with 4, before what is wrong with the record, and before 18
above :
    (rewrite_request 20 hash 5 1000 records ≡ bad 4 0)
    × (rewrite_request 20 hash 4294967295 1000 records ≡ bad 4 0)
    × (put_request 20 hash 4294967295 (entry_of 4 true []) 1000 records ≡ bad 4 0)
    × (remove_request 20 hash 4294967295 (record { name = bc; stage = 1 }) 1000 records ≡ bad 4 0)
unfolding closed records
above = (refl, refl, refl, refl)

-- the word is refused where 2 is asked for, and the result has it; all others go on to the output's room
worded :
    (rewrite_request 20 hash 0 0 skipped ≡ bad 20 0)
    × (rewrite_request 20 hash 1 0 skipped ≡ bad 20 0)
    × (rewrite_request 20 hash 2 0 skipped ≡ bad 21 0)
    × (put_request 20 hash 1 (entry_of 0 true a) 0 records ≡ bad 20 0)
    × (put_request 20 hash 2 (entry_of 0 true a) 0 records ≡ bad 21 0)
    × (remove_request 20 hash 2 (record { name = a; stage = 0 }) 0 skipped ≡ bad 20 0)
unfolding closed records
worded = (refl, refl, refl, refl, refl, refl)
