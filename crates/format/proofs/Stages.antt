-- Closed cases of one name at several stages: files, and puts. Stage 0 is together with no other.
use mathlib.Core.Path.{◌≡◌, refl}
use mathlib.Core.List.{List, [], ◌∷◌}
use mathlib.Core.Bool.{false, true}
use mathlib.Core.Option.{none}
use Prim.Native.Nat.{ℕ}
use Rattle.format.specs.Records.{Entry, Records}
use Rattle.format.specs.Checksum.{matches}
use Rattle.format.specs.Reading.{Read, bad, good}
use Rattle.format.specs.Reader.{Contents, read_file}
use Rattle.format.specs.Writer.{write_file}
use Rattle.format.specs.Requests.{put_request}
use Rattle.format.proofs.Examples.{hash, file_entry}
use Rattle.format.proofs.Requested.{a, bc, entry_of, records}
use Rattle.format.proofs.Cases.{closed}

abbrev listed : List Entry → Records
listed es = record { entries = es; cache_tree = none; resolve_undo = none }

-- ---- a file

-- the file of these entries in the version v, read
abbrev reading : ℕ → List Entry → Read Contents
reading v es = read_file 20 hash (write_file 20 hash v (listed es))

-- after stage 0 the name must differ, also in version 4, where the name is the one before with nothing removed
refused :
    (reading 2 (entry_of 0 false a ∷ entry_of 2 false a ∷ []) ≡ bad 11 76)
    × (reading 3 (entry_of 0 false a ∷ entry_of 1 true a ∷ []) ≡ bad 11 76)
    × (reading 4 (entry_of 0 false a ∷ entry_of 3 false a ∷ []) ≡ bad 11 77)
    × (reading 2 (entry_of 0 false a ∷ entry_of 0 false a ∷ []) ≡ bad 11 76)
    × (reading 2 (entry_of 2 false a ∷ entry_of 0 false a ∷ []) ≡ bad 11 76)
    × (reading 2 (entry_of 2 false a ∷ entry_of 2 false a ∷ []) ≡ bad 11 76)
unfolding closed
refused = (refl, refl, refl, refl, refl, refl)

-- the sides of a conflict follow each other, and any stage follows another name
abbrev conflict : List Entry
conflict = entry_of 1 false a ∷ entry_of 3 false a ∷ []

accepted :
    (reading 2 conflict ≡ good (record { version = 2; checksum = matches; end = 140; records = listed conflict }) 140)
    × (reading 4 conflict ≡ good (record { version = 4; checksum = matches; end = 141; records = listed conflict }) 141)
    × (reading 2 (entry_of 0 false a ∷ entry_of 2 false bc ∷ [])
    ≡ good (record { version = 2; checksum = matches; end = 148; records = listed (entry_of 0 false a ∷ entry_of 2 false bc ∷ []) }) 148)
unfolding closed
accepted = (refl, refl, refl)

-- ---- a put

-- stage 0 beside sides of a conflict, a side beside stage 0: 11, before 21 and 20, after 4, 7, 8 and 9. No file has a name that 9 refuses, so that
-- the last case is one of records alone
mixing :
    (put_request 20 hash 0 (entry_of 0 false a) 1000 (listed conflict) ≡ bad 11 0)
    × (put_request 20 hash 0 (entry_of 2 false a) 1000 records ≡ bad 11 0)
    × (put_request 20 hash 2 (entry_of 0 true a) 0 (listed conflict) ≡ bad 11 0)
    × (put_request 20 hash 5 (entry_of 2 false a) 1000 records ≡ bad 4 0)
    × (put_request 20 hash 0 (file_entry 1 5 a) 1000 (listed conflict) ≡ bad 7 0)
    × (put_request 20 hash 0 (entry_of 4 false a) 1000 records ≡ bad 8 0)
    × (put_request 20 hash 0 (entry_of 2 false []) 1000 (listed (entry_of 0 false [] ∷ [])) ≡ bad 9 0)
unfolding closed records
mixing = (refl, refl, refl, refl, refl, refl, refl)

-- the same stage is replaced, a third side comes between two; both go on to the output's room
replacing :
    (put_request 20 hash 0 (entry_of 0 false a) 0 records ≡ bad 20 0)
    × (put_request 20 hash 0 (entry_of 3 false a) 0 (listed conflict) ≡ bad 20 0)
    × (put_request 20 hash 0 (entry_of 2 false a) 0 (listed conflict) ≡ bad 20 0)
unfolding closed records
replacing = (refl, refl, refl)
