-- The kind of a repository is a number that says which function gives its object names and the checksum of its index: 1 is SHA-1, 2 is
-- SHA-256. Any other is refused with 29, after 19 and before all of the file.
use Rattle.std.specs.Prelude.{Bool, cond, ◌||◌, List, ℕ, eqb}
use Rattle.format.specs.Reading.{Read, need}
use Rattle.format.specs.Reader.{Contents, read_file}
use Rattle.hash.specs.Sha1.{sha1}
use Rattle.sha256.specs.Sha256.{sha256}

-- the kinds that there are
unfoldable pub ok_kind : ℕ → Bool
ok_kind kind = eqb kind 1 || eqb kind 2

-- the bytes of an object name and of the checksum, and the function that gives them. An unknown kind has those of SHA-1 here, and none of its
-- files is read
unfoldable pub width_of : ℕ → ℕ
width_of kind = cond (eqb kind 2) 32 20

unfoldable pub hash_of : ℕ → List ℕ → List ℕ
hash_of kind m = cond (eqb kind 2) (sha256 m) (sha1 m)

-- what is read of a file, for a kind
unfoldable pub of_kind : {A : Type 0} → ℕ → Read A → Read A
of_kind kind x = need (ok_kind kind) 29 0 x

-- the whole file f of a kind
unfoldable pub read_kind : ℕ → List ℕ → Read Contents
read_kind kind f = of_kind kind (read_file (width_of kind) (hash_of kind) f)
