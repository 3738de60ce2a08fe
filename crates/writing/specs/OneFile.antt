-- What a file that is written is: the one of its records in a version, spelled by these and read back as these, with the smallest numbers N.
use Rattle.std.specs.Prelude.{◌≡◌, Bool, true, false, List, [], ◌∷◌, ℕ, ◌+◌, ◌≤◌, length, get_or, eqb}
use Rattle.format.specs.Records.{Entry, Key, Records}
use Rattle.format.specs.Layout.{when, Plain, Packed, Entries, entries_end, entries_more, Spells}
use Rattle.format.specs.Checksum.{matches}
use Rattle.format.specs.Reading.{Read, good}
use Rattle.format.specs.Reader.{Contents, read_file}
use Rattle.format.specs.Writer.{write_entries, write_body, write_file}
use Rattle.format.specs.Requests.{version_for}

-- the number N of a name in version 4; 0 in versions 2 and 3, which have none
abbrev pub number_n : (f : ℕ) (previous name a : List ℕ) (packed : Bool) → when packed (Packed previous name a) (Plain f name a) → ℕ
number_n f previous name a true h = h.n
number_n f previous name a false h = 0

-- of each entry
unfoldable pub numbers_n : {w v : ℕ} {k : Key} {es : List Entry} {a : List ℕ} → Entries w v k es a → List ℕ
numbers_n entries_end = []
numbers_n {v = v} (entries_more is more) = number_n _ _ _ _ (eqb v 4) is.named ∷ numbers_n more

-- n bytes, of the records r in the version v. w is the width of an object name and of the checksum, hash the checksum's function
pub record OneFile (w : ℕ) (hash : List ℕ → List ℕ) (v : ℕ) (r : Records) (bytes : List ℕ) (n : ℕ) : Type 0 where
  pub file : bytes ≡ write_file w hash v r
  pub size : n ≡ length bytes
  pub spelled : Spells w hash r bytes
  -- with a real checksum, whatever that of the file was from which the records are
  pub again :
      read_file w hash bytes
      ≡ good (record { version = v; checksum = matches; end = 12 + length (write_entries w v [] r.entries); records = r }) (length (write_body w v r))
  -- no file that these records spell in the version v has a smaller N at any entry
  pub smallest :
      (f : List ℕ) (g : Spells w hash r bytes) (h : Spells w hash r f) → h.body_is.version ≡ v →
      (i : ℕ) → get_or (numbers_n g.body_is.entries_are) i 0 ≤ get_or (numbers_n h.body_is.entries_are) i 0

-- a call that answers x and was to change the records of the file f: what it writes, in the version that was asked for, is the one file of the
-- changed records
pub record WritesBack (w : ℕ) (hash : List ℕ → List ℕ) (f : List ℕ) (asked : ℕ) (change : Records → Records) (x : Read (List ℕ)) : Type 0 where
  pub result : (c : Contents) (m : ℕ) (bytes : List ℕ) (n : ℕ) → read_file w hash f ≡ good c m → x ≡ good bytes n
      → OneFile w hash (version_for asked (change c.records).entries) (change c.records) bytes n
