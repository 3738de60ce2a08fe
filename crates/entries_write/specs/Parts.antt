-- What functions that write entries are told, and what they leave behind. w is the width of an object name.
use Rattle.std.specs.Prelude.{◌≡◌, List, [], ◌∷◌, ℕ, ◌+◌, ◌-◌, ◌*◌, ◌≤◌, ◌<◌, length, take, drop}
use Rattle.format.specs.Bytes.{be16}
use Rattle.format.specs.Names.{common}
use Rattle.format.specs.Records.{Entry, Key}
use Rattle.format.specs.Layout.{bit, fixed_length, word_of}
use Rattle.format.specs.Reading.{good}
use Rattle.format.specs.Reader.{is_set, entry_of, read_entry}
use Rattle.format.specs.Writer.{needs_word, write_rest, write_entry, write_entries}
use Rattle.format.specs.Requests.{any_word}
use Rattle.fields.specs.Workspace.{Frame}
use Rattle.output.specs.Output.{Wrote}
use Rattle.entries_run.specs.declared.Cursor.{Cursor}
use Rattle.entries_run.specs.declared.Step.{Step}
use Rattle.entries_run.specs.Steps.{name_at, key_at, entry_at, Inside, RunRead}
use Rattle.entries_write.specs.declared.Progress.{Progress}

-- ---- one entry

-- a name after one of previous bytes, of which it keeps the first kept
pub record PrefixKept (name : List ℕ) (previous kept : ℕ) : Type 0 where
  pub short : length name ≤ 8192
  pub before_short : previous ≤ 8192
  pub fits : kept ≤ previous
  pub within : kept ≤ length name

-- the name p before has previous bytes, of which it has kept in common with the name
pub record Beside (p name : List ℕ) (previous kept : ℕ) : Type 0 where
  pub long : length p ≡ previous
  pub shared : common p name ≡ kept

-- an entry by its flags without the extended bit and the length field, its extended word, and its name
pub record EntryParts (e : Entry) (base word : ℕ) (name : List ℕ) : Type 0 where
  pub flags : bit e.assume_valid * 32768 + e.stage * 4096 ≡ base
  pub word_is : word_of e ≡ word
  pub name_is : e.name ≡ name

-- the bytes of a name were written, after any name before that is so beside it
pub record NameWritten (out : List ℕ) (at : ℕ) (name : List ℕ) (previous kept : ℕ) (bytes : List ℕ → List ℕ) (out' : List ℕ) (r : ℕ) : Type 0 where
  pub wrote : (p : List ℕ) → Beside p name previous kept → Wrote out at (bytes p) out' r
  pub near : r ≤ at + 8200

-- what follows the object name of any entry that is so told was written
pub record RestWritten (w : ℕ) (out : List ℕ) (at version base word : ℕ) (name : List ℕ) (previous kept : ℕ) (out' : List ℕ) (r : ℕ) : Type 0 where
  pub wrote : (e : Entry) (p : List ℕ) → EntryParts e base word name → Beside p name previous kept → Wrote out at (write_rest w version p (needs_word e) e) out' r
  pub near : r ≤ at + 8204

-- the entry at a place of the body b, by its flags, its extended word or 0, and where its name of len bytes is
abbrev pub entry_by : ℕ → ℕ → List ℕ → List ℕ → ℕ → ℕ → ℕ → ℕ → ℕ → Entry
entry_by w v b work from flags word start len = entry_of w (drop from b) flags word (name_at v b work start len)

-- the entry e was written
pub record EntryWritten (w : ℕ) (out : List ℕ) (at version : ℕ) (e : Entry) (previous kept : ℕ) (out' : List ℕ) (r : ℕ) : Type 0 where
  pub wrote : (p : List ℕ) → Beside p e.name previous kept → Wrote out at (write_entry w version p e) out' r
  pub near : r ≤ at + 8276

-- the entry at a place that a step read, after some key
pub record StepRead (w : ℕ) (v : ℕ) (b work : List ℕ) (from : ℕ) (st : Step) : Type 0 where
  pub key : Key
  pub read : read_entry w v key from (drop from b) ≡ good (entry_at w v b work from st) (st.next.at - from)
  pub flags : st.flags ≡ be16 (drop from b) (40 + w)
  pub head : st.head ≡ fixed_length w (is_set 16384 st.flags)
  pub least : 40 + w + 2 ≤ st.head
  pub ahead : from + st.head < st.next.at
  pub next : Inside b st.next

-- ---- entries

-- the name after which the next entry is: that of the last of es, or p where there is none
unfoldable pub last_name : List ℕ → List Entry → List ℕ
last_name p [] = p
last_name p (e ∷ es) = last_name e.name es

-- the entries es, from a cursor on, were written, and rest follow
pub record RunWritten (w : ℕ)
    (v : ℕ) (b work : List ℕ) (c : Cursor) (version : ℕ) (out : List ℕ) (at j : ℕ) (es rest : List Entry) (work' out' : List ℕ) (r : Progress)
    : Type 0 where
  pub wrote : Wrote out at (write_entries w version (key_at v b work c).name es) out' r.at
  pub extended : r.extended ≡ any_word es
  pub last : (key_at v b work' r.cursor).name ≡ last_name (key_at v b work c).name es
  pub taken : ℕ
  pub left : RunRead w v j b work' r.cursor rest taken

-- what the writing of at most n entries leaves behind, whatever the body has; end is the place after them
pub record WriteBounds (work out : List ℕ) (at n : ℕ) (work' out' : List ℕ) (end : ℕ) : Type 0 where
  pub near : end ≤ at + n * 8276
  pub frame : Frame work work'
  pub out_long : length out' ≡ length out

-- what the writing of n entries leaves behind
pub record EntriesWritten (w : ℕ) (v : ℕ) (b work : List ℕ) (c : Cursor) (n version : ℕ) (out : List ℕ) (at : ℕ) (work' out' : List ℕ) (r : Progress) : Type 0 where
  pub passed : (j : ℕ) (es : List Entry) (m : ℕ) → RunRead w v (n + j) b work c es m → RunWritten w v b work c version out at j (take n es) (drop n es) work' out' r
  pub inside : Inside b r.cursor
  pub bounds : WriteBounds work out at n work' out' r.at
