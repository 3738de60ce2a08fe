-- What the writing of entries from a cursor on leaves behind.
use Rattle.std.specs.Prelude.{◌≡◌, List, ◌∷◌, Bool, true, ℕ, ◌+◌, drop}
use Rattle.std.proofs.Math.Option.{some}
use Rattle.std.proofs.Math.ListN.{get_elem?}
use Rattle.format.specs.Records.{Entry, Key}
use Rattle.format.specs.Layout.{bit}
use Rattle.format.specs.Writer.{write_entries}
use Rattle.format.specs.Requests.{goes_before, any_word}
use Rattle.output.specs.Output.{Wrote}
use Rattle.entries_run.specs.declared.Cursor.{Cursor}
use Rattle.entries_run.specs.declared.Step.{Step}
use Rattle.entries_run.specs.Steps.{key_at, entry_at, RunRead}
use Rattle.entries_write.specs.Parts.{Beside, WriteBounds}
use Rattle.entries_edit.specs.declared.rest.WriteEnd.{WriteEnd}

-- entry number k, where there is one, has the name
abbrev pub NamedAt : ℕ → List ℕ → List Entry → Type 0
NamedAt k name es = (x : Entry) → get_elem? es k ≡ some x → x.name ≡ name

-- the entries es were written, the first of them after the name p
pub record EntriesWrittenAfter (w : ℕ) (version : ℕ) (out : List ℕ) (at : ℕ) (p : List ℕ) (es : List Entry) (out' : List ℕ) (r : WriteEnd) : Type 0 where
  pub wrote : Wrote out at (write_entries w version p es) out' r.at
  pub extended : r.extended ≡ any_word es

-- the entry that a step read was written after any name that is so beside its own, then n entries more
pub record StepWritten (w : ℕ)
    (v : ℕ) (b work : List ℕ) (from : ℕ) (st : Step) (n previous kept version : ℕ) (out : List ℕ) (at : ℕ) (work' out' : List ℕ) (r : WriteEnd)
    : Type 0 where
  pub written : (p : List ℕ) (es : List Entry) (m : ℕ) → Beside p (entry_at w v b work from st).name previous kept → RunRead w v n b work st.next es m
      → EntriesWrittenAfter w version out at p (entry_at w v b work from st ∷ es) out' r
  pub bounds : WriteBounds work out at (n + 1) work' out' r.at

-- of n entries those after the name p were written: all of them, or all but the first, which has that name
pub record OthersWritten (w : ℕ)
    (v : ℕ) (b work : List ℕ) (c : Cursor) (n : ℕ) (there : Bool) (p : List ℕ) (version : ℕ) (out : List ℕ) (at : ℕ) (work' out' : List ℕ) (r : WriteEnd)
    : Type 0 where
  pub written : (es : List Entry) (m : ℕ) → RunRead w v n b work c es m → (there ≡ true → NamedAt 0 p es) → EntriesWrittenAfter w version out at p (drop (bit there) es) out' r
  pub bounds : WriteBounds work out at n work' out' r.at

-- n entries were written after any key k that is so beside the one before the cursor, which is left out
pub record PastWritten (w : ℕ)
    (v : ℕ) (b work : List ℕ) (c : Cursor) (n previous kept version : ℕ) (out : List ℕ) (at : ℕ) (work' out' : List ℕ) (r : WriteEnd)
    : Type 0 where
  pub written : (k : Key) (es : List Entry) (m : ℕ) → RunRead w v n b work c es m → goes_before k (key_at v b work c) ≡ true
      → Beside k.name (key_at v b work c).name previous kept → EntriesWrittenAfter w version out at k.name es out' r
  pub bounds : WriteBounds work out at n work' out' r.at

-- n entries were written without the first
pub record RemovedWritten (w : ℕ) (v : ℕ) (b work : List ℕ) (c : Cursor) (n version : ℕ) (out : List ℕ) (at : ℕ) (work' out' : List ℕ) (r : WriteEnd) : Type 0 where
  pub written : (es : List Entry) (m : ℕ) → RunRead w v n b work c es m → EntriesWrittenAfter w version out at (key_at v b work c).name (drop 1 es) out' r
  pub bounds : WriteBounds work out at n work' out' r.at
