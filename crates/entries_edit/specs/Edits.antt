-- What is changed among entries, and what their writing leaves behind.
use Rattle.std.specs.Prelude.{List, [], ◌∷◌, ◌++◌, true, false, ℕ, ◌+◌, take, drop}
use Rattle.format.specs.Records.{Entry}
use Rattle.format.specs.Layout.{bit}
use Rattle.entries_run.specs.Steps.{EntriesRead}
use Rattle.entries_write.specs.Parts.{WriteBounds}
use Rattle.entries_edit.specs.declared.rest.WriteEnd.{WriteEnd}
use Rattle.entries_edit.specs.Rests.{NamedAt, EntriesWrittenAfter}
use Rattle.entries_edit.specs.declared.Edit.{Edit}
use Rattle.entries_edit.specs.declared.Edit.TheVariants as E

-- ---- edits

-- the entries afterwards; e is what is put
abbrev pub edited : Edit → Entry → List Entry → List Entry
edited E.Keep e es = es
edited (E.Put k there) e es = take k es ++ (e ∷ drop (k + bit there) es)
edited (E.Remove k) e es = take k es ++ drop (k + 1) es

-- how many entries an edit passes over
abbrev pub passes : Edit → ℕ
passes E.Keep = 0
passes (E.Put k there) = k + bit there
passes (E.Remove k) = k + 1

-- an entry that is put in place of another has its name
abbrev pub Replaces : Edit → List ℕ → List Entry → Type 0
Replaces E.Keep name es = Unit {0}
Replaces (E.Put k true) name es = NamedAt k name es
Replaces (E.Put k false) name es = Unit {0}
Replaces (E.Remove k) name es = Unit {0}

-- ---- all entries

-- what the writing of the first count entries of the body b, edited, leaves behind; e is what is put
pub record EntriesEdited (w : ℕ)
    (v : ℕ) (b work : List ℕ) (count : ℕ) (edit : Edit) (e : Entry) (version : ℕ) (out : List ℕ) (at : ℕ) (work' out' : List ℕ) (r : WriteEnd)
    : Type 0 where
  pub edited_is : (es : List Entry) (m : ℕ) → EntriesRead w v count b es m → Replaces edit e.name es
      → EntriesWrittenAfter w version out at [] (edited edit e es) out' r
  pub bounds : WriteBounds work out at (count + 1) work' out' r.at
