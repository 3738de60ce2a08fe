-- The fields of an entry as the code has them, and the entry that they make with a name. w is the width of an object name, at most 32.
use Rattle.std.specs.Prelude.{◌≡◌, List, [], ◌∷◌, ◌++◌, false, ℕ, ◌-◌, length, take, get_or, replicate}
use Rattle.entries.specs.declared.record.Fields.{Fields}
use Rattle.format.specs.Records as F
use Rattle.format.specs.Reader.{entry_of}

-- an object name in 32 bytes, zeros after it
abbrev pub wide_object : List ℕ → List ℕ
wide_object o = o ++ replicate (32 - length o) 0

-- of the 32 bytes only the first w are read
abbrev pub entry_with : ℕ → Fields → List ℕ → F.Entry
entry_with w x name = record {
  numbers =
      x.ctime_seconds ∷ x.ctime_nanoseconds ∷ x.mtime_seconds ∷ x.mtime_nanoseconds ∷ x.dev ∷ x.ino ∷ x.mode ∷ x.uid ∷ x.gid ∷ x.size
      ∷ [];
  object = take w x.object;
  assume_valid = x.assume_valid;
  stage = x.stage;
  skip_worktree = x.skip_worktree;
  intent_to_add = x.intent_to_add;
  name = name;
}

abbrev pub no_fields : Fields
no_fields = record {
  ctime_seconds = 0;
  ctime_nanoseconds = 0;
  mtime_seconds = 0;
  mtime_nanoseconds = 0;
  dev = 0;
  ino = 0;
  mode = 0;
  uid = 0;
  gid = 0;
  size = 0;
  object = replicate 32 0;
  assume_valid = false;
  stage = 0;
  skip_worktree = false;
  intent_to_add = false;
}

-- the fields of an entry, its numbers in the order of the file
abbrev pub fields_of : F.Entry → Fields
fields_of e = record {
  ctime_seconds = get_or e.numbers 0 0;
  ctime_nanoseconds = get_or e.numbers 1 0;
  mtime_seconds = get_or e.numbers 2 0;
  mtime_nanoseconds = get_or e.numbers 3 0;
  dev = get_or e.numbers 4 0;
  ino = get_or e.numbers 5 0;
  mode = get_or e.numbers 6 0;
  uid = get_or e.numbers 7 0;
  gid = get_or e.numbers 8 0;
  size = get_or e.numbers 9 0;
  object = wide_object e.object;
  assume_valid = e.assume_valid;
  stage = e.stage;
  skip_worktree = e.skip_worktree;
  intent_to_add = e.intent_to_add;
}

-- the fields of an entry whose bytes are s, whose flags are x and whose extended word is y: they make that entry, and they are all that it has
pub record FieldsRead (w : ℕ) (s : List ℕ) (x y : ℕ) (f : Fields) : Type 0 where
  pub entry : (name : List ℕ) → entry_with w f name ≡ entry_of w s x y name
  pub whole : (name : List ℕ) → f ≡ fields_of (entry_of w s x y name)
