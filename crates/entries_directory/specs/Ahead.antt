-- The names of the entries that are ahead of a walk over them. v is the version, b the body, work the workspace.
use Rattle.std.specs.Prelude.{◌≡◌, List, [], ◌∷◌, true, ◌&&◌, ℕ, ◌-◌, ◌≤◌, ◌<◌, length, drop, leb, ltb}
use Rattle.format.specs.Bytes.{lacks}
use Rattle.format.specs.Names.{common}
use Rattle.format.specs.Records.{Entry}
use Rattle.format.specs.Layout.{names}
use Rattle.fields.specs.Workspace.{Frame}
use Rattle.entries_run.specs.Steps.{name_at, Inside, RunRead}
use Rattle.directories.specs.Names.{sorted_from, begins, beyond}
use Rattle.entries_directory.specs.declared.Front.{Front}

-- the cursor is in the body, the name before it has the bytes in common, and what is ahead can be counted
pub record FrontFits (b : List ℕ) (s : Front) : Type 0 where
  pub inside : Inside b s.cursor
  pub short : s.common ≤ s.cursor.len
  pub few : s.ahead ≤ 4294967296

-- the first name ahead is x, and those after it are xs, which rise
pub record Ahead (w : ℕ) (v : ℕ) (b work : List ℕ) (s : Front) (x : List ℕ) (xs : List (List ℕ)) : Type 0 where
  pub some : 1 ≤ s.ahead
  pub name : name_at v b work s.cursor.start s.cursor.len ≡ x
  pub entries : List Entry
  pub taken : ℕ
  pub reads : RunRead w v (s.ahead - 1) b work s.cursor entries taken
  pub rest : names entries ≡ xs
  pub sorted : sorted_from x xs ≡ true

-- the names ahead after the name last, of which the first has s.common bytes in common with it
pub data After (w : ℕ) (v : ℕ) (b work : List ℕ) (s : Front) (last : List ℕ) : List (List ℕ) → Type 0 where
  after_none : s.ahead ≡ 0 → After w v b work s last []
  after_some : {x : List ℕ} {xs : List (List ℕ)} → Ahead w v b work s x xs → s.common ≡ common last x → After w v b work s last (x ∷ xs)

-- what a step over the first name leaves behind
pub record FrontAdvanced (w : ℕ) (v : ℕ) (b work : List ℕ) (s : Front) (work' : List ℕ) (r : Front) : Type 0 where
  pub fits : FrontFits b r
  pub fewer : r.ahead ≤ s.ahead - 1
  pub frame : Frame work work'
  pub after : (x : List ℕ) (xs : List (List ℕ)) → Ahead w v b work s x xs → After w v b work' r x xs

-- of the names whole, those in the directory q have been passed
pub record DirectoryPassed (w : ℕ) (v : ℕ) (b work : List ℕ) (s : Front) (q : List ℕ) (whole : List (List ℕ)) : Type 0 where
  pub last : List ℕ
  pub in_it : begins q last ≡ true
  pub after : After w v b work s last (beyond (begins q) whole)

-- what any walk past one name or more leaves behind
pub record FrontMoved (b work : List ℕ) (s : Front) (work' : List ℕ) (r : Front) : Type 0 where
  pub fits : FrontFits b r
  pub less : r.ahead < s.ahead
  pub frame : Frame work work'

-- the same, past the names that begin with the first k bytes of the first one
pub record FrontPassed (w : ℕ) (v : ℕ) (b work : List ℕ) (s : Front) (k : ℕ) (work' : List ℕ) (r : Front) : Type 0 where
  pub gone : FrontMoved b work s work' r
  pub passed : (q x : List ℕ) (xs : List (List ℕ)) → Ahead w v b work s x xs → begins q x ≡ true → length q ≡ k
      → DirectoryPassed w v b work' r q (x ∷ xs)

-- ---- the files of a directory

-- the name x is in the directory q, with no "/" after it
pub record File (q x : List ℕ) : Type 0 where
  pub in_it : begins q x ≡ true
  pub alone : lacks 47 (drop (length q) x) ≡ true

-- the first name ahead begins with as many bytes as the one before it, and has no "/" after what it has in common with that one
pub record MoreFiles (v : ℕ) (b work : List ℕ) (s : Front) (k : ℕ) : Type 0 where
  pub stays : (ltb 0 s.ahead && leb k s.common) ≡ true
  pub alone : lacks 47 (drop s.common (name_at v b work s.cursor.start s.cursor.len)) ≡ true

-- Files q whole rest: the first of the names whole are files of the directory q, and rest are those after them
pub data Files (q : List ℕ) (whole : List (List ℕ)) : List (List ℕ) → Type 0 where
  files_none : Files q whole whole
  files_more : {x : List ℕ} {xs : List (List ℕ)} → Files q whole (x ∷ xs) → File q x → Files q whole xs

-- of the names whole, the first, which are files of the directory q, have been passed
pub record FilesPassed (w : ℕ) (v : ℕ) (b work : List ℕ) (s : Front) (q : List ℕ) (whole : List (List ℕ)) : Type 0 where
  pub rest : List (List ℕ)
  pub files : Files q whole rest
  pub last : List ℕ
  pub is_file : File q last
  pub after : After w v b work s last rest

-- what a walk past files of the directory whose name is the first k bytes of the first one leaves behind
pub record FrontPassedFiles (w : ℕ) (v : ℕ) (b work : List ℕ) (s : Front) (k : ℕ) (work' : List ℕ) (r : Front) : Type 0 where
  pub gone : FrontMoved b work s work' r
  pub passed : (q x : List ℕ) (xs : List (List ℕ)) → Ahead w v b work s x xs → File q x → length q ≡ k
      → FilesPassed w v b work' r q (x ∷ xs)
