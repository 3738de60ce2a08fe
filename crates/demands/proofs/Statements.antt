-- The demands, in the paper's order and words, for every kind and every workspace: each demand speaks of one kind, so that no two kinds are
-- mixed. Check, entry k, tree node k and resolve-undo record k answer what check_answer, entry_answer, node_answer and undo_answer say of the
-- file's reading, and leave the workspace that cleared and work_after say: so their promises in crates/index/src/lib.rt say. Rewrite, put and
-- remove answer what rewrite_answer, put_answer and remove_answer say, clear the workspace, and leave the output that output_after says: so their
-- promises in crates/index_write/src/lib.rt say.
use mathlib.Core.Path.{◌≡◌}
use mathlib.Core.Logic.{◌↔◌, ◌⊎◌}
use mathlib.Core.Bool.{true, false, cond}
use mathlib.Core.List.{List}
use mathlib.Core.Option.{some}
use Prim.Native.Nat.{ℕ, suc, ◌+◌, ◌-◌, ◌<◌}
use lib.ListN.{length, take, drop, get_elem?, replicate}
use lib.Dec.{eqb}
use Rattle.format.specs.Bytes.{Bytes, fit32, eq_list}
use Rattle.format.specs.Records.{Records, Entry, Key, key_of, start, Item, Undo}
use Rattle.format.specs.Checksum.{checksum_of}
use Rattle.format.specs.Layout.{Spells}
use Rattle.format.specs.Reading.{Read, bad, good}
use Rattle.format.specs.Reader.{Contents}
use Rattle.format.specs.Tails.{zeroed_from, Lost}
use Rattle.format.specs.Requests.{mixes, any_word, put_record, remove_record}
use Rattle.writing.specs.OneFile.{WritesBack}
use Rattle.kinds.specs.Kinds.{ok_kind, width_of, hash_of, read_kind}
use Rattle.answers.specs.declared.Checksum.TheVariants.{Matches, LeftOut}
use Rattle.answers.specs.declared.Summary.{Summary}
use Rattle.std.specs.Prelude.{Result, Ok}
use Rattle.format.specs.Refusals.{Numbered, denied}
use Rattle.answers.specs.Answers.{too_small, cleared, work_after, tree_count, undo_count, checksum_as, summary_of, check_answer, entry_answer, node_answer, undo_answer, View, refused, in_workspace, pick, listed, items_of}
use Rattle.answers.specs.Writing.{rewrite_answer, put_answer, remove_answer, output_after}

module _ (kind : ℕ) (work : List ℕ) where
  -- the width of an object name and of the checksum, and the checksum's function
  abbrev w : ℕ
  w = width_of kind

  abbrev hash : List ℕ → List ℕ
  hash = hash_of kind

  abbrev pub check : List ℕ → Result Summary Numbered
  check f = check_answer work (read_kind kind f)

  abbrev pub entry : ℕ → List ℕ → View Entry
  entry k f = entry_answer work k (read_kind kind f)

  abbrev pub node : ℕ → List ℕ → View Item
  node k f = node_answer work k (read_kind kind f)

  abbrev pub undo : ℕ → List ℕ → View Undo
  undo k f = undo_answer work k (read_kind kind f)

  abbrev pub rewrite : ℕ → ℕ → List ℕ → Read (List ℕ)
  rewrite asked room f = rewrite_answer w hash work asked room (read_kind kind f)

  abbrev pub put : ℕ → Entry → ℕ → List ℕ → Read (List ℕ)
  put asked e room f = put_answer w hash work asked e room (read_kind kind f)

  abbrev pub remove : ℕ → Key → ℕ → List ℕ → Read (List ℕ)
  remove asked k room f = remove_answer w hash work asked k room (read_kind kind f)

  -- Every call ends with an answer for every input and never touches a byte outside what it was lent: that is what a promise says, whatever else
  -- it says. Each refusal has a number and a place, leaves the output as it was, and the workspace as document 01 states.
  pub record Demand1 : Type 0 where
    -- on 19 nothing is written
    pub small :
        too_small work ≡ true → (f : List ℕ) →
        (check f ≡ denied 19 0)
        × (cleared work ≡ work)
        × ((k : ℕ) → (entry k f ≡ refused 19 0) × (work_after (entry k f) work ≡ work) × (node k f ≡ refused 19 0) × (undo k f ≡ refused 19 0))
        × ((asked room : ℕ) (e : Entry) (k : Key) → (rewrite asked room f ≡ bad 19 0) × (put asked e room f ≡ bad 19 0) × (remove asked k room f ≡ bad 19 0))
    -- an unknown kind is refused with 29, after 19 and whatever the file, and clears the workspace
    pub unknown :
        too_small work ≡ false → ok_kind kind ≡ false → (f : List ℕ) →
        (check f ≡ denied 29 0)
        × ((k : ℕ) → (entry k f ≡ refused 29 0) × (work_after (entry k f) work ≡ cleared work) × (node k f ≡ refused 29 0) × (undo k f ≡ refused 29 0))
        × ((asked room : ℕ) (e : Entry) (k : Key) → (rewrite asked room f ≡ bad 29 0) × (put asked e room f ≡ bad 29 0) × (remove asked k room f ≡ bad 29 0))
    -- on every answer but 19 the first 8,192 bytes are zero, and what is past them is never touched
    pub zeroed : too_small work ≡ false → (take 8192 (cleared work) ≡ replicate 8192 0) × (drop 8192 (cleared work) ≡ drop 8192 work)
    -- except that an entry shown from version 4 is there first and zeros follow
    pub shown :
        (f : List ℕ) (k : ℕ) (e : Entry) → Bytes f → entry k f ≡ in_workspace e →
        (take (length e.name) (work_after (entry k f) work) ≡ e.name)
        × (take (8192 - length e.name) (drop (length e.name) (work_after (entry k f) work)) ≡ replicate (8192 - length e.name) 0)
        × (drop 8192 (work_after (entry k f) work) ≡ drop 8192 work)
    -- a refusal leaves the output as it was; success fills the first n bytes, and no more
    pub left : (out : List ℕ) (n p : ℕ) → output_after (bad n p) out ≡ out
    pub filled :
        (out bytes : List ℕ) (n : ℕ) → n ≡ length bytes → (take n (output_after (good bytes n) out) ≡ bytes) × (drop n (output_after (good bytes n) out) ≡ drop n out)

  -- For versions 2, 3 and 4, the records read are those that the format gives these bytes, and the refusal is the first that applies: read_kind
  -- has the tests in their order, the kind's before those of the file. The checksum is right or left out.
  pub record Demand2 : Type 0 where
    pub refusals :
        (f : List ℕ) (n p : ℕ) → read_kind kind f ≡ bad n p →
        (check f ≡ denied n p)
        × ((k : ℕ) → (entry k f ≡ refused n p) × (node k f ≡ refused n p) × (undo k f ≡ refused n p))
        × ((asked room : ℕ) (e : Entry) (k : Key) → (rewrite asked room f ≡ bad n p) × (put asked e room f ≡ bad n p) × (remove asked k room f ≡ bad n p))
    pub records :
        (f : List ℕ) (c : Contents) (m : ℕ) → Bytes f → read_kind kind f ≡ good c m →
        Spells w hash c.records f
        × (check f ≡ Ok (summary_of c))
        × ((k : ℕ) →
        (entry k f ≡ pick (eqb c.version 4) (get_elem? c.records.entries k))
        × (node k f ≡ listed (items_of c.records.cache_tree) k)
        × (undo k f ≡ listed c.records.resolve_undo k))
    -- check says which: the last bytes are the hash of all before, or else zeros
    pub guarded :
        (f : List ℕ) (s : Summary) → Bytes f → check f ≡ Ok s → let n : ℕ = length f - w in
        ((s.checksum ≡ Matches) × (drop n f ≡ hash (take n f)))
        ⊎ ((s.checksum ≡ LeftOut) × (drop n f ≡ replicate w 0) × (eq_list (drop n f) (hash (take n f)) ≡ false))
    -- what is written is the one file that document 01 names, with the smallest N at each entry, and reading it gives the same records: WritesBack
    -- says so of whatever a call writes, by OneFile
    pub rewritten : (f : List ℕ) (asked room : ℕ) → Bytes f → WritesBack w hash f asked (λ r. r) (rewrite asked room f)
    -- a record has ten numbers of 32 bits and an object name of w bytes: by its type, so that the promise of put says the same of every record
    pub put_in :
        (f : List ℕ) (asked room : ℕ) (e : Entry) → Bytes f → length e.numbers ≡ 10 → fit32 e.numbers ≡ true → length e.object ≡ w →
        WritesBack w hash f asked (put_record w e) (put asked e room f)
    pub removed : (f : List ℕ) (asked room : ℕ) (k : Key) → Bytes f → WritesBack w hash f asked (remove_record w k) (remove asked k room f)

  -- Beside demand 2, what is asked for of a file that was read: 2, 3, 4, or
  pub record AskedVersions : Type 0 where
    -- 0, which means version 4, whatever the file
    pub default :
        (f : List ℕ) (room : ℕ) (e : Entry) (k : Key) →
        (rewrite 0 room f ≡ rewrite 4 room f) × (put 0 e room f ≡ put 4 e room f) × (remove 0 k room f ≡ remove 4 k room f)
    -- or 1, which means the lowest: 3 where an entry of the result needs the extended word, else 2
    pub lowest :
        (f : List ℕ) (c : Contents) (m room : ℕ) (e : Entry) (k : Key) → read_kind kind f ≡ good c m → let r : Records = c.records in
        (rewrite 1 room f ≡ rewrite (cond (any_word r.entries) 3 2) room f)
        × (put 1 e room f ≡ put (cond (any_word (put_record w e r).entries) 3 2) e room f)
        × (remove 1 k room f ≡ remove (cond (any_word (remove_record w k r).entries) 3 2) k room f)
    -- what is above 4 is refused with 4, and nothing else is
    pub above :
        (f : List ℕ) (c : Contents) (m asked room : ℕ) (e : Entry) (k : Key) → read_kind kind f ≡ good c m →
        (rewrite asked room f ≡ bad 4 0 ↔ 4 < asked) × (put asked e room f ≡ bad 4 0 ↔ 4 < asked) × (remove asked k room f ≡ bad 4 0 ↔ 4 < asked)
    -- the extended word is refused with 21 where 2 is asked for, so never where 0 or 1 is
    pub worded :
        (f : List ℕ) (c : Contents) (m asked room p : ℕ) (e : Entry) (k : Key) → read_kind kind f ≡ good c m →
        (rewrite asked room f ≡ bad 21 p → asked ≡ 2) × (put asked e room f ≡ bad 21 p → asked ≡ 2) × (remove asked k room f ≡ bad 21 p → asked ≡ 2)

  -- With the workspace that document 01 asks for. Of an unknown kind no file is accepted, so what says that one is asks for a known kind:
  pub record Demand3 : Type 0 where
    -- a file of a known kind is accepted exactly when some set of records spells it
    pub exact : ok_kind kind ≡ true → (f : List ℕ) → Bytes f → ((s : Summary) × (check f ≡ Ok s)) ↔ ((r : Records) × Spells w hash r f)
    -- no file is spelled by two different sets
    pub one : (f : List ℕ) (r q : Records) → Spells w hash r f → Spells w hash q f → r ≡ q
    -- check's counts are those of the set that spells it; the version, the byte where entries end and the checksum are those of the spelling
    pub counts :
        ok_kind kind ≡ true → (f : List ℕ) (r : Records) (h : Spells w hash r f) →
        check f
        ≡ Ok
        (record {
          version = h.body_is.version;
          entries = length r.entries;
          end = 12 + length h.body_is.entry_bytes;
          nodes = tree_count r.cache_tree;
          records = undo_count r.resolve_undo;
          checksum = checksum_as (checksum_of (hash h.body) h.checksum);
        })
    -- entry k, tree node k and resolve-undo record k show item k of its lists, an entry of version 4 in the workspace
    pub entries :
        ok_kind kind ≡ true → (f : List ℕ) (r : Records) (k : ℕ) (h : Spells w hash r f) → entry k f ≡ pick (eqb h.body_is.version 4) (get_elem? r.entries k)
    pub nodes : ok_kind kind ≡ true → (f : List ℕ) (r : Records) (k : ℕ) → Spells w hash r f → node k f ≡ listed (items_of r.cache_tree) k
    pub undos : ok_kind kind ≡ true → (f : List ℕ) (r : Records) (k : ℕ) → Spells w hash r f → undo k f ≡ listed r.resolve_undo k
    -- whichever shorter length an accepted file is cut to, check refuses it, or accepts it with the same entry count, and then entry k of both
    -- is equal in every field
    pub cuts :
        (f : List ℕ) (c : ℕ) (s : Summary) → Bytes f → c < length f → check f ≡ Ok s →
        ((n p : ℕ) × (check (take c f) ≡ denied n p))
        ⊎ ((t : Summary) × (check (take c f) ≡ Ok t) × (t.entries ≡ s.entries) × ((k : ℕ) → k < s.entries → entry k (take c f) ≡ entry k f))

  -- Of the files f and g entry k shows whole and read, and they differ, as Lost says: k is the last, and nothing is between it and the checksum.
  -- previous is the key of the entry before it, that of the empty name where there is none
  pub record LastLost (f g : List ℕ) (s : Summary) (k : ℕ) : Type 0 where
    pub last : suc k ≡ s.entries
    pub no-extension : s.end + w ≡ length f
    pub previous : Key
    pub whole : Entry
    pub read : Entry
    pub lost : Lost s.version previous whole read
    pub shown : entry k f ≡ pick (eqb s.version 4) (some whole)
    pub shown-again : entry k g ≡ pick (eqb s.version 4) (some read)
    pub first : k ≡ 0 → previous ≡ start
    pub before : (j : ℕ) (e : Entry) → k ≡ suc j → entry j f ≡ pick (eqb s.version 4) (some e) → previous ≡ key_of e

  -- Beside demand 3, since a checksum may be left out: whichever place of an accepted file all bytes from there on are made zero, at the same
  -- length, check refuses it, or accepts it with the same version and entry count, and then entry k of both is equal in every field, but for the
  -- last, of which LastLost says what can be lost
  abbrev pub ZeroedTails : Type 0
  ZeroedTails =
      (f : List ℕ) (c : ℕ) (s : Summary) → Bytes f → check f ≡ Ok s → let g : List ℕ = zeroed_from c f in
      ((n p : ℕ) × (check g ≡ denied n p))
      ⊎ ((t : Summary) × (check g ≡ Ok t) × (t.version ≡ s.version) × (t.entries ≡ s.entries)
      × ((k : ℕ) → k < s.entries → (entry k g ≡ entry k f) ⊎ LastLost f g s k))

  -- Beside demand 3, since a path is merged or in conflict: no two entries of an accepted file are stage 0 and another stage of one name
  abbrev pub NoneMixed : Type 0
  NoneMixed =
      (f : List ℕ) (s : Summary) (j k : ℕ) (x y : Entry) → Bytes f → check f ≡ Ok s →
      entry j f ≡ pick (eqb s.version 4) (some x) → entry k f ≡ pick (eqb s.version 4) (some y) → mixes (key_of x) (key_of y) ≡ false
