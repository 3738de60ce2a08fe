-- Files whose checksum was left out: some that are accepted, some with a zero changed, one that is rewritten; and the two ways in which zeros from a place
-- on can change the last entry of a file that is still accepted.
use mathlib.Core.Path.{◌≡◌, refl, sym, ap, ◌∙◌}
use mathlib.Core.Logic.{inr, ⊎_elim}
use mathlib.Core.List.{List, [], ◌∷◌, ◌++◌}
use mathlib.Core.Bool.{Bool, true, false, ◌&&◌}
use mathlib.Core.Option.{none}
use Prim.Native.Nat.{ℕ, zero, suc, ◌+◌, ◌≤◌}
use native.Mathlib.Omega.{arith}
use lib.ListN.{length, take, get_elem?, replicate}
use lib.Dec.{eqb, leb}
use borrow.Author.Tests.{leb-true, le-leb}
use Rattle.format.specs.Bytes.{Bytes, fit32, eq_list, lacks}
use Rattle.format.specs.Names.{components_from, components, ok_component, ok_components, ok_name, compare, rises}
use Rattle.format.specs.Records.{Entry, mode_of, Records}
use Rattle.format.specs.Layout.{ok_mode, Spells}
use Rattle.format.specs.Checksum.{matches}
use Rattle.format.specs.Reading.{good}
use Rattle.format.specs.Reader.{Contents, read_file}
use Rattle.format.specs.Writer.{needs_word, write_file}
use Rattle.format.specs.Requests.{any_word}
use Rattle.format.specs.Tails.{zeroed_from}
use Rattle.kinds.specs.Kinds.{width_of}
use Rattle.kinds.proofs.Laws.{sha1-known}
use Rattle.std.specs.Prelude.{Some, None}
use Rattle.answers.specs.declared.Checksum.TheVariants.{LeftOut}
use Rattle.std.specs.Prelude.{Ok}
use Rattle.format.specs.Refusals.{denied}
use Rattle.answers.specs.Answers.{in_file, in_workspace, pick}
use Rattle.format_laws.proofs.Tests.{and-inv, and-inv₃}
use Rattle.format_laws.proofs.Readings.{good-inv, none-some}
use Rattle.spelling.proofs.File.{spelled-read, read-spelled}
use Rattle.writing.specs.Sound.{Writable, entries_none, entries_next}
use Rattle.writing.proofs.File.{read-written}
use Rattle.demands.proofs.Statements.{check, entry, rewrite}
use Rattle.demands.proofs.Demands.{demand3}
use Rattle.demands.proofs.Samples.{work, closed, room, below, all-below, plain_entry}
use Rattle.demands.proofs.Witness.{file}
use Rattle.demands.proofs.WitnessSha256.{full}

-- ---- left out, wrong, written again

-- the first 76 bytes of the file of Witness, with zeros for the checksum
accepted : check 1 work (take 76 file ++ replicate 20 0) ≡ Ok (record { version = 2; entries = 1; end = 76; nodes = None; records = None; checksum = LeftOut })
unfolding closed file
accepted = refl

-- nineteen zeros are not enough, wherever the other byte is
changed :
    (check 1 work (take 76 file ++ (replicate 19 0 ++ (1 ∷ []))) ≡ denied 5 76)
    × (check 1 work (take 76 file ++ (1 ∷ replicate 19 0)) ≡ denied 5 76)
unfolding closed file
changed = (refl, refl)

-- of SHA-256 there are thirty-two zeros; twenty are not enough
accepted-sha256 :
    (check 2 work (take 230 full ++ replicate 32 0) ≡ Ok (record { version = 2; entries = 1; end = 92; nodes = Some 1; records = Some 1; checksum = LeftOut }))
    × (check 2 work (take 230 full ++ (replicate 12 1 ++ replicate 20 0)) ≡ denied 5 230)
unfolding closed full
accepted-sha256 = (refl, refl)

-- what is written has a real one
written : rewrite 1 work 1 96 (take 76 file ++ replicate 20 0) ≡ good (take 96 file) 96
unfolding closed file
written = refl

-- ---- zeros from a place on

-- a hash of zeros alone
no_hash : List ℕ → List ℕ
no_hash b = replicate 20 0

no-width : (b : List ℕ) → length (no_hash b) ≡ 20
unfolding no_hash
no-width b = refl

-- what is spelled with it is spelled with every hash, the checksum left out
zeros-spelled : {hash : List ℕ → List ℕ} {r : Records} {f : List ℕ} → Spells 20 no_hash r f → Spells 20 hash r f
unfolding no_hash
zeros-spelled h = record {
  body = h.body;
  body_is = h.body_is;
  checksum = h.checksum;
  right_or_left_out = inr (⊎_elim (λ e. e) (λ e. e) h.right_or_left_out);
  file_is = h.file_is;
  short = h.short;
}

-- so what is read with it is what entry k shows of a SHA-1 file
shows : (f : List ℕ) (c : Contents) (m k : ℕ) → Bytes f → read_file 20 no_hash f ≡ good c m → entry 1 work k f ≡ pick (eqb c.version 4) (get_elem? c.records.entries k)
unfolding width_of zeros-spelled
shows f c m k bytes read =
    let h : Spells 20 no_hash c.records f = read-spelled 20 no_hash no-width f c m bytes read in
    let version : h.body_is.version ≡ c.version =
    good-inv _ _ _ _ (sym (spelled-read 20 no_hash no-width c.records f h) ∙ read) λ e _. ap (λ (d : Contents). d.version) e
    in
    (demand3 1 work room).entries sha1-known f c.records k (zeros-spelled h)
    ∙ ap (λ (v : ℕ). pick (eqb v 4) (get_elem? c.records.entries k)) version

-- ---- an extended word

-- the stages 1 and 2 of "a" in version 4, the second with an extended word, whose high byte is x
conflict_file : ℕ → List ℕ
conflict_file x =
    68 ∷ 73 ∷ 82 ∷ 67 ∷ 0 ∷ 0 ∷ 0 ∷ 4 ∷ 0 ∷ 0 ∷ 0 ∷ 2 ∷ (replicate 24 0 ++ (0 ∷ 0 ∷ 129 ∷ 164 ∷ (replicate 12 0
    ++ (replicate 20 17 ++ (16 ∷ 1 ∷ 0 ∷ 97 ∷ 0 ∷ (replicate 24 0 ++ (0 ∷ 0 ∷ 129 ∷ 164 ∷ (replicate 12 0
    ++ (replicate 20 34 ++ (96 ∷ 1 ∷ x ∷ replicate 23 0))))))))))

conflict-bytes : Bytes (conflict_file 64) × Bytes (conflict_file 0)
unfolding conflict_file below
conflict-bytes = (all-below (conflict_file 64) refl, all-below (conflict_file 0) refl)

-- of a stage, with skip-worktree or without
abbrev pub staged : ℕ → ℕ → Bool → Entry
staged b stage skip = record {
  numbers = 0 ∷ 0 ∷ 0 ∷ 0 ∷ 0 ∷ 0 ∷ 0x81a4 ∷ 0 ∷ 0 ∷ 0 ∷ [];
  object = replicate 20 b;
  assume_valid = false;
  stage = stage;
  skip_worktree = skip;
  intent_to_add = false;
  name = 97 ∷ [];
}

abbrev conflict : Bool → Contents
conflict skip = record {
  version = 4;
  checksum = matches;
  end = 143;
  records = record { entries = staged 17 1 false ∷ staged 34 2 skip ∷ []; cache_tree = none; resolve_undo = none };
}

conflict-read : (read_file 20 no_hash (conflict_file 64) ≡ good (conflict true) 143) × (read_file 20 no_hash (conflict_file 0) ≡ good (conflict false) 143)
unfolding closed conflict_file no_hash
conflict-read = (refl, refl)

conflict-zeroed : zeroed_from 139 (conflict_file 64) ≡ conflict_file 0
unfolding conflict_file zeroed_from
conflict-zeroed = refl

-- with zeros from its extended word on, the second has lost skip-worktree
word_lost :
    (entry 1 work 1 (conflict_file 64) ≡ in_workspace (staged 34 2 true))
    × (entry 1 work 1 (zeroed_from 139 (conflict_file 64)) ≡ in_workspace (staged 34 2 false))
word_lost =
    (shows (conflict_file 64) (conflict true) 143 1 conflict-bytes.0 conflict-read.0, rw conflict-zeroed (shows (conflict_file 0) (conflict false) 143 1 conflict-bytes.1 conflict-read.1))

-- ---- a long name

-- one entry with a name, and its file in version 2
abbrev one : List ℕ → Records
one name = record { entries = plain_entry 20 17 name ∷ []; cache_tree = none; resolve_undo = none }

abbrev file_of : List ℕ → List ℕ
file_of name = write_file 20 no_hash 2 (one name)

one-writable : (name : List ℕ) → ok_name name ≡ true → rises (compare [] name) 0 0 ≡ true → Writable 20 2 (one name)
unfolding fit32 ok_mode mode_of any_word needs_word
one-writable name ok order = record {
  sound = record {
    entries = entries_next {e = plain_entry 20 17 name} (record { ten = refl; fit = refl; mode = refl; object = refl; stage = omega arith; name = ok }) order entries_none;
    cache_tree = λ t e. none-some e;
    resolve_undo = λ us e. none-some e;
  };
  two_to_four = (omega arith, omega arith);
  no_word = λ _. refl;
}

-- "a/" n times, and s
pairs : ℕ → List ℕ → List ℕ
pairs zero s = s
pairs (suc n) s = 97 ∷ 47 ∷ pairs n s

pairs-length : (n : ℕ) (s : List ℕ) → length (pairs n s) ≡ n + n + length s
unfolding pairs
pairs-length zero s = omega arith
pairs-length (suc n) s = omega (arith, pairs-length n s)

pairs-lacks : (n : ℕ) (s : List ℕ) → lacks 0 (pairs n s) ≡ lacks 0 s
unfolding pairs lacks
pairs-lacks zero s = refl
pairs-lacks (suc n) s = pairs-lacks n s

pairs-components : (n : ℕ) (s : List ℕ) → ok_components (components (pairs n s)) ≡ ok_components (components s)
unfolding pairs components components_from ok_components ok_component eq_list
pairs-components zero s = refl
pairs-components (suc n) s = pairs-components n s

pairs-sound : (n : ℕ) (s : List ℕ) → ok_name s ≡ true → n + n + length s ≤ 8192 → ok_name (pairs n s) ≡ true
unfolding ok_name
pairs-sound n s ok short =
    let (one, _, rest) = and-inv₃ (leb 1 (length s)) (leb (length s) 8192) (lacks 0 s && ok_components (components s)) ok in
    let (no_nul, sound) = and-inv (lacks 0 s) (ok_components (components s)) rest in
    let some : 1 ≤ length s = leb-true 1 (length s) one in
    rw (pairs-length n s, le-leb 1 (n + n + length s) (omega arith), le-leb (n + n + length s) 8192 short, pairs-lacks n s, pairs-components n s, no_nul, sound) refl

-- "a/a/…/aa", of 4,096 bytes, and "a/a/…/a"
abbrev long_name : List ℕ
long_name = pairs 2047 (97 ∷ 97 ∷ [])

abbrev cut_name : List ℕ
cut_name = pairs 2047 (97 ∷ [])

-- their files, of which one is the other with zeros from the last byte of the name on
files : zeroed_from 4169 (file_of long_name) ≡ file_of cut_name
unfolding closed pairs no_hash zeroed_from
files = refl

sizes : (length (file_of long_name) ≡ 4192) × (length (file_of cut_name) ≡ 4192)
unfolding closed pairs no_hash
sizes = (refl, refl)

file-bytes : Bytes (file_of long_name) × Bytes (file_of cut_name)
unfolding closed pairs no_hash below
file-bytes = (all-below (file_of long_name) refl, all-below (file_of cut_name) refl)

ends-sound : (ok_name (97 ∷ 97 ∷ []) ≡ true) × (ok_name (97 ∷ []) ≡ true)
unfolding closed
ends-sound = (refl, refl)

first : (n : ℕ) (s : List ℕ) → rises (compare [] (pairs (suc n) s)) 0 0 ≡ true
unfolding pairs compare
first n s = refl

shows-pairs : (s : List ℕ) → ok_name s ≡ true → length s ≤ 8 → length (file_of (pairs 2047 s)) ≡ 4192 → Bytes (file_of (pairs 2047 s))
    → entry 1 work 0 (file_of (pairs 2047 s)) ≡ in_file (plain_entry 20 17 (pairs 2047 s))
shows-pairs s ok short size bytes =
    let name : List ℕ = pairs 2047 s in
    shows (file_of name) _ _ 0 bytes
    (read-written 20 no_hash no-width 2 (one name) (one-writable name (pairs-sound 2047 s ok (omega arith)) (first 2046 s)) (omega arith))

-- the name has 4,096 bytes, and then 4,095
name-lost :
    (length long_name ≡ 4096)
    × (length cut_name ≡ 4095)
    × (entry 1 work 0 (file_of long_name) ≡ in_file (plain_entry 20 17 long_name))
    × (entry 1 work 0 (zeroed_from 4169 (file_of long_name)) ≡ in_file (plain_entry 20 17 cut_name))
name-lost = (
  pairs-length 2047 (97 ∷ 97 ∷ []),
  pairs-length 2047 (97 ∷ []),
  shows-pairs (97 ∷ 97 ∷ []) ends-sound.0 (omega arith) sizes.0 file-bytes.0,
  rw files (shows-pairs (97 ∷ []) ends-sound.1 (omega arith) sizes.1 file-bytes.1),
)
