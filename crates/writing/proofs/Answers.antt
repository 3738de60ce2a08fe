-- The bytes that a request answers are spelled by the result's records, and are read back as these.
use mathlib.Core.Path.{◌≡◌, refl}
use mathlib.Core.List.{List, []}
use mathlib.Core.Bool.{true, false, not, ◌&&◌}
use Prim.Native.Nat.{ℕ, ◌+◌, ◌≤◌}
use native.Mathlib.Omega.{arith}
use lib.ListN.{length}
use lib.Dec.{eqb}
use borrow.Author.Tests.{eq-eqb, eqb-false, leb-true, ltb-true, not-true}
use Rattle.format.specs.Bytes.{fit32}
use Rattle.format.specs.Records.{Entry, Key, Records}
use Rattle.format.specs.Checksum.{matches}
use Rattle.format.specs.Reading.{good}
use Rattle.format.specs.Reader.{read_file}
use Rattle.format.specs.Writer.{write_entries, write_body, write_file}
use Rattle.format.specs.Requests.{put_record, remove_record, any_word, ok_asked, version_of, version_for, fitting, writing, rewrite_request, put_request, remove_request}
use Rattle.format_laws.proofs.Tests.{by_cond}
use Rattle.format_laws.proofs.Readings.{good-inv, need-inv}
use Rattle.writing.specs.Sound.{SoundEntry, SoundRecords, Writable}
use Rattle.writing.specs.OneFile.{OneFile}
use Rattle.writing.proofs.File.{written-spelled, read-written}
use Rattle.writing.proofs.Edits.{put-sound, remove-sound}
use Rattle.writing.proofs.Smallest.{smallest}

-- ---- the version

asked-between : (asked : ℕ) (es : List Entry) → ok_asked asked ≡ true → (2 ≤ version_for asked es) × (version_for asked es ≤ 4)
unfolding ok_asked version_of version_for
asked-between asked es ok =
    by_cond Between (eqb asked 0) 4 _
    (λ _. (omega arith, omega arith))
    (λ free.
    by_cond Between (eqb asked 1) _ asked
    (λ _. by_cond Between (any_word es) 3 2 (λ _. (omega arith, omega arith)) (λ _. (omega arith, omega arith)))
    (λ fixed. let high = leb-true _ _ ok in (omega (arith, eqb-false asked 0 free, eqb-false asked 1 fixed), high)))
  where
    Between : ℕ → Type 0
    Between v = (2 ≤ v) × (v ≤ 4)

-- what is written in version 2 has no word
asked-no-word : (asked : ℕ) (es : List Entry) → not (eqb asked 2 && any_word es) ≡ true → version_for asked es ≡ 2 → any_word es ≡ false
unfolding version_of version_for
asked-no-word asked es test =
    by_cond Free (eqb asked 0) 4 _
    (λ _ is. absurd (omega arith))
    (λ _.
    by_cond Free (eqb asked 1) _ asked
    (λ _. by_cond Free (any_word es) 3 2 (λ _ is. absurd (omega arith)) (λ none _. none))
    (λ _ is. let two : eqb asked 2 ≡ true = eq-eqb asked 2 is in not-true (any_word es) (rw two at test)))
  where
    Free : ℕ → Type 0
    Free v = v ≡ 2 → any_word es ≡ false

-- ---- what is answered

-- n bytes, the file of the version v and the records r, within an output of room bytes
pub record FileAnswered (w : ℕ) (hash : List ℕ → List ℕ) (v : ℕ) (r : Records) (room : ℕ) (bytes : List ℕ) (n : ℕ) : Type 0 where
  pub writable : Writable w v r
  pub file : bytes ≡ write_file w hash v r
  pub size : n ≡ length bytes
  pub short : n ≤ 16777216
  pub fits : n ≤ room

module _ {w : ℕ} {hash : List ℕ → List ℕ} {v : ℕ} {r : Records} {room : ℕ} {bytes : List ℕ} {n : ℕ} (h : FileAnswered w hash v r room bytes n) where
  file-short : length (write_file w hash v r) ≤ 16777216
  file-short = rw (← h.file, ← h.size) h.short

  pub answered-one : ((b : List ℕ) → length (hash b) ≡ w) → OneFile w hash v r bytes n
  answered-one width =
      let read : read_file w hash bytes
      ≡ good (record { version = v; checksum = matches; end = 12 + length (write_entries w v [] r.entries); records = r }) (length (write_body w v r)) =
      rw h.file (read-written w hash width v r h.writable file-short) in
      record {
        file = h.file;
        size = h.size;
        spelled = rw h.file (written-spelled w hash v r h.writable file-short);
        again = read;
        smallest = smallest w hash width v r bytes _ read;
      }

-- ---- the requests

module _ {w : ℕ} {hash : List ℕ → List ℕ} (asked room : ℕ) (bytes : List ℕ) (n : ℕ) where
  writing-answers : (r : Records) → ok_asked asked ≡ true → SoundRecords w r → writing w hash asked room r ≡ good bytes n
      → FileAnswered w hash (version_for asked r.entries) r room bytes n
  unfolding writing fitting
  writing-answers r ok sound q =
      need-inv _ _ _ _ _ _ q λ test q₁.
      need-inv _ _ _ _ _ _ q₁ λ short q₂.
      need-inv _ _ _ _ _ _ q₂ λ fits q₃.
      good-inv _ _ _ _ q₃ λ is size.
      rw (← is, ← size) (record {
        writable = record { sound = sound; two_to_four = asked-between asked r.entries ok; no_word = asked-no-word asked r.entries test };
        file = refl;
        size = refl;
        short = leb-true _ _ short;
        fits = leb-true _ _ fits;
      })

  pub rewrite-answers : (r : Records) → SoundRecords w r → rewrite_request w hash asked room r ≡ good bytes n
      → FileAnswered w hash (version_for asked r.entries) r room bytes n
  unfolding rewrite_request
  rewrite-answers r sound q = need-inv _ _ _ _ _ _ q λ ok q₁. writing-answers r ok sound q₁

  -- the request tests the entry's mode, stage and name, and that it mixes with none
  pub put-answers : (e : Entry) (r : Records) → SoundRecords w r → length e.numbers ≡ 10 → fit32 e.numbers ≡ true → length e.object ≡ w
      → put_request w hash asked e room r ≡ good bytes n
      → FileAnswered w hash (version_for asked (put_record w e r).entries) (put_record w e r) room bytes n
  unfolding put_request
  put-answers e r sound ten fit object q =
      need-inv _ _ _ _ _ _ q λ ok q₁.
      need-inv _ _ _ _ _ _ q₁ λ mode q₂.
      need-inv _ _ _ _ _ _ q₂ λ stage q₃.
      need-inv _ _ _ _ _ _ q₃ λ name q₄.
      need-inv _ _ _ _ _ _ q₄ λ apart q₅.
      let own : SoundEntry w e = record { ten = ten; fit = fit; mode = mode; object = object; stage = ltb-true _ _ stage; name = name } in
      writing-answers (put_record w e r) ok (put-sound e sound own (not-true _ apart)) q₅

  pub remove-answers : (k : Key) (r : Records) → SoundRecords w r → remove_request w hash asked k room r ≡ good bytes n
      → FileAnswered w hash (version_for asked (remove_record w k r).entries) (remove_record w k r) room bytes n
  unfolding remove_request
  remove-answers k r sound q =
      need-inv _ _ _ _ _ _ q λ ok q₁. need-inv _ _ _ _ _ _ q₁ λ there q₂. writing-answers (remove_record w k r) ok (remove-sound k sound) q₂
