-- The proofs of the demands on what is written: the laws of crate writing, for the answers of the calls.
use mathlib.Core.Path.{◌≡◌, refl, sym, ◌∙◌}
use mathlib.Core.Bool.{true}
use mathlib.Core.List.{List}
use Prim.Native.Nat.{ℕ}
use lib.ListN.{length, take, drop}
use lib.Seq.{take_at, drop_at}
use Rattle.format.specs.Bytes.{Bytes, fit32}
use Rattle.format.specs.Records.{Records, Entry, Key}
use Rattle.format.specs.Reading.{Read, bad, good}
use Rattle.format.specs.Reader.{Contents, read_file}
use Rattle.format.specs.Requests.{put_record, remove_record, version_for, rewrite_request, put_request, remove_request}
use Rattle.answers.specs.Answers.{in_room}
use Rattle.answers.specs.Writing.{requested, rewrite_answer, put_answer, remove_answer, output_after}
use Rattle.format_laws.proofs.Readings.{bad-good, good-inv}
use Rattle.answers.proofs.Laws.{room-inv}
use Rattle.writing.specs.Sound.{SoundRecords}
use Rattle.writing.specs.OneFile.{OneFile, WritesBack}
use Rattle.writing.proofs.File.{read-sound}
use Rattle.writing.proofs.Answers.{FileAnswered, answered-one, rewrite-answers, put-answers, remove-answers}
use Rattle.kinds.specs.Kinds.{width_of, hash_of, read_kind}
use Rattle.kinds.proofs.Laws.{length-hash}
use Rattle.demands.proofs.Statements.{rewrite, put, remove}
use Rattle.demands.proofs.Proved.{ReadBy, read_by}

pub filled : (out bytes : List ℕ) (n : ℕ) → n ≡ length bytes
    → (take n (output_after (good bytes n) out) ≡ bytes) × (drop n (output_after (good bytes n) out) ≡ drop n out)
filled out bytes n e = (take_at bytes (drop n out) n (sym e), drop_at bytes (drop n out) n (sym e))

module _ (w : ℕ) (hash : List ℕ → List ℕ) (work : List ℕ) (width : (b : List ℕ) → length (hash b) ≡ w) (f : List ℕ) (x : Read Contents) (read : ReadBy w hash f x) (asked most : ℕ) (is : Bytes f) where
  -- a request of the records that were read, where what it answers is the one file of the changed records
  back : (ask : Records → Read (List ℕ)) (change : Records → Records)
      → ((r : Records) (bytes : List ℕ) (n : ℕ) → SoundRecords w r → ask r ≡ good bytes n → FileAnswered w hash (version_for asked (change r).entries) (change r) most bytes n)
      → WritesBack w hash f asked change (requested (in_room work x) ask)
  back ask change law = record {
    result = λ c m bytes n e q. by c m bytes n e (in_room work x) refl q;
  }
    where
      by : (c : Contents) (m : ℕ) (bytes : List ℕ) (n : ℕ) → read_file w hash f ≡ good c m → (y : Read Contents) → in_room work x ≡ y
          → requested y ask ≡ good bytes n
          → OneFile w hash (version_for asked (change c.records).entries) (change c.records) bytes n
      by c m bytes n e (bad i p) _ q = bad-good _ _ _ _ q
      by c m bytes n e (good d i) got q =
          room-inv work x d i got λ _ good-is.
          good-inv c d m i (sym e ∙ read d i good-is) λ same _.
          answered-one (law c.records bytes n (read-sound w hash width f c m is e) (rw same q)) width

  pub writes-rewritten : WritesBack w hash f asked (λ r. r) (rewrite_answer w hash work asked most x)
  unfolding rewrite_answer
  writes-rewritten = back (rewrite_request w hash asked most) (λ r. r) λ r bytes n sound q. rewrite-answers asked most bytes n r sound q

  pub writes-put : (e : Entry) → length e.numbers ≡ 10 → fit32 e.numbers ≡ true → length e.object ≡ w
      → WritesBack w hash f asked (put_record w e) (put_answer w hash work asked e most x)
  unfolding put_answer
  writes-put e ten fit object =
      back (put_request w hash asked e most) (put_record w e) λ r bytes n sound q. put-answers asked most bytes n e r sound ten fit object q

  pub writes-removed : (k : Key) → WritesBack w hash f asked (remove_record w k) (remove_answer w hash work asked k most x)
  unfolding remove_answer
  writes-removed k = back (remove_request w hash asked k most) (remove_record w k) λ r bytes n sound q. remove-answers asked most bytes n k r sound q

-- the same for a kind
module _ (kind : ℕ) (work f : List ℕ) (asked most : ℕ) (is : Bytes f) where
  pub rewritten : WritesBack (width_of kind) (hash_of kind) f asked (λ r. r) (rewrite kind work asked most f)
  rewritten = writes-rewritten (width_of kind) (hash_of kind) work (length-hash kind) f (read_kind kind f) (read_by kind f) asked most is

  pub put_in : (e : Entry) → length e.numbers ≡ 10 → fit32 e.numbers ≡ true → length e.object ≡ width_of kind
      → WritesBack (width_of kind) (hash_of kind) f asked (put_record (width_of kind) e) (put kind work asked e most f)
  put_in = writes-put (width_of kind) (hash_of kind) work (length-hash kind) f (read_kind kind f) (read_by kind f) asked most is

  pub removed : (k : Key) → WritesBack (width_of kind) (hash_of kind) f asked (remove_record (width_of kind) k) (remove kind work asked k most f)
  removed = writes-removed (width_of kind) (hash_of kind) work (length-hash kind) f (read_kind kind f) (read_by kind f) asked most is
