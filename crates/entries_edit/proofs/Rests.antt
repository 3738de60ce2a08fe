-- Laws of entries that are written one part after another: the first after another name, one that is left out, the others.
use mathlib.Core.Path.{◌≡◌, refl, sym, ap, ◌∙◌}
use mathlib.Core.List.{List, [], ◌∷◌, ◌++◌, append-nil}
use mathlib.Core.Bool.{Bool, true, false, cond, ◌||◌}
use Prim.Native.Nat.{ℕ, suc, ◌+◌, ◌-◌, ◌≤◌, ◌<◌, min}
use native.Mathlib.Omega.{arith}
use lib.ListN.{length, take, drop, get_elem?, take-append-drop}
use lib.Dec.{eqb}
use Rattle.std.specs.Prelude.{Ok}
use Rattle.format.specs.Names.{common}
use Rattle.format.specs.Records.{Entry, Key, key_of}
use Rattle.format.specs.Reader.{is_set, entry_of}
use Rattle.format.specs.Writer.{needs_word, write_entry, write_entries}
use Rattle.format.specs.Requests.{goes_before, any_word}
use Rattle.format_laws.proofs.Tests.{and-inv, eqb_swap}
use Rattle.format_laws.proofs.Readings.{good-inv, front-inv}
use Rattle.fields.proofs.Workspace.{frame_same, frame_then}
use Rattle.output.specs.Output.{Wrote}
use Rattle.output.proofs.Laws.{wrote_nothing, wrote_then}
use Rattle.entries_run.specs.declared.Cursor.{Cursor}
use Rattle.entries_run.specs.declared.Step.{Step}
use Rattle.entries_run.specs.Steps.{name_at, key_at, entry_at, Inside, EntryStepped, RunRead}
use Rattle.entries_run.proofs.Names.{name_at-length}
use Rattle.entries_run.proofs.Steps.{entries-good, run_none, entry_at-name}
use Rattle.entries_write.specs.declared.Progress.{Progress}
use Rattle.entries_write.specs.Parts.{PrefixKept, Beside, last_name, EntryWritten, WriteBounds, EntriesWritten}
use Rattle.entries_write.proofs.Lists.{entries-append, any_word-append}
use Rattle.entries_write.proofs.Stepping.{step-found, step-name, step_keeps, step-beside, step-common}
use Rattle.format_laws.proofs.Names.{common-le}
use Rattle.format_laws.proofs.Orders.{common-through}
use Rattle.format_laws.proofs.Keys.{before-name, may_follow, follow-before}
use Rattle.entries_place.specs.Places.{rising}
use Rattle.entries_place.proofs.Places.{read-rising}
use Rattle.entries_place.proofs.Finding.{key-at}
use Rattle.entries_edit.specs.declared.rest.WriteEnd.{WriteEnd}
use Rattle.entries_edit.specs.Rests.{EntriesWrittenAfter, StepWritten, OthersWritten, PastWritten, RemovedWritten}

-- ---- lists and tests

one-longer : (a b : Bool) (m n : ℕ) → a ≡ b → m ≡ n → cond a (suc m) 0 ≡ cond b (suc n) 0
one-longer a b m n p q = rw (p, q)

common-swap : (s t : List ℕ) → common s t ≡ common t s
unfolding common
common-swap [] [] = refl
common-swap [] (y ∷ t) = refl
common-swap (x ∷ s) [] = refl
common-swap (x ∷ s) (y ∷ t) = one-longer (eqb x y) (eqb y x) (common s t) (common t s) (eqb_swap x y) (common-swap s t)

or_swap : (a b : Bool) → (a || b) ≡ (b || a)
or_swap true true = refl
or_swap true false = refl
or_swap false true = refl
or_swap false false = refl

rising-first : (k : Key) (x : Entry) (xs es : List Entry) → x ∷ xs ≡ es → rising k es ≡ true → goes_before k (key_of x) ≡ true
unfolding rising
rising-first k x xs es parts h = follow-before k (key_of x) (and-inv (may_follow k (key_of x)) (rising (key_of x) xs) (ap (rising k) parts ∙ h)).0

-- ---- parts, one after another

module _ (w : ℕ) (version : ℕ) (out : List ℕ) (at : ℕ) (p : List ℕ) where
  -- none
  written_none : EntriesWrittenAfter w version out at p [] out (record { at = at; extended = false })
  unfolding write_entries any_word
  written_none = record { wrote = wrote_nothing out at; extended = refl }

  -- one entry, then others
  pub written_one : (e : Entry) {out' : List ℕ} {q : ℕ} (es : List Entry) {out'' : List ℕ} (r : WriteEnd) (also : Bool)
      → Wrote out at (write_entry w version p e) out' q → EntriesWrittenAfter w version out' q e.name es out'' r → also ≡ (needs_word e || r.extended)
      → EntriesWrittenAfter w version out at p (e ∷ es) out'' (record { at = r.at; extended = also })
  unfolding write_entries any_word
  written_one e {out'} {q} es {out''} r also x y is =
      record {
        wrote = wrote_then out (write_entry w version p e) (write_entries w version e.name es) out' out'' at q r.at x y.wrote;
        extended = is ∙ ap (λ (t : Bool). needs_word e || t) y.extended;
      }

  -- some entries, then others
  pub written-front : (xs : List Entry) {out' : List ℕ} (l : WriteEnd) (ys : List Entry) {out'' : List ℕ} (r : WriteEnd) (also : Bool)
      → EntriesWrittenAfter w version out at p xs out' l → EntriesWrittenAfter w version out' l.at (last_name p xs) ys out'' r → also ≡ (l.extended || r.extended)
      → EntriesWrittenAfter w version out at p (xs ++ ys) out'' (record { at = r.at; extended = also })
  written-front xs {out'} l ys {out''} r also x y is =
      record {
        wrote =
            rw
            (entries-append w version p xs ys)
            (wrote_then out (write_entries w version p xs) (write_entries w version (last_name p xs) ys) out' out'' at l.at r.at x.wrote y.wrote);
        extended = is ∙ rw (x.extended, y.extended) (sym (any_word-append xs ys));
      }

-- ---- all entries from a cursor on

module _ {w : ℕ} {v : ℕ} {b work : List ℕ} {c : Cursor} {n version : ℕ} {out : List ℕ} {at : ℕ} {work' out' : List ℕ} {r : Progress}
    (h : EntriesWritten w v b work c n version out at work' out' r) where
  pub all-written : (es : List Entry) (m : ℕ) → RunRead w v n b work c es m
      → EntriesWrittenAfter w version out at (key_at v b work c).name es out' (record { at = r.at; extended = r.extended })
  all-written es m q =
      let none_more : n + 0 ≡ n = omega arith in
      let x = h.passed 0 es m (rw none_more q) in
      good-inv _ _ _ _ (sym (run_none w v b work' r.cursor) ∙ x.left) λ none taken.
      let whole : take n es ≡ es = sym (append-nil (take n es)) ∙ ap (λ (l : List Entry). take n es ++ l) none ∙ take-append-drop n es in
      record { wrote = rw whole at x.wrote; extended = rw whole at x.extended }

-- ---- the entry that a step read, then n more

module _ (w : ℕ) (v : ℕ) (b work : List ℕ) (from : ℕ) (st : Step) {n previous kept version : ℕ} {out : List ℕ} {at : ℕ} {out' : List ℕ} {p : ℕ} {work'' out'' : List ℕ}
    {r : Progress} {also : Bool} (x : EntryWritten w out at version (entry_at w v b work from st) previous kept out' p)
    (y : EntriesWritten w v b work st.next n version out' p work'' out'' r) (is : also ≡ (r.extended || (is_set 16384 st.word || is_set 8192 st.word))) where
  word_known : also ≡ (needs_word (entry_at w v b work from st) || r.extended)
  unfolding needs_word entry_of
  word_known = is ∙ or_swap r.extended _

  pub step-written : length out' ≡ length out → StepWritten w v b work from st n previous kept version out at work'' out'' (record { at = r.at; extended = also })
  step-written long =
      let first : Entry = entry_at w v b work from st in
      let one = x.near in
      let near = y.bounds.near in
      record {
        written = λ q es m beside run.
            let rest : EntriesWrittenAfter w version out' p first.name es out'' (record { at = r.at; extended = r.extended }) =
            rw (entry_at-name w v b work from st) (all-written y es m run) in
            written_one w version out at q first es _ also (x.wrote q beside) rest word_known;
        bounds = record { near = omega arith; frame = y.bounds.frame; out_long = y.bounds.out_long ∙ long };
      }

-- ---- n entries from a cursor on, by a step over the first

-- there is none
module _ (w : ℕ) (v : ℕ) (b work : List ℕ) (c : Cursor) (n version : ℕ) (out : List ℕ) (at : ℕ) (none : n ≡ 0) where
  none_written : (p : List ℕ) (es : List Entry) (m : ℕ) → RunRead w v n b work c es m → EntriesWrittenAfter w version out at p es out (record { at = at; extended = false })
  none_written p es m q = good-inv _ _ _ _ (sym (run_none w v b work c) ∙ rw none at q) (λ is taken. rw (← is) (written_none w version out at p))

  none-bounds : WriteBounds work out at n work out at
  none-bounds = record { near = omega arith; frame = frame_same work; out_long = refl }

  pub after_none : (p : List ℕ) → OthersWritten w v b work c n false p version out at work out (record { at = at; extended = false })
  after_none p = record { written = λ es m q same. none_written p es m q; bounds = none-bounds }

  pub past-none : (previous kept : ℕ) → PastWritten w v b work c n previous kept version out at work out (record { at = at; extended = false })
  past-none previous kept = record { written = λ k es m q before beside. none_written k.name es m q; bounds = none-bounds }

-- it is read
module _ {w : ℕ} {v : ℕ} {b work : List ℕ} {c : Cursor} {work' : List ℕ} (n version : ℕ) (out : List ℕ) (at : ℕ) (more : 0 < n) {st : Step}
    (t : EntryStepped w v b work c work' (Ok st)) where
  abbrev entry : Entry
  entry = entry_at w v b work' c.at st

  step-on {ℓ} : {X : Type ℓ} (es : List Entry) (m : ℕ) → RunRead w v n b work c es m
      → ((gs : List Entry) (k : ℕ) → entry ∷ gs ≡ es → RunRead w v (n - 1) b work' st.next gs k → X) → X
  step-on es m q f = front-inv (entry ∷ []) _ _ _ _ (sym (entries-good w v b work c work' n more st t) ∙ q) (λ gs k on parts sum. f gs k parts on)

  step-before : (es : List Entry) (m : ℕ) → RunRead w v n b work c es m → (gs : List Entry) → entry ∷ gs ≡ es
      → goes_before (key_at v b work c) (key_of entry) ≡ true
  step-before es m q gs parts = rising-first (key_at v b work c) entry gs es parts (read-rising w v n (key_at v b work c) c.at (drop c.at b) es m q)

  -- what is left behind after the step is left behind in all
  step-bounds : (k : ℕ) {work'' out'' : List ℕ} {end : ℕ} → k ≤ n → WriteBounds work' out at k work'' out'' end → WriteBounds work out at n work'' out'' end
  step-bounds k few h =
      let near = h.near in
      record { near = omega arith; frame = frame_then t.frame h.frame; out_long = h.out_long }

  -- it is written after the name that is put
  pub after-written : (name : List ℕ) {kept : ℕ} {work'' out'' : List ℕ} {r : WriteEnd} → kept ≡ common (key_at v b work' st.next).name name
      → StepWritten w v b work' c.at st (n - 1) (length name) kept version out at work'' out'' r → OthersWritten w v b work c n false name version out at work'' out'' r
  after-written name {kept} is h =
      let beside : Beside name entry.name (length name) kept = record { long = refl; shared = rw (step-name t) (common-swap name _ ∙ sym is) } in
      record {
        written = λ es m q same. step-on es m q (λ gs k parts on. rw parts at (h.written name gs k beside on));
        bounds = step-bounds (n - 1 + 1) (omega arith) h.bounds;
      }

  -- it is written after the key k, where the one between is left out
  pub past-written : (previous shared : ℕ) {kept : ℕ} {work'' out'' : List ℕ} {r : WriteEnd} → kept ≡ min shared st.common
      → StepWritten w v b work' c.at st (n - 1) previous kept version out at work'' out'' r → PastWritten w v b work c n previous shared version out at work'' out'' r
  past-written previous shared {kept} is h =
      record {
        written = λ k es m q before x.
            step-on es m q λ gs j parts on.
            let between : Key = key_at v b work c in
            let names : common k.name entry.name ≡ min (common k.name between.name) (common between.name entry.name) =
            common-through k.name between.name entry.name (before-name k between before) (before-name between (key_of entry) (step-before es m q gs parts)) in
            let beside : Beside k.name entry.name previous kept =
            record { long = x.long; shared = names ∙ rw (x.shared, step-name t, ← (step-found t).common) (sym is) } in
            rw parts at (h.written k.name gs j beside on);
        bounds = step-bounds (n - 1 + 1) (omega arith) h.bounds;
      }

  -- it is left out, and the one after it comes after the key before it
  pub removed-written : {work'' out'' : List ℕ} {r : WriteEnd} → 8192 ≤ length work → Inside b c
      → PastWritten w v b work' st.next (n - 1) c.len st.common version out at work'' out'' r → RemovedWritten w v b work c n version out at work'' out'' r
  removed-written room inside h =
      let beside : Beside (key_at v b work c).name (key_at v b work' st.next).name c.len st.common = rw (step-name t) at (step-beside t room inside) in
      record {
        written = λ es m q.
            step-on es m q λ gs j parts on.
            let rises : goes_before (key_at v b work c) (key_at v b work' st.next) ≡ true =
            rw (key-at w v b work c work' st (step-found t)) at (step-before es m q gs parts) in
            rw (ap (drop 1) parts) at (h.written (key_at v b work c) gs j on rises beside);
        bounds = step-bounds (n - 1) (omega arith) h.bounds;
      }

  -- it is left out, and another of its name is in its place
  pub replaced-written : {work'' out'' : List ℕ} {r : Progress} → EntriesWritten w v b work' st.next (n - 1) version out at work'' out'' r
      → (p : List ℕ) → OthersWritten w v b work c n true p version out at work'' out'' (record { at = r.at; extended = r.extended })
  replaced-written h p =
      record {
        written = λ es m q same.
            step-on es m q λ gs j parts on.
            let name : (key_at v b work' st.next).name ≡ p = sym (step-name t) ∙ same refl entry (ap (λ (l : List Entry). get_elem? l 0) (sym parts)) in
            rw (name, ap (drop 1) parts) at (all-written h gs j on);
        bounds = step-bounds (n - 1) (omega arith) h.bounds;
      }

-- what the names that a step is written after ask of it
module _ {w : ℕ} {v : ℕ} {b work : List ℕ} {c : Cursor} {work' : List ℕ} {st : Step} (t : EntryStepped w v b work c work' (Ok st)) (room : 8192 ≤ length work) where
  pub after_kept : (name : List ℕ) {kept : ℕ} → length name ≤ 8192 → kept ≡ common (key_at v b work' st.next).name name
      → PrefixKept (name_at v b work' st.next.start st.next.len) (length name) kept
  after_kept name {kept} short is =
      let (within, fits) = common-le (key_at v b work' st.next).name name in
      step_keeps t room (length name) kept short (omega arith) (rw (step-name t) (omega arith))

  pub past-kept : (previous shared : ℕ) {kept : ℕ} → Inside b c → previous ≤ 8192 → shared ≤ previous → kept ≡ min shared st.common
      → PrefixKept (name_at v b work' st.next.start st.next.len) previous kept
  past-kept previous shared {kept} inside short fits is =
      let within = (step-common t room inside).1 in
      step_keeps t room previous kept short (omega arith) (omega arith)

-- and what a record asks that is put at a cursor
pub cursor-kept : (v : ℕ) (b work : List ℕ) (c : Cursor) (name : List ℕ) {kept : ℕ} → Inside b c → 8192 ≤ length work → length name ≤ 8192
    → kept ≡ common (key_at v b work c).name name → PrefixKept name c.len kept
cursor-kept v b work c name inside room short is =
    let size = name_at-length v b work c inside room in
    let (fits, within) = common-le (key_at v b work c).name name in
    record { short = short; before_short = inside.short; fits = omega arith; within = omega arith }
