-- Laws of an entry that is copied: the bytes that it was read from, all of them or those before its name, are those that are written.
use mathlib.Core.Path.{◌≡◌, refl, sym, ap, ◌∙◌}
use mathlib.Core.List.{List, [], ◌++◌, append_assoc}
use mathlib.Core.Bool.{Bool, true, false, cond, not, ◌||◌}
use Prim.Native.Nat.{ℕ, ◌+◌, ◌-◌, ◌*◌, ◌/◌, ◌≤◌}
use native.Mathlib.Nat.{add-sub_cancel_left}
use native.Mathlib.Omega.{arith}
use lib.ListN.{length, take, drop, replicate, length-append, length-drop, length-replicate, take-append-drop}
use lib.Seq.{take_at, drop_at, length-take-le}
use lib.Dec.{eqb}
use borrow.Author.Tests.{not-true}
use Rattle.format.specs.Bytes.{Bytes, be16, put16, put32s}
use Rattle.format.specs.Records.{Entry, Key}
use Rattle.format.specs.Layout.{fixed_length, entry_length, flags_of, word_of, ok_extended, IsEntry}
use Rattle.format.specs.Reader.{is_set, entry_of}
use Rattle.format.specs.Writer.{needs_word, write_plain, write_name, write_rest, write_entry}
use Rattle.format_laws.proofs.Tests.{and-inv}
use Rattle.format_laws.proofs.Numbers.{bytes_drop, length-put16, be16-here}
use Rattle.spelling.proofs.Bytes.{length-put32s}
use Rattle.spelling.proofs.Flags.{flags-read}
use Rattle.spelling.proofs.Entries.{entry_read}
use Rattle.output.specs.Output.{Wrote}
use Rattle.output.proofs.Laws.{wrote_then}
use Rattle.entries_run.specs.declared.Step.{Step}
use Rattle.entries_run.specs.Steps.{name_at, entry_at}
use Rattle.entries_run.proofs.Steps.{entry_at-name}
use Rattle.entries_write.specs.Parts.{PrefixKept, NameWritten, EntryWritten, StepRead}

-- ---- an entry that is spelled

-- the bytes before its name
abbrev head_of : Bool → Entry → List ℕ
head_of extended e = put32s e.numbers ++ (e.object ++ (put16 (flags_of extended e) ++ cond extended (put16 (word_of e)) []))

word-long : (w : ℕ) (extended : Bool) (n : ℕ) → 40 + w + 2 + length (cond extended (put16 n) []) ≡ fixed_length w extended
unfolding fixed_length
word-long w true n = omega (arith, length-put16 n)
word-long w false n = omega arith

-- without an extended word neither of its bits is set
needs-by : (v : ℕ) (extended : Bool) (e : Entry) → ok_extended v extended e ≡ true → (not extended || needs_word e) ≡ true → needs_word e ≡ extended
unfolding ok_extended needs_word
needs-by v true e ok h = h
needs-by v false e ok h =
    let (skip, intent) = and-inv (not e.skip_worktree) (not e.intent_to_add) ok in
    rw (not-true e.skip_worktree skip, not-true e.intent_to_add intent)

module _ {w : ℕ} {v : ℕ} {k : Key} {e : Entry} {a : List ℕ} (h : IsEntry w v k e a) where
  head_tail : a ≡ head_of h.extended e ++ h.tail
  head_tail = h.bytes ∙ sym (simp append_assoc)

  before-flags : length (put32s e.numbers ++ e.object) ≡ 40 + w
  before-flags = rw length-append (omega (arith, length-put32s e.numbers, h.ten, h.object))

  head-long : length (head_of h.extended e) ≡ fixed_length w h.extended
  head-long =
      simp length-append
      (omega (arith, length-put32s e.numbers, h.ten, h.object, length-put16 (flags_of h.extended e), word-long w h.extended (word_of e)))

  flags-at : (rest : List ℕ) → be16 (a ++ rest) (40 + w) ≡ flags_of h.extended e
  flags-at rest =
      let x : ℕ = flags_of h.extended e in
      let r : List ℕ = cond h.extended (put16 (word_of e)) [] ++ (h.tail ++ rest) in
      let whole : a ++ rest ≡ (put32s e.numbers ++ e.object) ++ (put16 x ++ r) = rw h.bytes (simp append_assoc) in
      be16-here (a ++ rest) (40 + w) x r (rw whole (drop_at (put32s e.numbers ++ e.object) (put16 x ++ r) (40 + w) before-flags)) (flags-read h.extended e h.stage).0

-- ---- an entry that a step read

fixed-most : (w : ℕ) (extended : Bool) → fixed_length w extended ≤ 40 + w + 4
unfolding fixed_length
fixed-most w true = omega arith
fixed-most w false = omega arith

pub head-most : {w : ℕ} {v : ℕ} {b work : List ℕ} {from : ℕ} {st : Step} → w ≤ 32 → StepRead w v b work from st → st.head ≤ 76
head-most {w} {st = st} narrow h = rw h.head (omega (arith, fixed-most w (is_set 16384 st.flags)))

-- the place after the bytes before its name
pub head-end : {w : ℕ} {v : ℕ} {b work : List ℕ} {from : ℕ} {st : Step} {out : List ℕ} {at : ℕ} {out' : List ℕ} {q : ℕ} → StepRead w v b work from st
    → Wrote out at (take (from + st.head - from) (drop from b)) out' q → q ≡ at + st.head
head-end {b = b} {from = from} {st = st} h x =
    let there : st.head ≤ length (drop from b) = rw (length-drop from b) (omega (arith, h.ahead, h.next.inside)) in
    x.end ∙ rw (add-sub_cancel_left, length-take-le st.head (drop from b) there)

module _ {w : ℕ} {v : ℕ} {b work : List ℕ} {from : ℕ} {st : Step} (bytes : Bytes b) (narrow : w ≤ 32) (h : StepRead w v b work from st)
    (same : (not (is_set 16384 st.flags) || (is_set 16384 st.word || is_set 8192 st.word)) ≡ true) where
  abbrev s : List ℕ
  s = drop from b

  abbrev e : Entry
  e = entry_at w v b work from st

  abbrev m : ℕ
  m = st.next.at - from

  spelled : IsEntry w v h.key e (take m s)
  spelled = (entry_read w v h.key from s e m (bytes_drop from b bytes) h.read).1

  -- it keeps its extended word, or has none
  extended-is : is_set 16384 st.flags ≡ spelled.extended
  extended-is =
      let flags : be16 s (40 + w) ≡ flags_of spelled.extended e = rw (take-append-drop m s) at (flags-at spelled (drop m s)) in
      ap (is_set 16384) (h.flags ∙ flags) ∙ (flags-read spelled.extended e spelled.stage).2

  needs-is : needs_word e ≡ spelled.extended
  unfolding needs_word entry_of
  needs-is = needs-by v spelled.extended e spelled.extended_ok (rw extended-is at same)

  head-is : st.head ≡ fixed_length w (needs_word e)
  head-is = h.head ∙ ap (fixed_length w) (extended-is ∙ sym needs-is)

  head_bytes : take st.head s ≡ head_of (needs_word e) e
  head_bytes =
      let parts : s ≡ head_of (needs_word e) e ++ (spelled.tail ++ drop m s) =
      sym (take-append-drop m s) ∙ ap (λ (t : List ℕ). t ++ drop m s) (rw (← needs-is) at (head_tail spelled)) ∙ append_assoc (head_of (needs_word e) e) spelled.tail (drop m s) in
      let long : length (head_of (needs_word e) e) ≡ st.head = rw (← needs-is) at (head-long spelled) ∙ sym head-is in
      ap (take st.head) parts ∙ take_at (head_of (needs_word e) e) _ st.head long

  -- the bytes before its name, then the name
  head-then : (version : ℕ) (p : List ℕ) → write_entry w version p e ≡ take st.head s ++ write_name version st.head p e.name
  unfolding write_entry write_rest
  head-then version p = rw (head_bytes, head-is) (sym (simp append_assoc))

  -- all of them, where neither version is 4
  plain-bytes : (version : ℕ) (p : List ℕ) → eqb v 4 ≡ false → eqb version 4 ≡ false → write_entry w version p e ≡ take m s
  unfolding write_name write_plain
  plain-bytes version p old new =
      let tail = rw (old, ← needs-is, ← head-is) at spelled.named in
      head-then version p ∙ rw (new, head_bytes) (sym (rw (← needs-is) at (head_tail spelled) ∙ rw tail refl))

  plain-most : eqb v 4 ≡ false → length e.name ≤ 8192 → length (take m s) ≤ 8276
  unfolding entry_length
  plain-most old short =
      let f : ℕ = st.head in
      let n : ℕ = length e.name in
      let pad : ℕ = 8 * ((f + n) / 8) + 8 - (f + n) in
      let nuls : List ℕ = replicate pad 0 in
      let many : length nuls ≡ pad = length-replicate pad 0 in
      let tail : spelled.tail ≡ e.name ++ nuls = rw (old, ← needs-is, ← head-is) at spelled.named in
      let all : length (take m s) ≡ length (head_of spelled.extended e) + length spelled.tail = ap length (head_tail spelled) ∙ length-append (head_of spelled.extended e) spelled.tail in
      let end : length spelled.tail ≡ n + pad = ap length tail ∙ length-append e.name nuls ∙ rw many refl in
      let head : length (head_of spelled.extended e) ≡ f = head-long spelled ∙ rw (← needs-is, ← head-is) refl in
      omega (arith, head-most narrow h)

  module _ (name : List ℕ) (named : name ≡ name_at v b work st.next.start st.next.len) {version previous kept : ℕ} {out : List ℕ} {at : ℕ}
      (short : PrefixKept name previous kept) where
    pub plain_copied : {out' : List ℕ} {r : ℕ} → eqb v 4 ≡ false → eqb version 4 ≡ false → Wrote out at (take m s) out' r → EntryWritten w out at version e previous kept out' r
    plain_copied old new x =
        record {
          wrote = λ p beside. rw (plain-bytes version p old new) x;
          near = omega (arith, x.end, plain-most old (rw (entry_at-name w v b work from st, ← named) short.short));
        }

    pub head-copied : {out' : List ℕ} {q : ℕ} {out'' : List ℕ} {r : ℕ} → Wrote out at (take (from + st.head - from) s) out' q
        → NameWritten out' q name previous kept (λ p. write_name version st.head p name) out'' r → EntryWritten w out at version e previous kept out'' r
    head-copied {out'} {q} {out''} {r} x y =
        let first : Wrote out at (take st.head s) out' q = rw add-sub_cancel_left at x in
        let last : NameWritten out' q e.name previous kept (λ p. write_name version st.head p e.name) out'' r = rw (entry_at-name w v b work from st, ← named) y in
        record {
          wrote = λ p beside. rw (head-then version p) (wrote_then out (take st.head s) _ out' out'' at q r first (last.wrote p beside));
          near = omega (arith, head-end h x, y.near, head-most narrow h);
        }
