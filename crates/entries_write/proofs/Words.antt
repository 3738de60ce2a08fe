-- Laws of the flags, of the extended word, and of the bytes before them.
use mathlib.Core.Path.{◌≡◌, refl, sym, ◌∙◌}
use mathlib.Core.List.{List, ◌++◌, append_assoc}
use mathlib.Core.Bool.{Bool, true, false, ◌||◌}
use Prim.Native.Nat.{ℕ, ◌+◌, ◌-◌, ◌*◌, ◌/◌, ◌%◌, ◌≤◌}
use native.Mathlib.Nat.{add-sub_cancel_left}
use native.Mathlib.Omega.{arith}
use lib.ListN.{length, take, drop, length-drop}
use lib.Seq.{take-add, length-take-le}
use Rattle.format.specs.Bytes.{Bytes, be32s, put16, put32s}
use Rattle.format.specs.Names.{length_field}
use Rattle.format.specs.Records.{Entry}
use Rattle.format.specs.Layout.{bit, fixed_length, flags_of, word_of}
use Rattle.format.specs.Reader.{entry_of}
use Rattle.format.specs.Writer.{needs_word, write_name, write_rest, write_entry}
use Rattle.format_laws.proofs.Numbers.{length-put16, bytes_drop}
use Rattle.spelling.proofs.Bytes.{put32s-be32s}
use Rattle.spelling.proofs.Flags.{bit-is_set}
use Rattle.output.specs.Output.{Wrote}
use Rattle.output.proofs.Laws.{wrote_then}
use Rattle.entries_run.specs.Steps.{name_at}
use Rattle.entries_write.specs.Parts.{EntryParts, NameWritten, RestWritten, entry_by, EntryWritten}

-- ---- the extended word is there where it is not zero

word-by : (s t : Bool) → bit s * 16384 + bit t * 8192 ≡ 0 → (s || t) ≡ false
word-by true t h = absurd (omega arith)
word-by false true h = absurd (omega arith)
word-by false false h = refl

word-or : (s t : Bool) → (bit s * 16384 + bit t * 8192 ≡ 0 → ⊥) → (s || t) ≡ true
word-or true t h = refl
word-or false true h = refl
word-or false false h = absurd (h refl)

needs-none : (e : Entry) → word_of e ≡ 0 → needs_word e ≡ false
unfolding word_of needs_word
needs-none e h = word-by e.skip_worktree e.intent_to_add h

needs-one : (e : Entry) → (word_of e ≡ 0 → ⊥) → needs_word e ≡ true
unfolding word_of needs_word
needs-one e h = word-or e.skip_worktree e.intent_to_add h

-- ---- what follows the object name

module _ (e : Entry) (base word : ℕ) (name : List ℕ) (told : EntryParts e base word name) where
  flags-without : flags_of false e ≡ base + length_field (length name)
  unfolding flags_of
  flags-without = let is = told.flags in rw told.name_is (omega arith)

  flags-with : flags_of true e ≡ base + length_field (length name) + 16384
  unfolding flags_of
  flags-with = let is = told.flags in rw told.name_is (omega arith)

module _ (w : ℕ) (out name : List ℕ) (at version base word previous kept : ℕ) (out' : List ℕ) (p : ℕ) where
  pub rest-short : (out'' : List ℕ) (r : ℕ) → word ≡ 0 → Wrote out at (put16 (base + length_field (length name))) out' p
      → NameWritten out' p name previous kept (λ s. write_name version (40 + w + 2) s name) out'' r
      → RestWritten w out at version base word name previous kept out'' r
  unfolding write_rest fixed_length
  rest-short out'' r zero x y =
      let e : p ≡ at + 2 = x.end ∙ rw length-put16 refl in
      let near = y.near in
      record {
        wrote = λ entry s told beside.
            let none : needs_word entry ≡ false = needs-none entry (told.word_is ∙ zero) in
            rw (none, flags-without entry base word name told, told.name_is) (wrote_then out (put16 (base + length_field (length name))) _ out' out'' at p r x (y.wrote s beside));
        near = omega arith;
      }

  pub rest-long : (out'' out''' : List ℕ) (q r : ℕ) → (word ≡ 0 → ⊥) → Wrote out at (put16 (base + length_field (length name) + 16384)) out' p
      → Wrote out' p (put16 word) out'' q
      → NameWritten out'' q name previous kept (λ s. write_name version (40 + w + 4) s name) out''' r
      → RestWritten w out at version base word name previous kept out''' r
  unfolding write_rest fixed_length
  rest-long out'' out''' q r other x y z =
      let e : p ≡ at + 2 = x.end ∙ rw length-put16 refl in
      let f : q ≡ p + 2 = y.end ∙ rw length-put16 refl in
      let near = z.near in
      record {
        wrote = λ entry s told beside.
            let one : needs_word entry ≡ true = needs-one entry (λ none. other (sym told.word_is ∙ none)) in
            rw
            (one, flags-with entry base word name told, told.word_is, told.name_is)
            (wrote_then out (put16 (base + length_field (length name) + 16384)) _ out' out''' at p r x
            (wrote_then out' (put16 word) _ out'' out''' p q r y (z.wrote s beside)));
        near = omega arith;
      }

-- ---- an entry of a body

-- the first 40 + w bytes of an entry are its numbers and its object name
fixed-bytes : (w : ℕ) (s : List ℕ) → Bytes s → 40 + w ≤ length s → take (40 + w) s ≡ put32s (be32s s 0 10) ++ take w (drop 40 s)
fixed-bytes w s bytes long = take-add 40 w s ∙ rw (put32s-be32s s 0 10 bytes (omega arith)) refl

entry-told : (w : ℕ) (v : ℕ) (b work : List ℕ) (from flags word start len : ℕ) (name : List ℕ) → name ≡ name_at v b work start len
    → EntryParts (entry_by w v b work from flags word start len) (flags / 32768 % 2 * 32768 + flags / 4096 % 4 * 4096) (word / 8192 % 4 * 8192) name
unfolding entry_of word_of
entry-told w v b work from flags word start len name is =
    record {
      flags = rw (bit-is_set 32768 flags) refl;
      word_is = rw (bit-is_set 16384 word, bit-is_set 8192 word) (omega arith);
      name_is = sym is;
    }

module _ (w : ℕ) (b out out' : List ℕ) (from at p : ℕ) (there : from + (40 + w) ≤ length b) (narrow : w ≤ 32) (x : Wrote out at (take (from + (40 + w) - from) (drop from b)) out' p) where
  fixed-wrote : Wrote out at (take (40 + w) (drop from b)) out' p
  fixed-wrote = rw add-sub_cancel_left at x

  fixed-long : 40 + w ≤ length (drop from b)
  fixed-long = simp length-drop (omega arith)

  pub fixed-end : p ≡ at + (40 + w)
  fixed-end = fixed-wrote.end ∙ rw (length-take-le (40 + w) (drop from b) fixed-long) refl

  pub entry-wrote : (v : ℕ) (work : List ℕ) (flags word start len version previous kept : ℕ) (out'' : List ℕ) (r : ℕ) (name : List ℕ)
      → name ≡ name_at v b work start len → Bytes b
      → RestWritten w out' p version (flags / 32768 % 2 * 32768 + flags / 4096 % 4 * 4096) (word / 8192 % 4 * 8192) name previous kept out'' r
      → EntryWritten w out at version (entry_by w v b work from flags word start len) previous kept out'' r
  unfolding write_entry entry_of
  entry-wrote v work flags word start len version previous kept out'' r name is bytes y =
      let s : List ℕ = drop from b in
      let e = fixed-end in
      let near = y.near in
      let told = entry-told w v b work from flags word start len name is in
      let parts : take (40 + w) s ≡ put32s (be32s s 0 10) ++ take w (drop 40 s) = fixed-bytes w s (bytes_drop from b bytes) fixed-long in
      record {
        wrote = λ q beside.
            let rest = y.wrote (entry_by w v b work from flags word start len) q told (rw is beside) in
            rw (← append_assoc (put32s (be32s s 0 10)) (take w (drop 40 s)) _, ← parts) (wrote_then out (take (40 + w) s) _ out' out'' at p r fixed-wrote rest);
        near = omega arith;
      }
