-- Laws of entries from a cursor on, one step after another, each written.
use mathlib.Core.Path.{◌≡◌, refl, sym, ap, ◌∙◌}
use mathlib.Core.List.{List, [], ◌∷◌, ◌++◌, append_assoc}
use mathlib.Core.Bool.{Bool, false, ◌||◌}
use Prim.Native.Nat.{ℕ, ◌+◌, ◌-◌, ◌*◌, ◌≤◌, ◌<◌}
use native.Mathlib.Omega.{arith}
use lib.ListN.{length, take, drop, length-append}
use lib.Seq.{take_at, drop_at}
use Rattle.std.specs.Prelude.{Ok}
use Rattle.format.specs.Records.{Entry}
use Rattle.format.specs.Reader.{is_set, entry_of}
use Rattle.format.specs.Writer.{needs_word, write_entry, write_entries}
use Rattle.format.specs.Requests.{any_word}
use Rattle.format_laws.proofs.Readings.{front-inv}
use Rattle.fields.specs.Workspace.{Frame}
use Rattle.fields.proofs.Workspace.{frame_same, frame_then}
use Rattle.output.specs.Output.{Wrote}
use Rattle.output.proofs.Laws.{wrote_nothing, wrote_then}
use Rattle.entries_run.specs.declared.Cursor.{Cursor}
use Rattle.entries_run.specs.declared.Step.{Step}
use Rattle.entries_run.specs.Steps.{key_at, entry_at, Inside, EntryStepped, RunRead, Readable}
use Rattle.entries_run.proofs.Steps.{entries-good}
use Rattle.entries_write.specs.Parts.{EntryWritten, last_name, EntriesWritten}
use Rattle.entries_write.proofs.Lists.{entries-append, entries-one, any_word-append, any_word-one, last_name-append, last_name-one}
use Rattle.entries_write.proofs.Stepping.{step-found, step-name, step-beside}

-- of the entries all, those after es are left at a cursor, k of them
pub record EntriesLeft (w : ℕ) (v : ℕ) (b work : List ℕ) (c : Cursor) (k : ℕ) (es all : List Entry) : Type 0 where
  pub after : List Entry
  pub taken : ℕ
  pub run : RunRead w v k b work c after taken
  pub parts : all ≡ es ++ after

-- the entries es of n were written, from the cursor c₀ on, and the others are left
pub record Writing (w : ℕ)
    (v : ℕ) (b work₀ : List ℕ) (c₀ : Cursor) (n version : ℕ) (out₀ : List ℕ) (at : ℕ) (work out : List ℕ) (c : Cursor) (end : ℕ) (extended : Bool) (left : ℕ)
    : Type 0 where
  pub es : List Entry
  pub count : length es + left ≡ n
  pub wrote : Wrote out₀ at (write_entries w version (key_at v b work₀ c₀).name es) out end
  pub any : extended ≡ any_word es
  pub last : (key_at v b work c).name ≡ last_name (key_at v b work₀ c₀).name es
  pub inside : Inside b c
  pub near : end ≤ at + length es * 8276
  pub frame : Frame work₀ work
  pub whole : (j : ℕ) (all : List Entry) (m : ℕ) → RunRead w v (n + j) b work₀ c₀ all m → EntriesLeft w v b work c (left + j) es all

pub writing_start : (w : ℕ) (v : ℕ) (b work : List ℕ) (c : Cursor) (n version : ℕ) (out : List ℕ) (at : ℕ) → Inside b c
    → Writing w v b work c n version out at work out c at false n
unfolding write_entries any_word last_name
writing_start w v b work c n version out at h =
    record {
      es = [];
      count = omega arith;
      wrote = wrote_nothing out at;
      any = refl;
      last = refl;
      inside = h;
      near = omega arith;
      frame = frame_same work;
      whole = λ j all m e. record { after = all; taken = m; run = e; parts = refl };
    }

module _ {w : ℕ} {v : ℕ} {b work₀ : List ℕ} {c₀ : Cursor} {n version : ℕ} {out₀ : List ℕ} {at : ℕ} {work out : List ℕ} {c : Cursor} {end : ℕ} {extended : Bool} {left : ℕ}
    (h : Writing w v b work₀ c₀ n version out₀ at work out c end extended left) where
  -- all are written
  pub writing-end : left ≤ 0 → EntriesWritten w v b work₀ c₀ n version out₀ at work out (record { cursor = c; at = end; extended = extended })
  writing-end none =
      let sum = h.count in
      let size : length h.es ≡ n = omega arith in
      let near = h.near in
      record {
        passed = λ j all m e.
            let l = h.whole j all m e in
            let here : left + j ≡ j = omega arith in
            let front : take n all ≡ h.es = ap (take n) l.parts ∙ take_at h.es l.after n size in
            let back : drop n all ≡ l.after = ap (drop n) l.parts ∙ drop_at h.es l.after n size in
            rw
            (front, back)
            (record { wrote = h.wrote; extended = h.any; last = h.last; taken = l.taken; left = rw here at l.run });
        inside = h.inside;
        bounds = record { near = omega arith; frame = h.frame; out_long = h.wrote.long };
      }

  -- where all were read, those that are left were
  pub writing-left : Readable w v n b work₀ c₀ → Readable w v left b work c
  writing-left before =
      let l = h.whole before.more before.entries before.taken before.run in
      record { more = before.more; entries = l.after; taken = l.taken; run = l.run }

  module _ (more : 0 < left) {work' : List ℕ} where
    -- the next one is read
    module _ {st : Step} (t : EntryStepped w v b work c work' (Ok st)) (room : 8192 ≤ length work) where
      abbrev entry : Entry
      entry = entry_at w v b work' c.at st

      -- and written
      module _ {out' : List ℕ} {end' : ℕ} (x : EntryWritten w out end version entry c.len st.common out' end') where
        wrote-more : Wrote out₀ at (write_entries w version (key_at v b work₀ c₀).name (h.es ++ (entry ∷ []))) out' end'
        wrote-more =
            let p : List ℕ = (key_at v b work₀ c₀).name in
            let last : Wrote out end (write_entry w version (last_name p h.es) entry) out' end' = rw h.last at (x.wrote (key_at v b work c).name (step-beside t room h.inside)) in
            rw
            (entries-append w version p h.es (entry ∷ []), entries-one w version (last_name p h.es) entry)
            (wrote_then out₀ (write_entries w version p h.es) _ out out' at end end' h.wrote last)

        any-more : (extended || (is_set 16384 st.word || is_set 8192 st.word)) ≡ any_word (h.es ++ (entry ∷ []))
        unfolding needs_word entry_of
        any-more =
            ap (λ (t : Bool). t || (is_set 16384 st.word || is_set 8192 st.word)) h.any
            ∙ sym (any_word-append h.es (entry ∷ []) ∙ ap (λ (t : Bool). any_word h.es || t) (any_word-one entry))

        last_more : (key_at v b work' st.next).name ≡ last_name (key_at v b work₀ c₀).name (h.es ++ (entry ∷ []))
        last_more = rw (last_name-append (key_at v b work₀ c₀).name h.es (entry ∷ []), last_name-one) (sym (step-name t))

        whole-more : (j : ℕ) (all : List Entry) (m : ℕ) → RunRead w v (n + j) b work₀ c₀ all m → EntriesLeft w v b work' st.next (left - 1 + j) (h.es ++ (entry ∷ [])) all
        whole-more j all m e =
            let l = h.whole j all m e in
            let k : left + j - 1 ≡ left - 1 + j = omega arith in
            let on = entries-good w v b work c work' (left + j) (omega arith) st t in
            front-inv (entry ∷ []) _ _ _ _ (sym on ∙ l.run) λ gs size q parts sum.
            record { after = gs; taken = size; run = rw k at q; parts = l.parts ∙ rw (← parts) (sym (append_assoc h.es (entry ∷ []) gs)) }

        pub writing_more : {also : Bool} → also ≡ (extended || (is_set 16384 st.word || is_set 8192 st.word))
            → Writing w v b work₀ c₀ n version out₀ at work' out' st.next end' also (left - 1)
        writing_more is =
            let size : length (h.es ++ (entry ∷ [])) ≡ length h.es + 1 = length-append h.es (entry ∷ []) in
            let sum = h.count in
            let near = h.near in
            let next = x.near in
            record {
              es = h.es ++ (entry ∷ []);
              count = omega arith;
              wrote = wrote-more;
              any = is ∙ any-more;
              last = last_more;
              inside = (step-found t).next;
              near = omega arith;
              frame = frame_then h.frame t.frame;
              whole = whole-more;
            }
