-- SoundRecords entries spell what is written of them, and entries that are spelled are sound.
use mathlib.Core.Path.{◌≡◌, refl, sym, ◌∙◌}
use mathlib.Core.List.{List}
use mathlib.Core.Bool.{Bool, true, false, ◌||◌}
use Prim.Native.Nat.{ℕ, ◌≤◌}
use native.Mathlib.Omega.{arith}
use lib.ListN.{length, length-append}
use lib.Dec.{eqb}
use borrow.Author.Tests.{eqb-true}
use Rattle.format.specs.Names.{compare, rises}
use Rattle.format.specs.Records.{Entry, Key}
use Rattle.format.specs.Layout.{fixed_length, ok_extended, IsEntry, Entries, entries_end, entries_more}
use Rattle.format.specs.Writer.{needs_word, write_name, write_rest, write_entry, write_entries}
use Rattle.format.specs.Requests.{any_word}
use Rattle.format_laws.proofs.Tests.{false-true, by-test}
use Rattle.spelling.proofs.Entries.{entry-long}
use Rattle.writing.specs.Sound.{SoundEntry, SoundEntries, entries_none, entries_next}
use Rattle.writing.proofs.Names.{name-written}

-- ---- the extended word

-- of two that together do not hold, neither does
or-none : (a b : Bool) → (a || b) ≡ false → (a ≡ false) × (b ≡ false)
or-none true b e = false-true (sym e)
or-none false b e = (refl, e)

word-written : (v : ℕ) (e : Entry) → (v ≡ 2 → needs_word e ≡ false) → ok_extended v (needs_word e) e ≡ true
unfolding ok_extended needs_word
word-written v e two = by-test (needs_word e) needed unneeded
  where
    needed : needs_word e ≡ true → ok_extended v (needs_word e) e ≡ true
    needed n = rw n (by-test (eqb v 2) (λ t. false-true (sym (two (eqb-true v 2 t)) ∙ n)) (λ t. rw t refl))

    unneeded : needs_word e ≡ false → ok_extended v (needs_word e) e ≡ true
    unneeded n = let (skip, intent) = or-none e.skip_worktree e.intent_to_add n in rw n (rw (skip, intent) refl)

-- ---- what is written is spelled

entry-written : (w v : ℕ) (k : Key) (e : Entry) → SoundEntry w e → rises (compare k.name e.name) k.stage e.stage ≡ true
    → (v ≡ 2 → needs_word e ≡ false) → IsEntry w v k e (write_entry w v k.name e)
unfolding write_entry write_rest
entry-written w v k e h order two = record {
  ten = h.ten;
  fit = h.fit;
  mode = h.mode;
  object = h.object;
  stage = h.stage;
  name = h.name;
  order = order;
  extended = needs_word e;
  extended_ok = word-written v e two;
  tail = write_name v (fixed_length w (needs_word e)) k.name e.name;
  named = name-written v (fixed_length w (needs_word e)) k.name e.name;
  bytes = refl;
}

pub entries-written : (w v : ℕ) {k : Key} {es : List Entry} → SoundEntries w k es → (v ≡ 2 → any_word es ≡ false)
    → Entries w v k es (write_entries w v k.name es)
unfolding write_entries any_word
entries-written w v entries_none two = entries_end
entries-written w v {k} (entries_next {e = e} {es = es} h order t) two =
    entries_more
    (entry-written w v k e h order (λ is. (or-none (needs_word e) (any_word es) (two is)).0))
    (entries-written w v t (λ is. (or-none (needs_word e) (any_word es) (two is)).1))

-- each has a byte or more
pub entries-long : {w v : ℕ} {k : Key} {es : List Entry} {a : List ℕ} → Entries w v k es a → length es ≤ length a
entries-long entries_end = omega arith
entries-long {w} {v} {k} (entries_more {e = e} {a = a} {b = b} h t) = omega (arith, entry-long w v k e a h, entries-long t, length-append a b)

-- ---- what is spelled is sound

pub entries-sound : {w v : ℕ} {k : Key} {es : List Entry} {a : List ℕ} → Entries w v k es a → SoundEntries w k es
entries-sound entries_end = entries_none
entries-sound (entries_more h t) =
    entries_next
    (record { ten = h.ten; fit = h.fit; mode = h.mode; object = h.object; stage = h.stage; name = h.name })
    h.order
    (entries-sound t)
