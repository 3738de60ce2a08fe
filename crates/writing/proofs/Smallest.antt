-- In version 4 a written file has the smallest N at each entry. No spelling of an entry has a smaller N than the writer's, and one with a larger
-- N is longer by as much at least. So the bytes that are written have no spelling with a larger N.
use mathlib.Core.Path.{◌≡◌, refl, sym, ap, ◌∙◌}
use mathlib.Core.List.{List, [], ◌∷◌, ◌++◌}
use mathlib.Core.Bool.{Bool, true, false, cond, not}
use Prim.Native.Nat.{ℕ, zero, suc, ◌+◌, ◌-◌, ◌/◌, ◌%◌, ◌≤◌, ◌<◌}
use native.Mathlib.Omega.{arith}
use lib.ListN.{length, take, drop, get_or, length-append, length-drop}
use lib.Seq.{length-take-le}
use lib.Dec.{eqb, ltb}
use borrow.Author.Tests.{ltb-true, lt-ltb, not-true}
use Rattle.format.specs.Bytes.{put16, put32s, put_n}
use Rattle.format.specs.Names.{common}
use Rattle.format.specs.Records.{Entry, Key, Records}
use Rattle.format.specs.Layout.{when, fixed_length, flags_of, word_of, ok_extended, Plain, Packed, IsEntry, Entries, entries_end, entries_more, Spells}
use Rattle.format.specs.Checksum.{matches}
use Rattle.format.specs.Reading.{good}
use Rattle.format.specs.Reader.{Contents, read_file}
use Rattle.format.specs.Writer.{needs_word, write_plain, write_packed, write_name, write_rest, write_entry, write_entries}
use Rattle.format_laws.proofs.Tests.{false-true, and-inv, by-test, by_cond}
use Rattle.format_laws.proofs.Numbers.{length-put16}
use Rattle.format_laws.proofs.Names.{common-le}
use Rattle.format_laws.proofs.Readings.{good-inv}
use Rattle.spelling.proofs.File.{spelled-read}
use Rattle.writing.specs.OneFile.{number_n, numbers_n}
use Rattle.writing.proofs.Names as names

-- ---- one name

-- a larger number takes no fewer bytes
put_n-long : (m n : ℕ) → m ≤ n → length (put_n m) ≤ length (put_n n)
unfolding put_n
put_n-long m n h =
    by-test (ltb n 128)
    (λ few. let less : n < 128 = ltb-true n 128 few in let also : m < 128 = omega arith in rw (few, lt-ltb m 128 also) (omega arith))
    (λ many. rw many (by_cond (λ (l : List ℕ). length l ≤ 2) (ltb m 128) (m ∷ []) ((128 + m / 128 - 1) ∷ m % 128 ∷ []) (λ _. omega arith) (λ _. omega arith)))

-- the writer's N
abbrev own : List ℕ → List ℕ → ℕ
own previous name = length previous - common previous name

packed-longer : (previous name a : List ℕ) (h : Packed previous name a) → length (write_packed previous name) + h.n ≤ length a + own previous name
unfolding write_packed
packed-longer previous name a h =
    let c : ℕ = common previous name in
    let kept : List ℕ = take (length previous - h.n) previous in
    let (within, inside) = common-le previous name in
    let number = put_n-long (own previous name) h.n (names.smallest previous name a h) in
    let kept-long : length kept ≡ length previous - h.n = length-take-le (length previous - h.n) previous (omega arith) in
    let name-long : length name ≡ length kept + length h.s = ap length h.joined ∙ length-append kept h.s in
    let a-long : length a ≡ length (put_n h.n) + (length h.s + 1) = ap length h.bytes ∙ simp length-append in
    let own-long : length (put_n (own previous name) ++ (drop c name ++ (0 ∷ []))) ≡ length (put_n (own previous name)) + (length (drop c name) + 1) =
    simp length-append in
    omega (arith, h.within, length-drop c name)

module _ (f : ℕ) (previous name a : List ℕ) where
  name-longer : (g : ℕ) (packed : Bool) (h : when packed (Packed previous name a) (Plain f name a)) → packed ≡ true
      → length (cond packed (write_packed previous name) (write_plain g name)) + number_n f previous name a packed h ≤ length a + own previous name
  name-longer g true h four = packed-longer previous name a h
  name-longer g false h four = false-true four

  name-least : (packed : Bool) (h : when packed (Packed previous name a) (Plain f name a)) → packed ≡ true → own previous name ≤ number_n f previous name a packed h
  name-least true h four = names.smallest previous name a h
  name-least false h four = false-true four

  -- versions 2 and 3 have no N
  name-none : (packed : Bool) (h : when packed (Packed previous name a) (Plain f name a)) → packed ≡ false → number_n f previous name a packed h ≡ 0
  name-none true h other = false-true (sym other)
  name-none false h other = refl

-- ---- one entry

-- the extended word is written only where every spelling has it
word-longer : (v : ℕ) (extended : Bool) (e : Entry) → ok_extended v extended e ≡ true
    → length (cond (needs_word e) (put16 (word_of e)) []) ≤ length (cond extended (put16 (word_of e)) [])
unfolding ok_extended needs_word
word-longer v true e ok = by_cond (λ (l : List ℕ). length l ≤ length (put16 (word_of e))) (needs_word e) (put16 (word_of e)) [] (λ _. omega arith) (λ _. omega arith)
word-longer v false e ok =
    let (skip, intent) = and-inv (not e.skip_worktree) (not e.intent_to_add) ok in
    rw (not-true e.skip_worktree skip, not-true e.intent_to_add intent) (omega arith)

five : (a b c d e : List ℕ) → length (a ++ (b ++ (c ++ (d ++ e)))) ≡ length a + (length b + (length c + (length d + length e)))
five a b c d e = simp length-append

module _ (w v : ℕ) (four : eqb v 4 ≡ true) where
  entry-least : {k : Key} {e : Entry} {a : List ℕ} (h : IsEntry w v k e a) → own k.name e.name ≤ number_n _ _ _ _ (eqb v 4) h.named
  entry-least {k} {e} h = name-least _ k.name e.name _ (eqb v 4) h.named four

  entry-longer : {k : Key} {e : Entry} {a : List ℕ} (h : IsEntry w v k e a)
      → length (write_entry w v k.name e) + number_n _ _ _ _ (eqb v 4) h.named ≤ length a + own k.name e.name
  unfolding write_entry write_rest write_name
  entry-longer {k} {e} h =
      let lengths = five (put32s e.numbers) e.object in
      omega (
        arith,
        name-longer _ k.name e.name _ (fixed_length w (needs_word e)) (eqb v 4) h.named four,
        word-longer v h.extended e h.extended_ok,
        length-put16 (flags_of h.extended e),
        length-put16 (flags_of (needs_word e) e),
        ap length h.bytes,
        lengths (put16 (flags_of h.extended e)) (cond h.extended (put16 (word_of e)) []) h.tail,
        lengths (put16 (flags_of (needs_word e) e)) (cond (needs_word e) (put16 (word_of e)) []) (write_name v (fixed_length w (needs_word e)) k.name e.name),
      )

-- ---- all entries

-- the writer's N of each
least : List ℕ → List Entry → List ℕ
least previous [] = []
least previous (e ∷ es) = own previous e.name ∷ least e.name es

module _ (w v : ℕ) (four : eqb v 4 ≡ true) where
  entries-least : {k : Key} {es : List Entry} {a : List ℕ} (h : Entries w v k es a) (i : ℕ) → get_or (least k.name es) i 0 ≤ get_or (numbers_n h) i 0
  unfolding least numbers_n
  entries-least entries_end i = omega arith
  entries-least (entries_more is more) zero = entry-least w v four is
  entries-least (entries_more is more) (suc i) = entries-least more i

  entries-longer : {k : Key} {es : List Entry} {a : List ℕ} (h : Entries w v k es a) (i : ℕ)
      → length (write_entries w v k.name es) + get_or (numbers_n h) i 0 ≤ length a + get_or (least k.name es) i 0
  unfolding least numbers_n write_entries
  entries-longer entries_end i = omega arith
  entries-longer {k} (entries_more {e = e} {es = es} {a = a} {b = b} is more) zero =
      let own-sum = length-append (write_entry w v k.name e) (write_entries w v e.name es) in
      omega (arith, entry-longer w v four is, entries-longer more 0, entries-least more 0, length-append a b)
  entries-longer {k} (entries_more {e = e} {es = es} {a = a} {b = b} is more) (suc i) =
      let own-sum = length-append (write_entry w v k.name e) (write_entries w v e.name es) in
      omega (arith, entry-longer w v four is, entry-least w v four is, entries-longer more i, length-append a b)

entries_none : (w v : ℕ) → eqb v 4 ≡ false → {k : Key} {es : List Entry} {a : List ℕ} (h : Entries w v k es a) (i : ℕ) → get_or (numbers_n h) i 0 ≡ 0
unfolding numbers_n
entries_none w v other entries_end i = refl
entries_none w v other (entries_more is more) zero = name-none _ _ _ _ (eqb v 4) is.named other
entries_none w v other (entries_more is more) (suc i) = entries_none w v other more i

-- ---- the file

module _ (w : ℕ) (hash : List ℕ → List ℕ) (width : (b : List ℕ) → length (hash b) ≡ w) (v : ℕ) (r : Records) (bytes : List ℕ) (m : ℕ) where
  pub smallest : read_file w hash bytes ≡ good (record { version = v; checksum = matches; end = 12 + length (write_entries w v [] r.entries); records = r }) m
      → (f : List ℕ) (g : Spells w hash r bytes) (h : Spells w hash r f) → h.body_is.version ≡ v → (i : ℕ)
      → get_or (numbers_n g.body_is.entries_are) i 0 ≤ get_or (numbers_n h.body_is.entries_are) i 0
  smallest read f g h same i =
      good-inv _ _ _ _ (sym (spelled-read w hash width r bytes g) ∙ read) λ is _.
      let version : g.body_is.version ≡ v = ap (λ (c : Contents). c.version) is in
      let end : 12 + length g.body_is.entry_bytes ≡ 12 + length (write_entries w g.body_is.version [] r.entries) =
      ap (λ (c : Contents). c.end) is ∙ rw version refl in
      by-test (eqb v 4)
      (λ four.
      omega (
        arith,
        entries-longer w g.body_is.version (rw version four) g.body_is.entries_are i,
        entries-least w h.body_is.version (rw same four) h.body_is.entries_are i,
      ))
      (λ other. omega (arith, entries_none w g.body_is.version (rw version other) g.body_is.entries_are i))
