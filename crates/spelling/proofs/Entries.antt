-- One entry, and a run of entries: what is spelled is read, and what is read was spelled.
use mathlib.Core.Path.{◌≡◌, refl, sym, ap, ◌∙◌}
use mathlib.Core.List.{List, [], ◌++◌, append_assoc}
use mathlib.Core.Bool.{Bool, true, false, cond, not, ◌&&◌}
use Prim.Native.Nat.{ℕ, zero, suc, ◌+◌, ◌/◌, ◌%◌, ◌≤◌, ◌<◌}
use native.Mathlib.Omega.{arith}
use lib.ListN.{length, take, drop, get_or, length-append, length-drop}
use lib.Seq.{drop-drop, drop-append_seam, take_at, drop_at, take-add, length-take-le}
use lib.Dec.{eqb, leb}
use borrow.Author.Tests.{leb-true, le-leb, not-true}
use Rattle.format.specs.Bytes.{Bytes, be16, be32, be32s, put16, put32s, fit32}
use Rattle.format.specs.Names.{ok_name, length_field, compare, rises}
use Rattle.format.specs.Records.{Entry, mode_of, Key, key_of}
use Rattle.format.specs.Layout.{ok_mode, fixed_length, flags_of, word_of, ok_extended, IsEntry, Entries, entries_end, entries_more}
use Rattle.format.specs.Reading.{good}
use Rattle.format.specs.Reader.{is_set, ok_word, entry_of, read_name, read_tail, read_fixed, read_entry, read_entries}
use Rattle.format_laws.proofs.Tests.{and-inv, cond-inv}
use Rattle.format_laws.proofs.Numbers.{bytes_drop, length-put16, be16-here, be16-below, put16-be16}
use Rattle.format_laws.proofs.Readings.{good-inv, need-inv, shift-inv, bind_inv, need-good, shift-good, bind-good}
use Rattle.spelling.proofs.Bytes.{length-put32s, length-be32s, get_or-be32s, be32s-put32s, fit32-be32s, put32s-be32s}
use Rattle.spelling.proofs.Names.{read_name_lem, name-read}
use Rattle.spelling.proofs.Flags.{flags-read, read_flags, word_read, read_word}

-- ---- the tests of the reader

-- the extended word, or 0 without one
abbrev pub word_in : Bool → ℕ → List ℕ → ℕ
word_in extended w s = cond extended (be16 s (42 + w)) 0

-- what a reading of the entry e, which takes m bytes of s, goes by
pub record Passes (w v : ℕ) (k : Key) (p : ℕ) (s : List ℕ) (e : Entry) (m : ℕ) : Type 0 where
  pub extended : Bool
  pub name : List ℕ
  pub taken : ℕ
  pub mode : ok_mode (be32 s 24) ≡ true
  pub set : is_set 16384 (be16 s (40 + w)) ≡ extended
  pub allowed : not (extended && eqb v 2) ≡ true
  pub long : fixed_length w extended ≤ length s
  pub word : ok_word (word_in extended w s) ≡ true
  pub named : read_name v (fixed_length w extended) p k.name (be16 s (40 + w) % 4096) (drop (fixed_length w extended) s) ≡ good name taken
  pub order : rises (compare k.name name) k.stage (be16 s (40 + w) / 4096 % 4) ≡ true
  pub entry_is : entry_of w s (be16 s (40 + w)) (word_in extended w s) name ≡ e
  pub size : fixed_length w extended + taken ≡ m

pub fixed-size : (w : ℕ) (extended : Bool) → fixed_length w extended ≡ 42 + w + cond extended 2 0
unfolding fixed_length
fixed-size w true = omega arith
fixed-size w false = omega arith

module _ (w v : ℕ) (k : Key) (p : ℕ) (s : List ℕ) where
  read-tail :
      (f x y : ℕ) (name : List ℕ) (e : Entry) (m : ℕ) →
      read_name v f p k.name (x % 4096) (drop f s) ≡ good name m →
      rises (compare k.name name) k.stage (x / 4096 % 4) ≡ true →
      entry_of w s x y name ≡ e →
      read_tail w v k p f x y s ≡ good e m
  unfolding read_tail
  read-tail f x y name e m named order is =
      let size : m + 0 ≡ m = omega arith in
      rw (← size) (bind-good _ _ _ _ _ _ named (need-good _ _ _ _ _ _ order (ap (λ (d : Entry). good d 0) is)))

  tail-inv :
      {X : Type 0} (f x y : ℕ) (e : Entry) (m : ℕ) →
      read_tail w v k p f x y s ≡ good e m →
      ((name : List ℕ) →
      read_name v f p k.name (x % 4096) (drop f s) ≡ good name m →
      rises (compare k.name name) k.stage (x / 4096 % 4) ≡ true →
      entry_of w s x y name ≡ e →
      X) →
      X
  unfolding read_tail
  tail-inv f x y e m q then =
      bind_inv _ _ _ _ q λ name i j named q₁ m-is.
      need-inv _ _ _ _ _ _ q₁ λ order q₂.
      good-inv _ _ _ _ q₂ λ e-is j-is.
      let same : i ≡ m = omega arith in then name (rw same at named) order e-is

  read-fixed :
      (x : ℕ) (e : Entry) (m : ℕ) (extended : Bool) →
      is_set 16384 x ≡ extended →
      not (extended && eqb v 2) ≡ true →
      fixed_length w extended ≤ length s →
      ok_word (word_in extended w s) ≡ true →
      read_tail w v k p (fixed_length w extended) x (word_in extended w s) s ≡ good e m →
      read_fixed w v k p x s ≡ good e (fixed_length w extended + m)
  unfolding read_fixed
  read-fixed x e m true set allowed long word tail =
      rw set
      (need-good _ _ _ _ _ _ allowed
      (need-good _ _ _ _ _ _ (le-leb _ _ long) (need-good _ _ _ _ _ _ word (shift-good (fixed_length w true) _ e m tail))))
  read-fixed x e m false set allowed long word tail = rw set (need-good _ _ _ _ _ _ allowed (shift-good (fixed_length w false) _ e m tail))

  fixed-inv :
      {X : Type 0} (x : ℕ) (e : Entry) (m : ℕ) →
      fixed_length w false ≤ length s →
      read_fixed w v k p x s ≡ good e m →
      ((extended : Bool) (j : ℕ) →
      is_set 16384 x ≡ extended →
      not (extended && eqb v 2) ≡ true →
      fixed_length w extended ≤ length s →
      ok_word (word_in extended w s) ≡ true →
      read_tail w v k p (fixed_length w extended) x (word_in extended w s) s ≡ good e j →
      fixed_length w extended + j ≡ m →
      X) →
      X
  unfolding read_fixed
  fixed-inv x e m long q then =
      need-inv _ _ _ _ _ _ q λ allowed q₁.
      cond-inv (is_set 16384 x) _ _ _ q₁
      (λ set q₂.
      need-inv _ _ _ _ _ _ q₂ λ longer q₃.
      need-inv _ _ _ _ _ _ q₃ λ word q₄.
      shift-inv _ _ _ _ q₄ λ j tail size.
      then true j set (rw set at allowed) (leb-true _ _ longer) word tail size)
      (λ clear q₂.
      shift-inv _ _ _ _ q₂ λ j tail size.
      then false j clear (rw clear at allowed) long (unfold ok_word in refl) tail size)

  passes-read : (e : Entry) (m : ℕ) → Passes w v k p s e m → read_entry w v k p s ≡ good e m
  unfolding read_entry
  passes-read e m h =
      let x : ℕ = be16 s (40 + w) in
      let f : ℕ = fixed_length w h.extended in
      let enough : leb (fixed_length w false) (length s) ≡ true = omega (arith, le-leb, fixed-size w h.extended, fixed-size w false) in
      let tail : read_tail w v k p f x (word_in h.extended w s) s ≡ good e h.taken =
      read-tail f x (word_in h.extended w s) h.name e h.taken h.named h.order h.entry_is
      in
      rw (← h.size)
      (need-good _ _ _ _ _ _ enough
      (need-good _ _ _ _ _ _ h.mode (read-fixed x e h.taken h.extended h.set h.allowed h.long h.word tail)))

  pub read-passes : (e : Entry) (m : ℕ) → read_entry w v k p s ≡ good e m → Passes w v k p s e m
  unfolding read_entry
  read-passes e m q =
      need-inv _ _ _ _ _ _ q λ enough q₁.
      need-inv _ _ _ _ _ _ q₁ λ mode q₂.
      fixed-inv (be16 s (40 + w)) e m (leb-true _ _ enough) q₂ λ extended taken set allowed long word q₃ size.
      tail-inv (fixed_length w extended) (be16 s (40 + w)) (word_in extended w s) e taken q₃ λ name named order entry_is.
      record {
        extended = extended;
        name = name;
        taken = taken;
        mode = mode;
        set = set;
        allowed = allowed;
        long = long;
        word = word;
        named = named;
        order = order;
        entry_is = entry_is;
        size = size;
      }

-- ---- an entry that is spelled

-- what is where, in bytes that begin with the numbers ns, the object name o and the flags x
record Front (w : ℕ) (ns o : List ℕ) (x : ℕ) (r s : List ℕ) : Type 0 where
  long : length s ≡ 42 + w + length r
  numbers : be32s s 0 10 ≡ ns
  mode : be32 s 24 ≡ get_or ns 6 0
  object : take w (drop 40 s) ≡ o
  flags : be16 s (40 + w) ≡ x
  end : drop (42 + w) s ≡ r

front :
    (w : ℕ) (ns o : List ℕ) (x : ℕ) (r : List ℕ) → length ns ≡ 10 → fit32 ns ≡ true → length o ≡ w → x < 65536 →
    Front w ns o x r (put32s ns ++ (o ++ (put16 x ++ r)))
front w ns o x r ten fit wide small =
    let s : List ℕ = put32s ns ++ (o ++ (put16 x ++ r)) in
    let forty : length (put32s ns) ≡ 40 = omega (arith, length-put32s ns) in
    let numbers : be32s s 0 10 ≡ ns = rw ten at (be32s-put32s ns (o ++ (put16 x ++ r)) fit) in
    let after : drop 40 s ≡ o ++ (put16 x ++ r) = drop_at (put32s ns) (o ++ (put16 x ++ r)) 40 forty in
    let next : drop (40 + w) s ≡ put16 x ++ r = sym (drop-drop w 40 s) ∙ ap (drop w) after ∙ drop_at o (put16 x ++ r) w wide in
    let parts : 42 + w ≡ 40 + w + 2 = omega arith in
    record {
      long =
          rw (length-append (put32s ns) (o ++ (put16 x ++ r)), length-append o (put16 x ++ r), length-append (put16 x) r) (omega (arith, length-put16 x));
      numbers = numbers;
      mode = sym (get_or-be32s s 0 10 6 (omega arith)) ∙ ap (λ (l : List ℕ). get_or l 6 0) numbers;
      object = rw after (take_at o (put16 x ++ r) w wide);
      flags = be16-here s (40 + w) x r next small;
      end = rw (parts, ← (drop-drop 2 (40 + w) s), next) (drop_at (put16 x) r 2 (length-put16 x));
    }

word-long : (extended : Bool) (u : ℕ) → length (cond extended (put16 u) []) ≡ cond extended 2 0
word-long true u = length-put16 u
word-long false u = refl

-- where the bytes of the extended word u, or none, are
module _ (w u : ℕ) (s t : List ℕ) where
  word_at : (extended : Bool) → drop (42 + w) s ≡ cond extended (put16 u) [] ++ t → u < 65536 → word_in extended w s ≡ cond extended u 0
  word_at true at h = be16-here s (42 + w) u t at h
  word_at false at h = refl

  tail_at : (extended : Bool) → drop (42 + w) s ≡ cond extended (put16 u) [] ++ t → drop (fixed_length w extended) s ≡ t
  tail_at extended at =
      rw (fixed-size w extended, ← (drop-drop (cond extended 2 0) (42 + w) s), at)
      (drop_at (cond extended (put16 u) []) t (cond extended 2 0) (word-long extended u))

-- its bits are those of the entry
word_is :
    (v : ℕ) (extended : Bool) (e : Entry) → ok_extended v extended e ≡ true → let y : ℕ = cond extended (word_of e) 0 in
    (not (extended && eqb v 2) ≡ true) × (ok_word y ≡ true) × (is_set 16384 y ≡ e.skip_worktree) × (is_set 8192 y ≡ e.intent_to_add)
unfolding ok_extended
word_is v true e h = let (_, word, skip, intent) = word_read e in (h, word, skip, intent)
word_is v false e h =
    let (skip, intent) = and-inv (not e.skip_worktree) (not e.intent_to_add) h in
    (refl, unfold ok_word in refl, unfold is_set in sym (not-true _ skip), unfold is_set in sym (not-true _ intent))

entry-of :
    (w : ℕ) (s : List ℕ) (x y : ℕ) (e : Entry) →
    be32s s 0 10 ≡ e.numbers →
    take w (drop 40 s) ≡ e.object →
    is_set 32768 x ≡ e.assume_valid →
    x / 4096 % 4 ≡ e.stage →
    is_set 16384 y ≡ e.skip_worktree →
    is_set 8192 y ≡ e.intent_to_add →
    entry_of w s x y e.name ≡ e
unfolding entry_of
entry-of w s x y e a b c d f g =
    λ i. record { numbers = a i; object = b i; assume_valid = c i; stage = d i; skip_worktree = f i; intent_to_add = g i; name = e.name }

spelled-long : (w v : ℕ) (k : Key) (e : Entry) (a : List ℕ) (h : IsEntry w v k e a) → length a ≡ fixed_length w h.extended + length h.tail
spelled-long w v k e a h =
    let x : ℕ = flags_of h.extended e in
    let word : List ℕ = cond h.extended (put16 (word_of e)) [] in
    let begins : Front w e.numbers e.object x (word ++ h.tail) (put32s e.numbers ++ (e.object ++ (put16 x ++ (word ++ h.tail)))) =
    front w e.numbers e.object x (word ++ h.tail) h.ten h.fit h.object (flags-read h.extended e h.stage).0
    in
    omega (
      arith,
      ap length h.bytes,
      begins.long,
      length-append word h.tail,
      word-long h.extended (word_of e),
      fixed-size w h.extended,
    )

-- an entry has 42 + w bytes or more
pub entry-long : (w v : ℕ) (k : Key) (e : Entry) (a : List ℕ) → IsEntry w v k e a → 42 + w ≤ length a
entry-long w v k e a h = omega (arith, spelled-long w v k e a h, fixed-size w h.extended)

spelled-passes : (w v : ℕ) (k : Key) (p : ℕ) (e : Entry) (a rest : List ℕ) → IsEntry w v k e a → Passes w v k p (a ++ rest) e (length a)
unfolding mode_of
spelled-passes w v k p e a rest h =
    let s : List ℕ = a ++ rest in
    let x : ℕ = flags_of h.extended e in
    let u : ℕ = word_of e in
    let t : List ℕ = h.tail ++ rest in
    let r : List ℕ = cond h.extended (put16 u) [] ++ t in
    let whole : a ++ rest ≡ put32s e.numbers ++ (e.object ++ (put16 x ++ r)) = rw h.bytes (simp append_assoc) in
    let (small, assume, set, stage, field) = flags-read h.extended e h.stage in
    let (allowed, word, skip, intent) = word_is v h.extended e h.extended_ok in
    let begins : Front w e.numbers e.object x r s = rw whole (front w e.numbers e.object x r h.ten h.fit h.object small) in
    let same : word_in h.extended w s ≡ cond h.extended u 0 = word_at w u s t h.extended begins.end (word_read e).0 in
    let after : drop (fixed_length w h.extended) s ≡ t = tail_at w u s t h.extended begins.end in
    record {
      extended = h.extended;
      name = e.name;
      taken = length h.tail;
      mode = rw begins.mode h.mode;
      set = rw begins.flags set;
      allowed = allowed;
      long = omega (arith, length-append a rest, spelled-long w v k e a h);
      word = rw same word;
      named = rw (begins.flags, after, field) (read_name_lem v (fixed_length w h.extended) p k.name e.name h.tail rest h.name h.named);
      order = rw (begins.flags, stage) h.order;
      entry_is =
          rw (begins.flags, same) (entry-of w s x (cond h.extended u 0) e begins.numbers begins.object assume stage skip intent);
      size = sym (spelled-long w v k e a h);
    }

pub read-entry :
    (w v : ℕ) (k : Key) (p : ℕ) (e : Entry) (a rest : List ℕ) → IsEntry w v k e a → read_entry w v k p (a ++ rest) ≡ good e (length a)
read-entry w v k p e a rest h = passes-read w v k p (a ++ rest) e (length a) (spelled-passes w v k p e a rest h)

-- ---- an entry that is read

-- the parts of an entry's first f + m bytes, c being the bytes of the extended word
entry-cut :
    (w c f m : ℕ) (s : List ℕ) → f ≡ 42 + w + c →
    take (f + m) s ≡ take 40 s ++ (take w (drop 40 s) ++ (take 2 (drop (40 + w) s) ++ (take c (drop (42 + w) s) ++ take m (drop f s))))
entry-cut w c f m s is =
    let sum : f + m ≡ 40 + (w + (2 + (c + m))) = omega arith in
    let next : 40 + w + 2 ≡ 42 + w = omega arith in
    rw (
      sum,
      take-add 40 (w + (2 + (c + m))) s,
      take-add w (2 + (c + m)) (drop 40 s),
      drop-drop w 40 s,
      take-add 2 (c + m) (drop (40 + w) s),
      drop-drop 2 (40 + w) s,
      next,
      take-add c m (drop (42 + w) s),
      drop-drop c (42 + w) s,
      ← is,
    )
    refl

-- the bits of the extended word make its bytes
word_back :
    (w v : ℕ) (s : List ℕ) (x : ℕ) (name : List ℕ) (extended : Bool) → Bytes s → fixed_length w extended ≤ length s →
    not (extended && eqb v 2) ≡ true → ok_word (word_in extended w s) ≡ true → let e : Entry = entry_of w s x (word_in extended w s) name in
    (ok_extended v extended e ≡ true) × (cond extended (put16 (word_of e)) [] ≡ take (cond extended 2 0) (drop (42 + w) s))
unfolding ok_extended word_of entry_of fixed_length
word_back w v s x name true b long allowed word =
    (allowed, rw (read_word (be16 s (42 + w)) word) (put16-be16 s (42 + w) b (omega arith)))
word_back w v s x name false b long allowed word = (unfold is_set in refl, refl)

-- and the parts of the flags make the flags
flags-back :
    (w : ℕ) (s : List ℕ) (x y : ℕ) (name : List ℕ) (extended : Bool) → x < 65536 → is_set 16384 x ≡ extended → x % 4096 ≡ length_field (length name) →
    flags_of extended (entry_of w s x y name) ≡ x
unfolding flags_of entry_of
flags-back w s x y name extended below set field = rw set at (read_flags x (length name) below field)

passes-spelled :
    (w v : ℕ) (k : Key) (p : ℕ) (s : List ℕ) (e : Entry) (m : ℕ) → Bytes s → Passes w v k p s e m → (m ≤ length s) × IsEntry w v k e (take m s)
unfolding entry_of mode_of
passes-spelled w v k p s e m b h =
    let x : ℕ = be16 s (40 + w) in
    let f : ℕ = fixed_length w h.extended in
    let y : ℕ = word_in h.extended w s in
    let (short, named, ok, field) = name-read v f p k.name (x % 4096) (drop f s) h.name h.taken h.named in
    let (extended_ok, word_Bytes) = word_back w v s x h.name h.extended b h.long h.allowed h.word in
    let size : f ≡ 42 + w + cond h.extended 2 0 = fixed-size w h.extended in
    let least : 42 + w ≤ length s = omega (arith, h.long) in
    let flags : flags_of h.extended (entry_of w s x y h.name) ≡ x = flags-back w s x y h.name h.extended (be16-below s (40 + w) b) h.set field in
    let numbers : put32s (be32s s 0 10) ≡ take 40 s = put32s-be32s s 0 10 b (omega arith) in
    let flag-bytes : put16 x ≡ take 2 (drop (40 + w) s) = put16-be16 s (40 + w) b (omega arith) in
    let is : IsEntry w v k (entry_of w s x y h.name) (take (f + h.taken) s) = record {
      ten = length-be32s s 0 10;
      fit = fit32-be32s s 0 10 b;
      mode = rw (get_or-be32s s 0 10 6 (omega arith)) h.mode;
      object = length-take-le w (drop 40 s) (rw (length-drop 40 s) (omega arith));
      stage = omega arith;
      name = ok;
      order = h.order;
      extended = h.extended;
      extended_ok = extended_ok;
      tail = take h.taken (drop f s);
      named = named;
      bytes = entry-cut w (cond h.extended 2 0) f h.taken s size ∙ rw (flags, word_Bytes, numbers, flag-bytes) refl;
    } in
    (omega (arith, h.size, h.long, length-drop f s), rw (h.entry_is, h.size) at is)

pub entry_read :
    (w v : ℕ) (k : Key) (p : ℕ) (s : List ℕ) (e : Entry) (m : ℕ) → Bytes s → read_entry w v k p s ≡ good e m →
    (m ≤ length s) × IsEntry w v k e (take m s)
entry_read w v k p s e m b q = passes-spelled w v k p s e m b (read-passes w v k p s e m q)

-- what is read takes 42 + w bytes or more
pub entry-takes : (w v : ℕ) (k : Key) (p : ℕ) (s : List ℕ) (e : Entry) (m : ℕ) → read_entry w v k p s ≡ good e m → 42 + w ≤ m
entry-takes w v k p s e m q =
    let h : Passes w v k p s e m = read-passes w v k p s e m q in
    omega (arith, h.size, fixed-size w h.extended)

-- what is read is after the key before it
pub entry-rises : (w v : ℕ) (k : Key) (p : ℕ) (s : List ℕ) (e : Entry) (m : ℕ) → read_entry w v k p s ≡ good e m
    → rises (compare k.name e.name) k.stage e.stage ≡ true
unfolding entry_of
entry-rises w v k p s e m q =
    let h : Passes w v k p s e m = read-passes w v k p s e m q in
    rw (← h.entry_is) h.order

-- and has a sound name
pub entry_named : (w v : ℕ) (k : Key) (p : ℕ) (s : List ℕ) (e : Entry) (m : ℕ) → read_entry w v k p s ≡ good e m → ok_name e.name ≡ true
unfolding entry_of
entry_named w v k p s e m q =
    let h : Passes w v k p s e m = read-passes w v k p s e m q in
    let f : ℕ = fixed_length w h.extended in
    let (short, named, ok, field) = name-read v f p k.name (be16 s (40 + w) % 4096) (drop f s) h.name h.taken h.named in
    rw (← h.entry_is) ok

-- ---- a run of entries

pub read-entries :
    (w v p : ℕ) {k : Key} {es : List Entry} {a : List ℕ} (rest : List ℕ) → Entries w v k es a →
    read_entries w v (length es) k p (a ++ rest) ≡ good es (length a)
unfolding read_entries
read-entries w v p rest entries_end = refl
read-entries w v p rest (entries_more {k = k} {e = e} {es = es} {a = a} {b = b} h t) =
    let sum : length (a ++ b) ≡ length a + (length b + 0) = rw (length-append a b) (omega arith) in
    let after : drop (length a) (a ++ (b ++ rest)) ≡ b ++ rest = drop-append_seam a (b ++ rest) in
    rw (append_assoc a b rest, sum)
    (bind-good _ _ _ _ _ _ (read-entry w v k p e a (b ++ rest) h)
    (rw after (bind-good _ _ _ _ _ _ (read-entries w v (p + length a) rest t) refl)))

pub entries-read :
    (w v n : ℕ) (k : Key) (p : ℕ) (s : List ℕ) (es : List Entry) (m : ℕ) → Bytes s → read_entries w v n k p s ≡ good es m →
    (m ≤ length s) × Entries w v k es (take m s) × (length es ≡ n)
unfolding read_entries
entries-read w v zero k p s es m b q = good-inv _ _ _ _ q λ es-is m-is. rw (← es-is, ← m-is) (omega arith, entries_end, refl)
entries-read w v (suc n) k p s es m b q =
    bind_inv _ _ _ _ q λ e i j q₁ q₂ m-is.
    bind_inv _ _ _ _ q₂ λ fs c d q₃ q₄ j-is.
    good-inv _ _ _ _ q₄ λ es-is d-is.
    let (i-short, first) = entry_read w v k p s e i b q₁ in
    let (c-short, others, count) = entries-read w v n (key_of e) (p + i) (drop i s) fs c (bytes_drop i s b) q₃ in
    let sum : m ≡ i + c = omega arith in
    rw (← es-is, sum) (omega (arith, length-drop i s), rw (take-add i c s) (entries_more first others), ap suc count)
