-- The entries of a run, and those of the same bytes with zeros from a place on.
use mathlib.Core.Path.{◌≡◌, refl, sym, ap, ◌∙◌}
use mathlib.Core.List.{List, [], ◌∷◌, ◌++◌}
use mathlib.Core.Bool.{Bool, true, false, ◌||◌}
use mathlib.Core.Logic.{◌⊎◌, inl, inr, ⊎_elim}
use Prim.Native.Nat.{ℕ, zero, suc, ◌+◌, ◌-◌, ◌*◌, ◌/◌, ◌%◌, ◌≤◌, ◌<◌}
use native.Mathlib.Omega.{arith}
use lib.ListN.{length, take, drop, replicate, length-drop, take-append-drop}
use lib.Seq.{length-take-le, drop-drop}
use lib.Dec.{eqb, ltb}
use borrow.Author.Tests.{eqb-true, eqb-false}
use Rattle.format.specs.Bytes.{Bytes, be16, be32, be32s}
use Rattle.format.specs.Names.{length_field, compare}
use Rattle.std.proofs.Common.{Greater}
use Rattle.format.specs.Records.{Entry, Key, key_of}
use Rattle.format.specs.Layout.{ok_mode, fixed_length, bit}
use Rattle.format.specs.Reading.{good}
use Rattle.format.specs.Reader.{is_set, ok_word, entry_of, read_name, read_entry, read_entries}
use Rattle.format.specs.Tails.{zeroed_from, Lost, name_cut, word_lost}
use Rattle.format_laws.proofs.Tests.{false-true, clash, and-inv, by-test}
use Rattle.format_laws.proofs.Names.{ok_name-length}
use Rattle.format_laws.proofs.Numbers.{bytes_drop}
use Rattle.format_laws.proofs.Readings.{good-inv, need-inv, bind_inv}
use Rattle.spelling.proofs.Names.{name-read}
use Rattle.spelling.proofs.Flags.{read_word}
use Rattle.spelling.proofs.Entries.{word_in, Passes, fixed-size, read-passes, read-entry, entry_read}
use Rattle.spelling.proofs.ZeroedNames.{by_place, zeroed-length, zeroed-drop, zeroed-past, zeroed-take, get_or-zeros, zeroed-before, zeroed-from, zeroed-bytes, Cut, name-zeroed}

-- ---- the parts of an entry

-- the high byte of a number before the place c, both bytes, none
module _ (a c : ℕ) (s : List ℕ) where
  be16-high : Bytes s → a < c → be16 (zeroed_from c s) a / 256 ≡ be16 s a / 256
  unfolding be16
  be16-high b h = rw (zeroed-before a c s h) (omega (arith, b (a + 1), zeroed-bytes c s b (a + 1)))

  pub be16-same : a + 1 < c → be16 (zeroed_from c s) a ≡ be16 s a
  unfolding be16
  be16-same h = rw (zeroed-before a c s (omega arith), zeroed-before (a + 1) c s h)

  be16-none : c ≤ a → be16 (zeroed_from c s) a ≡ 0
  unfolding be16
  be16-none h = rw (zeroed-from a c s h, zeroed-from (a + 1) c s (omega arith))

  -- a number whose low byte is zero
  be16-low : Bytes s → a < c → be16 s a % 256 ≡ 0 → be16 (zeroed_from c s) a ≡ be16 s a
  unfolding be16
  be16-low b h low =
      by_place (a + 1) c
      (λ more. be16-same more)
      (λ less. rw (zeroed-before a c s h, zeroed-from (a + 1) c s less) (omega (arith, b (a + 1))))

be32s-zeroed : (a n c : ℕ) (s : List ℕ) → a + 4 * n ≤ c → be32s (zeroed_from c s) a n ≡ be32s s a n
unfolding be32s be32
be32s-zeroed a zero c s h = refl
be32s-zeroed a (suc n) c s h =
    rw (be16-same a c s (omega arith), be16-same (a + 2) c s (omega arith), be32s-zeroed (a + 4) n c s (omega arith))

-- the numbers and the object name
entry_of-zeroed : (w c : ℕ) (s : List ℕ) (x y : ℕ) (name : List ℕ) → 40 + w ≤ c → entry_of w (zeroed_from c s) x y name ≡ entry_of w s x y name
unfolding entry_of
entry_of-zeroed w c s x y name h =
    rw (be32s-zeroed 0 10 c s (omega arith), zeroed-drop 40 c s, zeroed-take w (c - 40) (drop 40 s) (omega arith))

-- two flags with the same high byte
is_set-high : (x y : ℕ) → x / 256 ≡ y / 256 → is_set 16384 x ≡ is_set 16384 y
unfolding is_set
is_set-high x y h = let same : x / 16384 % 2 ≡ y / 16384 % 2 = omega arith in rw same

flags-same : (x y : ℕ) → x / 256 ≡ y / 256 → x % 4096 ≡ y % 4096 → x ≡ y
flags-same x y h l = omega arith

-- the extended word: the same, or lost
word_set : (y : ℕ) → ok_word y ≡ true → (y ≡ 0 → ⊥) → (is_set 16384 y || is_set 8192 y) ≡ true
word_set y ok some = go (is_set 16384 y) (is_set 8192 y) (read_word y ok)
  where
    go : (a b : Bool) → bit a * 16384 + bit b * 8192 ≡ y → (a || b) ≡ true
    go true b h = refl
    go false true h = refl
    go false false h = absurd (some (omega arith))

word_low : (y : ℕ) → ok_word y ≡ true → y % 256 ≡ 0
unfolding ok_word
word_low y ok = let (_, low) = and-inv (ltb y 32768) (eqb (y % 8192) 0) ok in omega (arith, eqb-true)

word-zeroed :
    (w c : ℕ) (s : List ℕ) (extended : Bool) → Bytes s → ok_word (word_in extended w s) ≡ true →
    let y : ℕ = word_in extended w s in let z : ℕ = word_in extended w (zeroed_from c s) in
    (z ≡ y) ⊎ ((c < fixed_length w extended) × (z ≡ 0) × ((is_set 16384 y || is_set 8192 y) ≡ true))
word-zeroed w c s false b ok = inl refl
word-zeroed w c s true b ok =
    let y : ℕ = be16 s (42 + w) in
    by_place (42 + w) c
    (λ h. inl (be16-low (42 + w) c s b h (word_low y ok)))
    (λ h.
    let none : be16 (zeroed_from c s) (42 + w) ≡ 0 = be16-none (42 + w) c s h in
    by-test (eqb y 0)
    (λ same. inl (none ∙ sym (eqb-true y 0 same)))
    (λ set. inr (omega (arith, fixed-size w true), none, word_set y ok (eqb-false y 0 set))))

-- ---- the entry that was reached

-- another word, or a cut name: what is lost
module _ (w v : ℕ) (k : Key) (s : List ℕ) (x y z : ℕ) (name less : List ℕ) where
  lost-word :
      eqb v 4 ≡ true → name ≡ k.name → z ≡ 0 → (is_set 16384 y || is_set 8192 y) ≡ true → Lost v k (entry_of w s x y name) (entry_of w s x z name)
  unfolding entry_of
  lost-word four same none set = rw none (unfold is_set in word_lost four set same)

  lost-name : eqb v 4 ≡ false → Cut name less → Lost v k (entry_of w s x y name) (entry_of w s x y less)
  unfolding entry_of
  lost-name plain cut = rw cut.is (name_cut plain cut.kept cut.uncounted cut.fewer cut.most)

  same-or-lost :
      (c f : ℕ) →
      (z ≡ y) ⊎ ((c < f) × (z ≡ 0) × ((is_set 16384 y || is_set 8192 y) ≡ true)) →
      ((less ≡ name) × (c - f ≡ 0 → (eqb v 4 ≡ true) × (name ≡ k.name))) ⊎ ((eqb v 4 ≡ false) × (0 < c - f) × Cut name less) →
      (entry_of w s x z less ≡ entry_of w s x y name) ⊎ Lost v k (entry_of w s x y name) (entry_of w s x z less)
  same-or-lost c f (inl word) (inl h) = inl (rw (word, h.0))
  same-or-lost c f (inl word) (inr h) = inr (rw word (lost-name h.0 h.2))
  same-or-lost c f (inr word) (inl h) =
      let (four, first) = h.1 (omega arith) in
      inr (rw h.0 (lost-word four first word.1 word.2))
  same-or-lost c f (inr word) (inr h) = absurd (omega arith)

-- the flags' high byte was not reached: else the name would be empty
flags-place : (w v : ℕ) (k : Key) (p c : ℕ) (s : List ℕ) (d : Entry) (m : ℕ) → Passes w v k p (zeroed_from c s) d m → 40 + w < c
unfolding length_field
flags-place w v k p c s d m b =
    let f : ℕ = fixed_length w b.extended in
    let t : List ℕ = zeroed_from c s in
    let (_, _, ok, field) = name-read v f p k.name (be16 t (40 + w) % 4096) (drop f t) b.name b.taken b.named in
    by_place (40 + w) c (λ h. h) (λ h. absurd (omega (arith, be16-none (40 + w) c s h, (ok_name-length b.name ok).0)))

entry-zeroed :
    (w v : ℕ) (k : Key) (p c : ℕ) (s : List ℕ) (e d : Entry) (m : ℕ) → Bytes s →
    Passes w v k p s e m →
    Passes w v k p (zeroed_from c s) d (length s) →
    (m ≡ length s) × ((d ≡ e) ⊎ Lost v k e d)
entry-zeroed w v k p c s e d m bytes a b =
    let t : List ℕ = zeroed_from c s in
    let f : ℕ = fixed_length w a.extended in
    let u : List ℕ = drop f s in
    let x : ℕ = be16 s (40 + w) in
    let flags : ℕ = be16 t (40 + w) in
    let y : ℕ = word_in a.extended w s in
    let z : ℕ = word_in a.extended w t in
    let place : 40 + w < c = flags-place w v k p c s d (length s) b in
    let high : flags / 256 ≡ x / 256 = be16-high (40 + w) c s bytes place in
    let extended : b.extended ≡ a.extended = sym b.set ∙ is_set-high flags x high ∙ a.set in
    let size : f + b.taken ≡ length s = rw extended at b.size in
    let taken : b.taken ≡ length u = omega (arith, length-drop f s) in
    let named : read_name v f p k.name (flags % 4096) (zeroed_from (c - f) u) ≡ good b.name (length u) =
    rw (extended, zeroed-drop f c s, taken) at b.named
    in
    let rising : compare k.name a.name ≡ Greater → ⊥ = λ above. false-true (rw above at a.order) in
    let fields : 0 < c - f → flags % 4096 ≡ x % 4096 =
    λ h. ap (λ (n : ℕ). n % 4096) (be16-same (40 + w) c s (omega (arith, fixed-size w a.extended)))
    in
    let (all, field, kept) = name-zeroed v f p k.name (x % 4096) (flags % 4096) (c - f) u a.name b.name a.taken rising fields a.named named in
    let is : entry_of w s x z b.name ≡ d =
    sym (entry_of-zeroed w c s x z b.name (omega arith)) ∙ rw (extended, flags-same flags x high field) at b.entry_is
    in
    let result = same-or-lost w v k s x y z a.name b.name c f (word-zeroed w c s a.extended bytes a.word) kept in
    (omega (arith, length-drop f s, a.size, a.long), rw (a.entry_is, is) at result)

-- ---- an entry that was not reached, and the bytes after one that was

-- an entry is read by its own bytes
entry-same :
    (w v : ℕ) (k : Key) (p : ℕ) (s t : List ℕ) (e : Entry) (m : ℕ) → Bytes s → take m t ≡ take m s →
    read_entry w v k p s ≡ good e m → read_entry w v k p t ≡ good e m
entry-same w v k p s t e m b same q =
    let (short, is) = entry_read w v k p s e m b q in
    let whole : t ≡ take m s ++ drop m t = sym (take-append-drop m t) ∙ rw same refl in
    rw whole (read-entry w v k p e (take m s) (drop m t) is ∙ rw (length-take-le m s short) refl)

-- in zeros there is none
zeros-mode : (n : ℕ) → ok_mode (be32 (replicate n 0) 24) ≡ false
unfolding ok_mode be32 be16
zeros-mode n = simp get_or-zeros

pub zeros-none : (w v n : ℕ) (k : Key) (p i : ℕ) (es : List Entry) (m : ℕ) → read_entries w v n k p (replicate i 0) ≡ good es m → n ≡ 0
unfolding read_entries read_entry
zeros-none w v zero k p i es m q = refl
zeros-none w v (suc n) k p i es m q =
    bind_inv _ _ _ _ q λ e j l q₁ q₂ m-is.
    need-inv _ _ _ _ _ _ q₁ λ _ q₃.
    need-inv _ _ _ _ _ _ q₃ λ mode q₄. clash mode (zeros-mode i)

pub none_read : (w v n : ℕ) (k : Key) (p : ℕ) (s : List ℕ) (es : List Entry) (m : ℕ) → n ≡ 0 → read_entries w v n k p s ≡ good es m → (es ≡ []) × (m ≡ 0)
unfolding read_entries
none_read w v zero k p s es m h q = good-inv _ _ _ _ q λ es-is m-is. (sym es-is, sym m-is)
none_read w v (suc n) k p s es m h q = absurd (omega arith)

-- ---- a run of entries

-- what is read for the entries that come after one of the key k: the same, but perhaps for the last
pub data Kept (v : ℕ) : Key → List Entry → List Entry → Type 0 where
  kept_end : {k : Key} → Kept v k [] []
  kept_same : {k : Key} {e : Entry} {es ds : List Entry} → Kept v (key_of e) es ds → Kept v k (e ∷ es) (e ∷ ds)
  kept_lost : {k : Key} {e d : Entry} → Lost v k e d → Kept v k (e ∷ []) (d ∷ [])

-- a run is an entry and a shorter run
entries-inv :
    {X : Type 0} (w v n : ℕ) (k : Key) (p : ℕ) (s : List ℕ) (es : List Entry) (m : ℕ) → read_entries w v (suc n) k p s ≡ good es m →
    ((e : Entry) (i : ℕ) (fs : List Entry) (j : ℕ) →
    read_entry w v k p s ≡ good e i →
    read_entries w v n (key_of e) (p + i) (drop i s) ≡ good fs j →
    e ∷ fs ≡ es →
    i + j ≡ m →
    X) →
    X
unfolding read_entries
entries-inv w v n k p s es m q then =
    bind_inv _ _ _ _ q λ e i j q₁ q₂ m-is.
    bind_inv _ _ _ _ q₂ λ fs g h q₃ q₄ j-is.
    good-inv _ _ _ _ q₄ λ es-is h-is.
    then e i fs g q₁ q₃ es-is (omega arith)

-- what follows the entries there is not just zeros, as no extension is: where anything differs, the entries reach to the end
pub entries-zeroed :
    (w v n : ℕ) (k : Key) (p : ℕ) (s : List ℕ) (c : ℕ) (es ds : List Entry) (m o : ℕ) → Bytes s →
    read_entries w v n k p s ≡ good es m →
    read_entries w v n k p (zeroed_from c s) ≡ good ds o →
    ((i : ℕ) → drop o (zeroed_from c s) ≡ replicate i 0 → i ≡ 0) →
    Kept v k es ds × ((es ≡ ds) ⊎ (m ≡ length s))
unfolding read_entries
entries-zeroed w v zero k p s c es ds m o b q r rest =
    good-inv _ _ _ _ q λ es-is _.
    good-inv _ _ _ _ r λ ds-is _.
    rw (← es-is, ← ds-is) (kept_end, inl refl)
entries-zeroed w v (suc n) k p s c es ds m o b q r rest =
    let t : List ℕ = zeroed_from c s in
    entries-inv w v n k p s es m q λ e i fs j q₁ q₂ es-is m-is.
    entries-inv w v n k p t ds o r λ d g gs h r₁ r₂ ds-is o_is.
    let (short, _) = entry_read w v k p t d g (zeroed-bytes c s b) r₁ in
    let long : length t ≡ length s = zeroed-length c s in
    by_place c g
    (λ reached.
    let after : drop g t ≡ replicate (length s - g) 0 = zeroed-past g c s (omega arith) in
    let none : n ≡ 0 = zeros-none w v n (key_of d) (p + g) (length s - g) gs h (rw after at r₂) in
    let (fs-is, j-is) = none_read w v n (key_of e) (p + i) (drop i s) fs j none q₂ in
    let (gs-is, h-is) = none_read w v n (key_of d) (p + g) (drop g t) gs h none r₂ in
    let end : o ≡ g = omega arith in
    let empty : length s - g ≡ 0 = rest (length s - g) (rw end after) in
    let whole : g ≡ length s = omega arith in
    let (size, last) = entry-zeroed w v k p c s e d i b (read-passes w v k p s e i q₁) (read-passes w v k p t d (length s) (rw whole at r₁)) in
    rw (← es-is, ← ds-is, fs-is, gs-is)
    (⊎_elim (λ same. rw same (kept_same kept_end)) (λ lost. kept_lost lost) last, inr (omega arith)))
    λ later.
    let same : read_entry w v k p s ≡ good d g = entry-same w v k p t s d g (zeroed-bytes c s b) (sym (zeroed-take g c s later)) r₁ in
    let d-is : d ≡ e = cc in
    let g-is : g ≡ i = cc in
    let o-is-too : o ≡ i + h = omega arith in
    let after : drop o t ≡ drop h (zeroed_from (c - i) (drop i s)) = rw o-is-too (sym (drop-drop h i t) ∙ ap (drop h) (zeroed-drop i c s)) in
    let (kept, end) =
    entries-zeroed w v n (key_of e) (p + i) (drop i s) (c - i) fs gs j h (bytes_drop i s b) q₂ (rw (d-is, g-is, zeroed-drop i c s) at r₂) (λ l zeros. rest l (after ∙ zeros))
    in
    rw (← es-is, ← ds-is, d-is)
    (kept_same kept, ⊎_elim (λ all. inl (ap (λ (l : List Entry). e ∷ l) all)) (λ size. inr (omega (arith, length-drop i s))) end)

-- no entry is lost
pub kept-length : {v : ℕ} {k : Key} {es ds : List Entry} → Kept v k es ds → length es ≡ length ds
kept-length kept_end = refl
kept-length (kept_same h) = ap suc (kept-length h)
kept-length (kept_lost h) = refl
