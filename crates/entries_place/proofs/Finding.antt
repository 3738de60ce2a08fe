-- Laws of the search for the place of a key, entry after entry.
use mathlib.Core.Path.{◌≡◌, refl, sym, ap, ap₂, ◌∙◌}
use mathlib.Core.List.{List, [], ◌∷◌, ◌++◌, append_assoc}
use mathlib.Core.Bool.{Bool, true, false, ◌||◌}
use Prim.Native.Nat.{ℕ, ◌+◌, ◌-◌, ◌≤◌, ◌<◌}
use native.Mathlib.Omega.{arith}
use lib.ListN.{length, take, drop, length-append, take-append-drop}
use lib.Seq.{drop-append_seam, drop-length}
use borrow.Author.Tests.{eq-eqb, ne_eqb}
use Rattle.std.specs.Prelude.{Ok}
use Rattle.format.specs.Records.{Entry, Key, key_of, start}
use Rattle.format.specs.Reader.{entry_of, read_entries}
use Rattle.format.specs.Requests.{goes_before, same_key, mixes, mixed}
use Rattle.format_laws.proofs.Numbers.{bit_below}
use Rattle.format_laws.proofs.Tests.{by-test}
use Rattle.format_laws.proofs.Readings.{good-inv}
use Rattle.entries_run.specs.declared.Cursor.{Cursor}
use Rattle.entries_run.specs.declared.Step.{Step}
use Rattle.entries_run.specs.Steps.{name_at, key_at, entry_at, Room, StepFound, EntryStepped, first_cursor, AllRead, Readable}
use Rattle.entries_run.proofs.Steps.{walked_end, walked-take, walked-left, Walking, walking-first, walking-more}
use Rattle.entries_place.specs.declared.Compared.{Compared}
use Rattle.entries_place.specs.Places.{rank, starts_with, is_there, rising, KeysCompared, PlaceFound}
use Rattle.entries_place.proofs.Places.{read-rising, mixed-stop, mixed-more}

-- ---- the entry before a cursor

module _ (v : ℕ) (b work : List ℕ) (c : Cursor) (k : Key) (r : Compared) where
  -- its name is in the workspace, or in the body
  pub order-packed : v ≡ 4 → KeysCompared (record { name = take c.len work; stage = c.stage }) k r → KeysCompared (key_at v b work c) k r
  unfolding name_at
  order-packed e h = rw (eq-eqb v 4 e) h

  pub order-plain : (v ≡ 4 → ⊥) → (n : ℕ) → n ≡ c.len → KeysCompared (record { name = take n (drop c.start b); stage = c.stage }) k r
      → KeysCompared (key_at v b work c) k r
  unfolding name_at
  order-plain e n is h = rw (ne_eqb v 4 e, ← is) h

pub key-at : (w : ℕ) (v : ℕ) (b work : List ℕ) (c : Cursor) (work' : List ℕ) (st : Step) → StepFound w v b work c work' st → key_of (entry_at w v b work' c.at st) ≡ key_at v b work' st.next
unfolding entry_of
key-at w v b work c work' st f = ap (λ (n : ℕ). record { name = name_at v b work' st.next.start st.next.len; stage = n }) (sym f.stage)

-- ---- entries that all are before the key

rank-past : (k : Key) (es gs : List Entry) → rank k es ≡ length es → rank k (es ++ gs) ≡ length es + rank k gs
unfolding rank
rank-past k [] gs e = omega arith
rank-past k (x ∷ es) gs e =
    by-test (goes_before (key_of x) k)
    (λ p. rw p (omega (arith, rank-past k es gs (omega (arith, rw p at e)))))
    (λ p. absurd (omega (arith, rw p at e)))

module _ (k : Key) (es : List Entry) (x : Entry) (all-before : rank k es ≡ length es) where
  one_more : goes_before (key_of x) k ≡ true → rank k (es ++ (x ∷ [])) ≡ length es + 1
  unfolding rank
  one_more p = rank-past k es (x ∷ []) all-before ∙ rw p

  stopped : (all gs : List Entry) → all ≡ es ++ (x ∷ gs) → goes_before (key_of x) k ≡ false
      → (length es ≡ rank k all) × (same_key (key_of x) k ≡ is_there k all)
  unfolding rank starts_with
  stopped all gs parts p =
      let at : length es ≡ rank k all = sym (rw parts (rank-past k es (x ∷ gs) all-before ∙ rw p (omega arith))) in
      (at, rw (← at, parts, drop-append_seam es (x ∷ gs)))

-- ---- the search

-- n entries have been passed, all of them before the key k; x says whether it mixes with one of them
pub record Searching (w : ℕ) (v : ℕ) (b work₀ : List ℕ) (k : Key) (n : ℕ) (x : Bool) (work : List ℕ) (c : Cursor) : Type 0 where
  pub entries : List Entry
  pub walking : Walking w v b work₀ entries work c
  pub many : length entries ≡ n
  pub before : rank k entries ≡ n
  pub mix : x ≡ mixed k entries

pub search-first : (w : ℕ) (v : ℕ) (b work : List ℕ) (k : Key) → Room b work → Searching w v b work k 0 false work first_cursor
unfolding rank mixed
search-first w v b work k room = record { entries = []; walking = walking-first w v b work room; many = refl; before = refl; mix = refl }

module _ {w : ℕ} {v : ℕ} {b work₀ : List ℕ} {k : Key} {n : ℕ} {x : Bool} {work : List ℕ} {c : Cursor} (h : Searching w v b work₀ k n x work c) where
  abbrev es : List Entry
  es = h.entries

  -- no entry is left
  pub search-end : {count : ℕ} → n ≡ count → PlaceFound w v b work₀ count k work (record { before = n; there = false; mixed = x })
  unfolding starts_with
  search-end {count} all_of =
      record {
        is = λ all m q.
            let read = ap (λ (i : ℕ). read_entries w v i start 12 (drop 12 b)) (h.many ∙ all_of) in
            good-inv _ _ _ _ (sym (walked_end w v b es work c h.walking.walked) ∙ read ∙ q) λ is l.
            let at : rank k all ≡ length all = ap (rank k) (sym is) ∙ h.before ∙ sym h.many ∙ ap length is in
            (sym h.before ∙ ap (rank k) is, rw (at, drop-length all), h.mix ∙ ap (mixed k) is);
        few = omega arith;
        frame = h.walking.frame;
      }

  -- where all entries were read, those from the cursor on were
  pub search-left : {count : ℕ} → n ≤ count → AllRead w v count b → Readable w v (count - n) b work c
  search-left {count} few all = rw h.many at (walked-left w v b es work c h.walking.walked count (omega (arith, h.many)) all)

  module _ {count : ℕ} {work' : List ℕ} (more : n < count) where
    -- the next entry compares to the key as d says
    module _ {st : Step} (t : EntryStepped w v b work c work' (Ok st)) {d : Compared} (e : KeysCompared (key_at v b work' st.next) k d) where
      abbrev next : Entry
      next = entry_at w v b work' c.at st

      compared : KeysCompared (key_of next) k d
      compared = rw (key-at w v b work c work' st (t.found st refl)) e

      all-before : rank k es ≡ length es
      all-before = h.before ∙ sym h.many

      on : Walking w v b work₀ (es ++ (next ∷ [])) work' st.next
      on = walking-more h.walking t

      mix-is : (x || d.mixes) ≡ (mixed k es || mixes (key_of next) k)
      mix-is = ap₂ ◌||◌ h.mix compared.mixes

      pub search-more : d.before ≡ true → Searching w v b work₀ k (n + 1) (x || d.mixes) work' st.next
      search-more below =
          record {
            entries = _;
            walking = on;
            many = rw length-append (omega (arith, h.many));
            before = one_more k es next all-before (sym compared.before ∙ below) ∙ omega (arith, h.many);
            mix = mix-is ∙ sym (mixed-more k es next);
          }

      -- it has the key, or is after it
      pub search-stop : d.before ≡ false → PlaceFound w v b work₀ count k work' (record { before = n; there = d.same; mixed = x || d.mixes })
      search-stop not-below =
          record {
            is = λ all m q.
                let few : length (es ++ (next ∷ [])) ≤ count = rw length-append (omega (arith, h.many)) in
                let begins : es ++ (next ∷ []) ≡ take (length (es ++ (next ∷ []))) all = walked-take w v b _ work' st.next on.walked count all m q few in
                let gs : List Entry = drop (length (es ++ (next ∷ []))) all in
                let parts : all ≡ es ++ (next ∷ gs) =
                sym (take-append-drop (length (es ++ (next ∷ []))) all) ∙ ap (λ (l : List Entry). l ++ gs) (sym begins) ∙ append_assoc es (next ∷ []) gs in
                let late : goes_before (key_of next) k ≡ false = sym compared.before ∙ not-below in
                let (at, there) = stopped k es next all-before all gs parts late in
                let rising-all : rising start (es ++ (next ∷ gs)) ≡ true = rw parts at (read-rising w v count start 12 (drop 12 b) all m q) in (
                  sym h.many ∙ at,
                  compared.same ∙ there,
                  mix-is ∙ sym (mixed-stop k start es next gs rising-all late) ∙ ap (mixed k) (sym parts),
                );
            few = omega (arith, bit_below d.same);
            frame = on.frame;
          }
