-- A whole file, and the same with zeros from a place on: where records spell both, they have the same version and as many entries, all equal but
-- perhaps the last. Of the hash only the width is used.
use mathlib.Core.Path.{◌≡◌, refl, sym, ap, ◌∙◌}
use mathlib.Core.List.{List, [], ◌∷◌, ◌++◌}
use mathlib.Core.Logic.{◌⊎◌, inl, inr, ⊎_elim}
use Prim.Native.Nat.{ℕ, ◌+◌, ◌-◌, ◌≤◌, ◌<◌}
use native.Mathlib.Omega.{arith}
use lib.ListN.{length, take, drop, get_or, replicate, length-append, length-drop, length-replicate}
use lib.Seq.{drop_at}
use lib.Dec.{leb}
use borrow.Author.Tests.{leb-true}
use Rattle.format.specs.Bytes.{Bytes, be16, be32}
use Rattle.format.specs.Records.{Entry, Key, start, Records}
use Rattle.format.specs.Layout.{Extension, cache_tree, resolve_undo, other, optional, Says, Entries, entries_end, entries_more, Extensions, extensions_end, extensions_more, Body, Spells}
use Rattle.format.specs.Reading.{good}
use Rattle.format.specs.Reader.{read_entries}
use Rattle.format.specs.Tails.{zeroed_from}
use Rattle.format_laws.proofs.Tests.{and-inv}
use Rattle.format_laws.proofs.Numbers.{bytes_take, bytes_drop}
use Rattle.spelling.proofs.Entries.{entry-long, read-entries}
use Rattle.spelling.proofs.File.{headed-version, headed-count, headed-rest, headed-length, body-first}
use Rattle.spelling.proofs.ZeroedNames.{by_place, zeroed-length, zeroed-drop, zeroed-past, zeroed-part, zeroed-before, zeroed-from, get_or-zeros}
use Rattle.spelling.proofs.Zeroed.{be16-same, zeros-none, none_read, Kept, kept_end, entries-zeroed}

-- ---- no extension is all zeros, and no entry is without bytes

says_first : (w : ℕ) (ns : List (List ℕ)) (x : Extension) (s d : List ℕ) → Says w ns x s d → 65 ≤ get_or s 0 0
unfolding optional
says_first w ns (cache_tree t) s d h = rw h.0 (omega arith)
says_first w ns (resolve_undo us) s d h = rw h.0 (omega arith)
says_first w ns (other s₁ d₁) s d (_, _, _, letter, _, _) = leb-true 65 (get_or s 0 0) (and-inv (leb 65 (get_or s 0 0)) _ letter).0

first_of : (s t : List ℕ) → 65 ≤ get_or s 0 0 → 65 ≤ get_or (s ++ t) 0 0
first_of [] t h = absurd (omega arith)
first_of (x ∷ s) t h = h

extensions-zeros : {w : ℕ} {ns : List (List ℕ)} {xs : List Extension} {a : List ℕ} → Extensions w ns xs a → (i : ℕ) → a ≡ replicate i 0 → i ≡ 0
extensions-zeros extensions_end i e = sym (length-replicate i 0) ∙ sym (ap length e)
extensions-zeros {w = w} {ns = ns} (extensions_more {x = x} {a = a} {b = b} h rest) i e =
    let first : 65 ≤ get_or a 0 0 = rw h.bytes (first_of h.signature _ (says_first w ns x h.signature h.content h.says)) in
    let none : get_or (a ++ b) 0 0 ≡ 0 = ap (λ (l : List ℕ). get_or l 0 0) e ∙ get_or-zeros i 0 in
    absurd (omega (arith, first_of a b first))

entries_none : {w v : ℕ} {k : Key} {es : List Entry} {a : List ℕ} → Entries w v k es a → length a ≡ 0 → es ≡ []
entries_none entries_end e = refl
entries_none (entries_more {a = a} {b = b} h rest) e = absurd (omega (arith, length-append a b, entry-long _ _ _ _ a h))

-- ---- the body

-- a body's version, its number of entries, its entries, and what follows them
record Runs (w : ℕ) (r : Records) (b : List ℕ) (h : Body w r b) : Type 0 where
  version : be32 b 4 ≡ h.version
  count : be32 b 8 ≡ length r.entries
  long : length b ≡ 12 + (length h.entry_bytes + length h.extension_bytes)
  entries : read_entries w h.version (length r.entries) start 12 (drop 12 b) ≡ good r.entries (length h.entry_bytes)
  after : drop (length h.entry_bytes) (drop 12 b) ≡ h.extension_bytes

runs : (w : ℕ) (r : Records) (b : List ℕ) (h : Body w r b) → Runs w r b h
runs w r b h =
    let n : ℕ = length r.entries in
    let s : List ℕ = h.entry_bytes ++ h.extension_bytes in
    let small : h.version < 4294967296 = omega (arith, h.two_to_four.1) in
    let rest : drop 12 b ≡ s = rw h.bytes (headed-rest h.version n s) in
    record {
      version = rw h.bytes (headed-version h.version n s small);
      count = rw h.bytes (headed-count h.version n s h.few);
      long = ap length h.bytes ∙ headed-length h.version n s ∙ rw (length-append h.entry_bytes h.extension_bytes) refl;
      entries = rw rest (read-entries w h.version 12 h.extension_bytes h.entries_are);
      after = rw rest (drop_at h.entry_bytes h.extension_bytes (length h.entry_bytes) refl);
    }

be32-same : (a c : ℕ) (s : List ℕ) → a + 3 < c → be32 (zeroed_from c s) a ≡ be32 s a
unfolding be32
be32-same a c s h = rw (be16-same a c s (omega arith), be16-same (a + 2) c s (omega arith))

-- a version that loses its last byte is 0
version-place : (c : ℕ) (b : List ℕ) → be32 b 4 ≤ 4 → 2 ≤ be32 (zeroed_from c b) 4 → 7 < c
unfolding be32 be16
version-place c b small least =
    by_place 7 c (λ h. h) λ reached.
    absurd (omega (arith, zeroed-from 7 c b reached, kept 4, kept 5, kept 6))
  where
    kept : (i : ℕ) → get_or (zeroed_from c b) i 0 ≤ get_or b i 0
    kept i = by_place i c (λ h. omega (arith, zeroed-before i c b h)) (λ h. omega (arith, zeroed-from i c b h))

-- where a body and the same with zeros from a place on are both of records
pub record Same (w : ℕ) (r q : Records) (b d : List ℕ) (h : Body w r b) (k : Body w q d) : Type 0 where
  pub version : h.version ≡ k.version
  pub kept : Kept h.version start r.entries q.entries
  pub or_end : (r.entries ≡ q.entries) ⊎ (12 + length h.entry_bytes ≡ length b)

module _ (w : ℕ) (r q : Records) (b : List ℕ) (c : ℕ) (bytes : Bytes b) (h : Body w r b) (k : Body w q (zeroed_from c b)) where
  read : Runs w r b h
  read = runs w r b h

  again : Runs w q (zeroed_from c b) k
  again = runs w q (zeroed_from c b) k

  past : 7 < c
  past = version-place c b (omega (arith, read.version, h.two_to_four.1)) (omega (arith, again.version, k.two_to_four.0))

  same_version : h.version ≡ k.version
  same_version = sym read.version ∙ sym (be32-same 4 c b (omega (arith, past))) ∙ again.version

  -- the header was not reached
  header-kept : 11 < c → Same w r q b (zeroed_from c b) h k
  header-kept later =
      let count : length r.entries ≡ length q.entries = sym read.count ∙ sym (be32-same 8 c b later) ∙ again.count in
      let entries : read_entries w h.version (length r.entries) start 12 (zeroed_from (c - 12) (drop 12 b)) ≡ good q.entries (length k.entry_bytes) =
      rw (same_version, count, ← (zeroed-drop 12 c b)) again.entries
      in
      let (kept, end) =
      entries-zeroed w h.version (length r.entries) start 12 (drop 12 b) (c - 12) r.entries q.entries _ _ (bytes_drop 12 b bytes) read.entries entries
      (λ i e. extensions-zeros k.extensions_are i (sym again.after ∙ rw (zeroed-drop 12 c b) e))
      in
      record {
        version = same_version;
        kept = kept;
        or_end = ⊎_elim (λ same. inl same) (λ size. inr (omega (arith, length-drop 12 b, read.long))) end;
      }

  -- the number of entries was reached: there are none
  header-reached : c ≤ 11 → Same w r q b (zeroed_from c b) h k
  header-reached early =
      let rest : drop 12 (zeroed_from c b) ≡ replicate (length b - 12) 0 = zeroed-past 12 c b (omega arith) in
      let none : length q.entries ≡ 0 = zeros-none w k.version (length q.entries) start 12 (length b - 12) q.entries (length k.entry_bytes) (rw rest at again.entries) in
      let (without, taken) = none_read w k.version (length q.entries) start 12 (drop 12 (zeroed_from c b)) q.entries (length k.entry_bytes) none again.entries in
      let empty : length b - 12 ≡ 0 = extensions-zeros k.extensions_are (length b - 12) (sym again.after ∙ rw taken rest) in
      let also : r.entries ≡ [] = entries_none h.entries_are (omega (arith, read.long)) in
      record { version = same_version; kept = rw (also, without) kept_end; or_end = inl (also ∙ sym without) }

  pub body-zeroed : Same w r q b (zeroed_from c b) h k
  body-zeroed = by_place 11 c header-kept header-reached

-- ---- the file

-- two spelled files, of which one is the other with zeros from a place on
module _ (w : ℕ) (hash : List ℕ → List ℕ) (width : (b : List ℕ) → length (hash b) ≡ w) (r q : Records) (f : List ℕ) (c : ℕ) (bytes : Bytes f) where
  pub file-zeroed : (h : Spells w hash r f) (k : Spells w hash q (zeroed_from c f)) → Same w r q h.body k.body h.body_is k.body_is
  file-zeroed h k =
      let g : List ℕ = zeroed_from c f in
      let body : take (length f - w) f ≡ h.body = body-first w hash width r f h in
      let also : k.body ≡ zeroed_from c h.body =
      sym (body-first w hash width q g k) ∙ rw (zeroed-length c f, zeroed-part (length f - w) c f, body) refl
      in
      by k.body also (rw body at (bytes_take (length f - w) f bytes)) k.body_is
    where
      by : (d : List ℕ) → d ≡ zeroed_from c h.body → Bytes h.body → (m : Body w q d) → Same w r q h.body d h.body_is m
      by d e small = rw e (λ m. body-zeroed w r q h.body c small h.body_is m)
