-- The proof of what is said of zeroed tails, from demand 3 and from the law on two spelled files.
use mathlib.Core.Path.{◌≡◌, refl, sym, ap, ◌∙◌}
use mathlib.Core.Logic.{◌⊎◌, inl, inr, ⊎_elim}
use mathlib.Core.Bool.{Bool, true, false}
use mathlib.Core.List.{List, [], ◌∷◌}
use mathlib.Core.Option.{Option, none, some}
use Prim.Native.Nat.{ℕ, zero, suc, ◌+◌, ◌<◌}
use native.Mathlib.Omega.{arith}
use lib.ListN.{length, get_elem?}
use lib.Dec.{eqb}
use Rattle.format.specs.Bytes.{Bytes}
use Rattle.format.specs.Records.{Entry, Key, key_of, start, Records}
use Rattle.format.specs.Layout.{Spells}
use Rattle.format.specs.Tails.{zeroed_from, Lost}
use Rattle.format_laws.proofs.Readings.{none-some}
use Rattle.answers.specs.declared.Summary.{Summary}
use Rattle.std.specs.Prelude.{Result, Ok, Err}
use Rattle.format.specs.Refusals.{Numbered, denied}
use Rattle.answers.specs.Answers.{too_small, summary_of, pick}
use Rattle.kinds.specs.Kinds.{ok_kind, width_of, hash_of, read_kind}
use Rattle.kinds.proofs.Laws.{length-hash, file-known}
use Rattle.spelling.proofs.File.{contents_of, spelled_sum, file-long}
use Rattle.spelling.proofs.Zeroed.{Kept, kept_end, kept_same, kept_lost, kept-length}
use Rattle.spelling.proofs.ZeroedNames.{zeroed-bytes}
use Rattle.spelling.proofs.ZeroedFile.{Same, file-zeroed}
use Rattle.demands.proofs.Statements.{check, entry, Demand3, LastLost, ZeroedTails}
use Rattle.demands.proofs.Proved.{accepted-inv}

-- ---- items of a list

item-some : {A : Type 0} (l : List A) (k : ℕ) → k < length l → (a : A) × (get_elem? l k ≡ some a)
item-some [] k h = absurd (omega arith)
item-some (a ∷ l) zero h = (a, refl)
item-some (a ∷ l) (suc k) h = item-some l k (omega arith)

pub pick_some : {A : Type 0} (t : Bool) (o : Option A) (a : A) → pick t o ≡ pick t (some a) → o ≡ some a
pick_some true none a e = let z : ◌≡◌ {A = ℕ} 0 1 = cc in absurd (omega arith)
pick_some false none a e = let z : ◌≡◌ {A = ℕ} 0 1 = cc in absurd (omega arith)
pick_some true (some x) a e = cc
pick_some false (some x) a e = cc

-- the key of the entry before number i, where k is the one before the first
abbrev key_before : Key → List Entry → ℕ → Key
key_before k es zero = k
key_before k [] (suc i) = k
key_before k (e ∷ es) (suc i) = key_before (key_of e) es i

key-before : (k : Key) (es : List Entry) (j : ℕ) (e : Entry) → get_elem? es j ≡ some e → key_before k es (suc j) ≡ key_of e
key-before k [] j e q = none-some q
key-before k (x ∷ es) zero e q = let same : x ≡ e = cc in ap key_of same
key-before k (x ∷ es) (suc j) e q = key-before (key_of x) es j e q

-- what is left of entry i
kept-item :
    {v : ℕ} {k : Key} {es ds : List Entry} → Kept v k es ds → (i : ℕ) (e : Entry) → get_elem? es i ≡ some e →
    (get_elem? ds i ≡ some e) ⊎ ((d : Entry) × (suc i ≡ length es) × (get_elem? ds i ≡ some d) × Lost v (key_before k es i) e d)
kept-item kept_end i e q = none-some q
kept-item (kept_same h) zero e q = inl q
kept-item (kept_same h) (suc i) e q = ⊎_elim (λ same. inl same) (λ lost. inr (lost.0, ap suc lost.1, lost.2, lost.3)) (kept-item h i e q)
kept-item (kept_lost {e = x} {d = d} h) zero e q = let same : x ≡ e = cc in inr (d, refl, refl, rw same at h)
kept-item (kept_lost h) (suc i) e q = none-some q

-- ---- two files

module _ (kind : ℕ) (work : List ℕ) (demand : Demand3 kind work) (known : ok_kind kind ≡ true) where
  abbrev w : ℕ
  w = width_of kind

  abbrev hash : List ℕ → List ℕ
  hash = hash_of kind

  -- what check says of a spelled file
  pub says : (f : List ℕ) (s : Summary) (r : Records) (h : Spells w hash r f) → check kind work f ≡ Ok s → s ≡ summary_of (contents_of (spelled_sum h) h.body_is)
  says f s r h e = ap said (sym e ∙ demand.counts known f r h)
    where
      said : Result Summary Numbered → Summary
      said (Err x) = s
      said (Ok t) = t

  module _ (f : List ℕ) (c : ℕ) (bytes : Bytes f) (r q : Records) (h : Spells w hash r f) (k : Spells w hash q (zeroed_from c f)) where
    abbrev g : List ℕ
    g = zeroed_from c f

    same : Same w r q h.body k.body h.body_is k.body_is
    same = file-zeroed w hash (length-hash kind) r q f c bytes h k

    abbrev packed : Bool
    packed = eqb h.body_is.version 4

    shown : (i : ℕ) → entry kind work i f ≡ pick packed (get_elem? r.entries i)
    shown i = demand.entries known f r i h

    shown-again : (i : ℕ) → entry kind work i g ≡ pick packed (get_elem? q.entries i)
    shown-again i = rw same.version (demand.entries known g q i k)

    item : (i : ℕ) → i < length r.entries
        → (entry kind work i g ≡ entry kind work i f) ⊎ LastLost kind work f g (summary_of (contents_of (spelled_sum h) h.body_is)) i
    item i small = by same.or_end
      where
        by : (r.entries ≡ q.entries) ⊎ (12 + length h.body_is.entry_bytes ≡ length h.body)
            → (entry kind work i g ≡ entry kind work i f) ⊎ LastLost kind work f g (summary_of (contents_of (spelled_sum h) h.body_is)) i
        by (inl all) = inl (shown-again i ∙ rw (← all) (sym (shown i)))
        by (inr end) =
            let (e, there) = item-some r.entries i small in
            ⊎_elim
            (λ kept. inl (shown-again i ∙ rw kept (sym (shown i ∙ rw there refl))))
            (λ lost.
            let (d, last, is, how) = lost in
            inr (record {
              last = last;
              no-extension = omega (arith, end, file-long w hash (length-hash kind) r f h);
              previous = key_before start r.entries i;
              whole = e;
              read = d;
              lost = how;
              shown = shown i ∙ rw there refl;
              shown-again = shown-again i ∙ rw is refl;
              first = λ i-is. rw i-is refl;
              before = λ j b i-is sight. rw i-is (key-before start r.entries j b (pick_some packed _ b (sym (shown j) ∙ sight)));
            }))
            (kept-item same.kept i e there)

pub zeroed-tails : (kind : ℕ) (work : List ℕ) → too_small work ≡ false → Demand3 kind work → ZeroedTails kind work
zeroed-tails kind work room demand f c s bytes e =
    accepted-inv work (read_kind kind f) s room e λ d m read.
    file-known kind f d m read λ known _.
    let (r, h) = (demand.exact known f bytes).0 (s, e) in
    go known r h (check kind work (zeroed_from c f)) refl
  where
    g : List ℕ
    g = zeroed_from c f

    go : ok_kind kind ≡ true → (r : Records) → Spells (width_of kind) (hash_of kind) r f → (a : Result Summary Numbered) → check kind work g ≡ a
        → ((n p : ℕ) × (check kind work g ≡ denied n p))
        ⊎ ((t : Summary) × (check kind work g ≡ Ok t) × (t.version ≡ s.version) × (t.entries ≡ s.entries)
        × ((k : ℕ) → k < s.entries → (entry kind work k g ≡ entry kind work k f) ⊎ LastLost kind work f g s k))
    go known r h (Err x) a = inl (x.number, x.place, a)
    go known r h (Ok t) a =
        let (q, k) = (demand.exact known g (zeroed-bytes c f bytes)).0 (t, a) in
        let whole = says kind work demand known f s r h e in
        let left = says kind work demand known g t q k a in
        let both = same kind work demand known f c bytes r q h k in
        inr (
          t,
          a,
          rw (whole, left) (sym both.version),
          rw (whole, left) (sym (kept-length both.kept)),
          rw whole (item kind work demand known f c bytes r q h k),
        )
