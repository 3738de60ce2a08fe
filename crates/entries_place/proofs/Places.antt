-- What is put, removed and held, by the place of a key among entries.
use mathlib.Core.Path.{◌≡◌, refl, sym, ap, ◌∙◌}
use mathlib.Core.List.{List, [], ◌∷◌, ◌++◌}
use mathlib.Core.Bool.{true, false, ◌||◌}
use mathlib.Core.Option.{some}
use Prim.Native.Nat.{ℕ, zero, suc, ◌+◌}
use native.Mathlib.Nat.{suc-add}
use lib.ListN.{take, drop, get_elem?}
use Rattle.format.specs.Records.{Entry, Key, key_of, start}
use Rattle.format.specs.Layout.{bit}
use Rattle.format.specs.Reading.{good}
use Rattle.format.specs.Reader.{read_entries}
use Rattle.format.specs.Requests.{goes_before, same_key, mixes, mixed, put_entry, remove_entry, holds}
use Rattle.format_laws.proofs.Tests.{false-true, by-test, and-inv}
use Rattle.format_laws.proofs.Readings.{good-inv, bind_inv}
use Rattle.spelling.proofs.Entries.{entry-rises}
use Rattle.entries_run.specs.Steps.{EntriesRead}
use Rattle.entries_place.specs.declared.Place.{Place}
use Rattle.entries_place.specs.Places.{rank, starts_with, is_there, rising, PlaceFound}
use Rattle.format_laws.proofs.Keys.{may_follow, follow-before, late-apart, before-trans, same_key_lem, before-other}

-- ---- the place

-- where an entry is there, it has the key
pub there-inv {ℓ} : {X : Type ℓ} (k : Key) (es : List Entry) → is_there k es ≡ true
    → ((x : Entry) (xs : List Entry) → drop (rank k es) es ≡ x ∷ xs → get_elem? es (rank k es) ≡ some x → key_of x ≡ k → X) → X
unfolding starts_with rank
there-inv k [] h f = false-true h
there-inv k (x ∷ xs) h f =
    by-test (goes_before (key_of x) k)
    (λ p. there-inv k xs (rw p at h) (λ y ys at here is. f y ys (rw p at) (rw p here) is))
    (λ p. f x xs (rw p) (rw p) (same_key_lem (key_of x) k (rw p at h)))

pub there-name : (k : Key) (es : List Entry) → is_there k es ≡ true → (x : Entry) → get_elem? es (rank k es) ≡ some x
    → (x.name ≡ k.name) × (x.stage ≡ k.stage)
there-name k es h x at =
    there-inv k es h λ y ys rest here is.
    let same : y ≡ x = cc in
    (ap (λ (z : Entry). z.name) (sym same) ∙ ap (λ (z : Key). z.name) is, ap (λ (z : Entry). z.stage) (sym same) ∙ ap (λ (z : Key). z.stage) is)

-- ---- put

pub put_is : (e : Entry) (es : List Entry)
    → put_entry e es ≡ take (rank (key_of e) es) es ++ (e ∷ drop (rank (key_of e) es + bit (is_there (key_of e) es)) es)
unfolding put_entry rank starts_with
put_is e [] = refl
put_is e (x ∷ xs) =
    by-test (goes_before (key_of x) (key_of e))
    (λ p. rw (p, suc-add (rank (key_of e) xs) (bit (is_there (key_of e) xs))) (ap (λ (l : List Entry). x ∷ l) (put_is e xs)))
    (λ p. by-test (same_key (key_of x) (key_of e)) (λ q. rw (p, q)) (λ q. rw (p, q)))

-- ---- remove

pub remove-is : (k : Key) (es : List Entry) → is_there k es ≡ true → remove_entry k es ≡ take (rank k es) es ++ drop (rank k es + 1) es
unfolding remove_entry rank starts_with
remove-is k [] h = false-true h
remove-is k (x ∷ xs) h =
    by-test (goes_before (key_of x) k)
    (λ p.
    let at : is_there k xs ≡ true = rw p at h in
    rw (p, before-other (key_of x) k p, suc-add (rank k xs) 1) (ap (λ (l : List Entry). x ∷ l) (remove-is k xs at)))
    (λ p. let q : same_key (key_of x) k ≡ true = rw p at h in rw (p, q))

-- ---- hold

-- what follows an entry that does not go before the key does not either
still-late : (k a x : Key) → may_follow a x ≡ true → goes_before a k ≡ false → goes_before x k ≡ false
still-late k a x next n =
    by-test (goes_before x k)
    (λ p. false-true (sym n ∙ before-trans a x k (follow-before a x next) p))
    (λ p. p)

-- where the entry before does not go before the key, none after it has the key
holds-late : (k a : Key) (es : List Entry) → rising a es ≡ true → goes_before a k ≡ false → holds k es ≡ false
unfolding rising holds
holds-late k a [] h n = refl
holds-late k a (x ∷ xs) h n =
    let (next, rest) = and-inv (may_follow a (key_of x)) (rising (key_of x) xs) h in
    by-test (same_key (key_of x) k)
    (λ p. false-true (sym n ∙ ap (goes_before a) (sym (same_key_lem (key_of x) k p)) ∙ follow-before a (key_of x) next))
    (λ p. rw p (holds-late k (key_of x) xs rest (still-late k a (key_of x) next n)))

holds-is : (k a : Key) (es : List Entry) → rising a es ≡ true → holds k es ≡ is_there k es
unfolding rising holds rank starts_with
holds-is k a [] h = refl
holds-is k a (x ∷ xs) h =
    let rest = (and-inv (may_follow a (key_of x)) (rising (key_of x) xs) h).1 in
    by-test (goes_before (key_of x) k)
    (λ p. rw (p, before-other (key_of x) k p) (holds-is k (key_of x) xs rest))
    (λ p. by-test (same_key (key_of x) k) (λ q. rw (p, q)) (λ q. rw (p, q) (holds-late k (key_of x) xs rest p)))

-- ---- mix

-- where the entry before does not go before the key, nor mixes with it, none after it mixes with it
mixed-late : (k a : Key) (es : List Entry) → rising a es ≡ true → goes_before a k ≡ false → mixes a k ≡ false → mixed k es ≡ false
unfolding rising mixed
mixed-late k a [] h n apart = refl
mixed-late k a (x ∷ xs) h n apart =
    let (next, rest) = and-inv (may_follow a (key_of x)) (rising (key_of x) xs) h in
    let own = late-apart a (key_of x) k next n apart in
    rw own (mixed-late k (key_of x) xs rest (still-late k a (key_of x) next n) own)

-- so the entries up to the first that does not go before the key decide
pub mixed-stop : (k a : Key) (es : List Entry) (x : Entry) (gs : List Entry) → rising a (es ++ (x ∷ gs)) ≡ true → goes_before (key_of x) k ≡ false
    → mixed k (es ++ (x ∷ gs)) ≡ (mixed k es || mixes (key_of x) k)
unfolding rising mixed
mixed-stop k a [] x gs h n =
    let rest = (and-inv (may_follow a (key_of x)) (rising (key_of x) gs) h).1 in
    by-test (mixes (key_of x) k) (λ p. rw p refl) (λ p. rw p (mixed-late k (key_of x) gs rest n p))
mixed-stop k a (y ∷ es) x gs h n =
    let rest = (and-inv (may_follow a (key_of y)) (rising (key_of y) (es ++ (x ∷ gs))) h).1 in
    by-test (mixes (key_of y) k) (λ p. rw p refl) (λ p. rw p (mixed-stop k (key_of y) es x gs rest n))

pub mixed-more : (k : Key) (es : List Entry) (x : Entry) → mixed k (es ++ (x ∷ [])) ≡ (mixed k es || mixes (key_of x) k)
unfolding mixed
mixed-more k [] x = by-test (mixes (key_of x) k) (λ p. rw p refl) (λ p. rw p refl)
mixed-more k (y ∷ es) x = by-test (mixes (key_of y) k) (λ p. rw p refl) (λ p. rw p (mixed-more k es x))

-- ---- entries that are read rise

pub read-rising : (work v n : ℕ) (k : Key) (p : ℕ) (s : List ℕ) (es : List Entry) (m : ℕ) → read_entries work v n k p s ≡ good es m → rising k es ≡ true
unfolding read_entries rising
read-rising work v zero k p s es m q = good-inv _ _ _ _ q (λ is l. rw (← is))
read-rising work v (suc n) k p s es m q =
    bind_inv _ _ _ _ q λ e i j first q₁ sum.
    bind_inv _ _ _ _ q₁ λ fs c d rest q₂ sum₁.
    good-inv _ _ _ _ q₂ λ is l.
    rw (← is, entry-rises work v k p s e i first) (read-rising work v n (key_of e) (p + i) (drop i s) fs c rest)

-- ---- the same from the place that was found

module _ (w : ℕ) (v : ℕ) (b work : List ℕ) (count : ℕ) (k : Key) (work' : List ℕ) (r : Place) (h : PlaceFound w v b work count k work' r) (es : List Entry) (m : ℕ)
    (q : EntriesRead w v count b es m) where
  pub put-at : (e : Entry) → key_of e ≡ k → put_entry e es ≡ take r.before es ++ (e ∷ drop (r.before + bit r.there) es)
  put-at e is = let (before, there, _) = h.is es m q in rw (before, there, ← is) (put_is e es)

  pub mixed-at : mixed k es ≡ r.mixed
  mixed-at = sym (h.is es m q).2

  pub remove-at : r.there ≡ true → remove_entry k es ≡ take r.before es ++ drop (r.before + 1) es
  remove-at found = let (before, there, _) = h.is es m q in rw before (remove-is k es (sym there ∙ found))

  pub holds_at : holds k es ≡ r.there
  holds_at = let (before, there, _) = h.is es m q in holds-is k start es (read-rising w v count start 12 (drop 12 b) es m q) ∙ sym there
