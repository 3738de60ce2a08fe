-- Names and what is left of them in a directory: the first component, the cut after a prefix, and the order.
use mathlib.Core.Path.{◌≡◌, refl, sym, ap, ap₂, ◌∙◌}
use mathlib.Core.List.{List, [], ◌∷◌, ◌++◌}
use mathlib.Core.Bool.{true, false, ◌&&◌}
use Prim.Native.Nat.{ℕ}
use lib.ListN.{length, take, drop}
use lib.Dec.{eqb}
use borrow.Author.Tests.{eq-eqb}
use Rattle.std.specs.declared.cmp.Ordering.{Ordering}
use Rattle.std.proofs.Common.{Less, Equal, Greater}
use Rattle.format.specs.Bytes.{before, lacks}
use Rattle.format.specs.Names.{compare, rises}
use Rattle.format.specs.Records.{Entry, Key}
use Rattle.format.specs.Layout.{under, Entries, entries_end, entries_more, names}
use Rattle.format_laws.proofs.Tests.{false-true, by-test, head-inv}
use Rattle.format_laws.proofs.Texts.{lacks-before}
use Rattle.format_laws.proofs.Names.{compare-append}
use Rattle.directories.specs.Names.{not_above, sorted_from, begins}

-- ---- the first component

-- the bytes before the first "/" have none, and a name that has a "/" is under them
pub component-lacks : (s : List ℕ) → lacks 47 (take (before 47 s) s) ≡ true
component-lacks s = lacks-before 47 s

pub component-under : (s : List ℕ) → lacks 47 s ≡ false → under (take (before 47 s) s) s ≡ true
unfolding before lacks under
component-under [] h = false-true (sym h)
component-under (x ∷ s) h =
    by-test (eqb x 47)
    (λ e. rw e e)
    (λ e. rw (e, eq-eqb x x refl) (component-under s (rw e at h)))

-- ---- a prefix

pub begins-split : (q s : List ℕ) → begins q s ≡ true → s ≡ q ++ drop (length q) s
unfolding begins
begins-split [] s h = refl
begins-split (x ∷ q) [] h = false-true h
begins-split (x ∷ q) (y ∷ s) h =
    let i = head-inv x y (begins q s) h in
    rw i.0 (ap (λ (t : List ℕ). y ∷ t) (begins-split q s i.1))

pub begins-append : (q r s : List ℕ) → begins (q ++ r) s ≡ (begins q s && begins r (drop (length q) s))
unfolding begins
begins-append [] r s = refl
begins-append (x ∷ q) r [] = refl
begins-append (x ∷ q) r (y ∷ s) = by-test (eqb x y) (λ e. rw e (begins-append q r s)) (λ e. rw e)

-- two names that begin alike compare as what follows does
pub compare-cut : (q s t : List ℕ) → begins q s ≡ true → begins q t ≡ true → compare (drop (length q) s) (drop (length q) t) ≡ compare s t
compare-cut q s t p r = sym (compare-append q (drop (length q) s) (drop (length q) t)) ∙ ap₂ compare (sym (begins-split q s p)) (sym (begins-split q t r))

-- ---- names that rise

-- none is below the empty one
pub first-least : (s : List ℕ) → not_above (compare [] s) ≡ true
unfolding compare
first-least [] = refl
first-least (x ∷ s) = refl

-- those of entries rise
rises-most : (o : Ordering) (s t : ℕ) → rises o s t ≡ true → not_above o ≡ true
rises-most Less s t h = refl
rises-most Equal s t h = refl
rises-most Greater s t h = false-true h

pub entries_sorted : {w v : ℕ} {k : Key} {es : List Entry} {b : List ℕ} → Entries w v k es b → sorted_from k.name (names es) ≡ true
unfolding sorted_from names
entries_sorted entries_end = refl
entries_sorted {k = k} (entries_more {e = e} is more) = rw (rises-most (compare k.name e.name) k.stage e.stage is.order) (entries_sorted more)
