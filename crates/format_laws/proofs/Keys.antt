-- Laws of the order of keys, which is total and transitive: by name, then by stage; and of what may follow in a file.
use mathlib.Core.Path.{◌≡◌, refl, sym, ap, ◌∙◌}
use mathlib.Core.List.{List, [], ◌∷◌}
use mathlib.Core.Bool.{Bool, true, false, not, ◌&&◌, ◌||◌}
use Prim.Native.Nat.{ℕ, ◌≤◌, ◌<◌, min}
use native.Mathlib.Omega.{arith}
use lib.ListN.{length}
use lib.Dec.{eqb, ltb}
use borrow.Author.Tests.{ltb-true, ltb-false, lt-ltb, le-ltb, eqb-true, eqb-false, eq-eqb, ne_eqb}
use Rattle.std.specs.declared.cmp.Ordering.{Ordering}
use Rattle.std.proofs.Common.{Less, Equal, Greater}
use Rattle.format.specs.Bytes.{eq_list}
use Rattle.format.specs.Names.{ok_name, compare, rises, precedes}
use Rattle.format.specs.Records.{Key, start}
use Rattle.format.specs.Requests.{goes_before, same_key, mixes}
use Rattle.format_laws.proofs.Tests.{false-true, by-test, and-inv, and-inv₃}
use Rattle.format_laws.proofs.Lists.{eq_list-true, eq-eq_list}
use Rattle.format_laws.proofs.Names.{ok_name-length}
use Rattle.format_laws.proofs.Orders.{through, names-through, compare_self, compare_same, other-orders, opposite, compare-opposite}

precedes-most : (o : Ordering) (s t : ℕ) → precedes o s t ≡ true → o ≡ Greater → ⊥
precedes-most Less s t h e = let z : ◌≡◌ {A = ℕ} 0 1 = cc in omega arith
precedes-most Equal s t h e = let z : ◌≡◌ {A = ℕ} 0 1 = cc in omega arith
precedes-most Greater s t h e = false-true h

precedes-through : (o p : Ordering) (s t u : ℕ) → precedes o s t ≡ true → precedes p t u ≡ true → precedes (through o p) s u ≡ true
unfolding through
precedes-through Less p s t u h k = refl
precedes-through Equal Less s t u h k = refl
precedes-through Equal Equal s t u h k = lt-ltb s u (omega (arith, ltb-true s t h, ltb-true t u k))
precedes-through Equal Greater s t u h k = false-true k
precedes-through Greater p s t u h k = false-true h

-- an entry's name is not above that of one that it goes before
pub before-name : (a b : Key) → goes_before a b ≡ true → compare a.name b.name ≡ Greater → ⊥
unfolding goes_before
before-name a b h = precedes-most _ _ _ h

pub before-trans : (a b c : Key) → goes_before a b ≡ true → goes_before b c ≡ true → goes_before a c ≡ true
unfolding goes_before
before-trans a b c h k =
    let t = names-through a.name b.name c.name (precedes-most _ _ _ h) (precedes-most _ _ _ k) in
    rw t.order (precedes-through (compare a.name b.name) (compare b.name c.name) a.stage b.stage c.stage h k)

before_self : (k : Key) → goes_before k k ≡ false
unfolding goes_before
before_self k = let l : k.stage ≤ k.stage = omega arith in rw (compare_self k.name) (le-ltb k.stage k.stage l)

pub same_key_lem : (a b : Key) → same_key a b ≡ true → a ≡ b
unfolding same_key
same_key_lem a b e =
    let (names, stages) = and-inv (eq_list a.name b.name) (eqb a.stage b.stage) e in
    let name : a.name ≡ b.name = eq_list-true a.name b.name names in
    let stage : a.stage ≡ b.stage = eqb-true a.stage b.stage stages in
    λ i. record { name = name i; stage = stage i }

-- what goes before a key has another
pub before-other : (a k : Key) → goes_before a k ≡ true → same_key a k ≡ false
before-other a k h =
    by-test (same_key a k)
    (λ e. false-true (sym (before_self k) ∙ ap (λ (x : Key). goes_before x k) (sym (same_key_lem a k e)) ∙ h))
    (λ e. e)

-- where the names are the same, the stages decide
total-by : (o : Ordering) (i j : ℕ) → precedes o i j ≡ false → (o ≡ Equal → i ≡ j → ⊥) → precedes (opposite o) j i ≡ true
total-by Less i j h other = false-true (sym h)
total-by Equal i j h other = let differ : i ≡ j → ⊥ = other refl in lt-ltb j i (omega (arith, ltb-false i j h))
total-by Greater i j h other = refl

before-total : (a b : Key) → goes_before a b ≡ false → same_key a b ≡ false → goes_before b a ≡ true
unfolding goes_before same_key
before-total a b h l =
    rw (compare-opposite a.name b.name)
    (total-by (compare a.name b.name) a.stage b.stage h
    (λ e stages. false-true (sym l ∙ both (compare_same a.name b.name e) stages)))
  where
    both : a.name ≡ b.name → a.stage ≡ b.stage → (eq_list a.name b.name && eqb a.stage b.stage) ≡ true
    both e f = rw (eq-eq_list a.name b.name e, eq-eqb a.stage b.stage f) refl

-- ---- what may follow in a file

-- an entry of the key b after one of the key a
abbrev pub may_follow : Key → Key → Bool
may_follow a b = rises (compare a.name b.name) a.stage b.stage

rises-inv {ℓ} : {X : Type ℓ} (o : Ordering) (s t : ℕ) → rises o s t ≡ true → (o ≡ Less → X) → (o ≡ Equal → 0 < s → s < t → X) → X
rises-inv Less s t h below same = below refl
rises-inv Equal s t h below same = let i = and-inv (ltb 0 s) (ltb s t) h in same refl (ltb-true 0 s i.0) (ltb-true s t i.1)
rises-inv Greater s t h below same = false-true h

rises-same : (s t : ℕ) → 0 < s → s < t → rises Equal s t ≡ true
rises-same s t some less = rw (lt-ltb 0 s some, lt-ltb s t less) refl

-- it comes after it in the order of keys
pub follow-before : (a b : Key) → may_follow a b ≡ true → goes_before a b ≡ true
unfolding goes_before
follow-before a b h =
    rises-inv (compare a.name b.name) a.stage b.stage h
    (λ e. rw e refl)
    (λ e some less. rw e (lt-ltb a.stage b.stage less))

rises-through : (o p : Ordering) (s t u : ℕ) → rises o s t ≡ true → rises p t u ≡ true → rises (through o p) s u ≡ true
unfolding through
rises-through Less p s t u h k = refl
rises-through Equal Less s t u h k = refl
rises-through Equal Equal s t u h k =
    let (some, less) = and-inv (ltb 0 s) (ltb s t) h in
    let more = (and-inv (ltb 0 t) (ltb t u) k).1 in
    rises-same s u (ltb-true 0 s some) (omega (arith, ltb-true s t less, ltb-true t u more))
rises-through Equal Greater s t u h k = false-true k
rises-through Greater p s t u h k = false-true h

pub follow-trans : (a b c : Key) → may_follow a b ≡ true → may_follow b c ≡ true → may_follow a c ≡ true
follow-trans a b c h k =
    let t = names-through a.name b.name c.name (before-name a b (follow-before a b h)) (before-name b c (follow-before b c k)) in
    rw t.order (rises-through (compare a.name b.name) (compare b.name c.name) a.stage b.stage c.stage h k)

-- ---- stage 0 and another stage of one name

-- the smaller of the two stages is 0
mixes-inv : (a b : Key) → mixes a b ≡ true → (a.name ≡ b.name) × (a.stage ≡ b.stage → ⊥) × (min a.stage b.stage ≡ 0)
unfolding mixes
mixes-inv a b h =
    let (names, differ, zero) = and-inv₃ (eq_list a.name b.name) (not (eqb a.stage b.stage)) (eqb a.stage 0 || eqb b.stage 0) h in (
      eq_list-true a.name b.name names,
      (λ e. false-true (sym (ap not (eq-eqb a.stage b.stage e)) ∙ differ)),
      by-test (eqb a.stage 0)
          (λ p. let z : a.stage ≡ 0 = eqb-true a.stage 0 p in omega arith)
          (λ p. let z : b.stage ≡ 0 = eqb-true b.stage 0 (rw p at zero) in omega arith),
    )

mixes-of : (a b : Key) → a.name ≡ b.name → (a.stage ≡ b.stage → ⊥) → min a.stage b.stage ≡ 0 → mixes a b ≡ true
unfolding mixes
mixes-of a b names differ zero =
    rw (eq-eq_list a.name b.name names, ne_eqb a.stage b.stage differ)
    (by-test (eqb a.stage 0)
    (λ p. rw p refl)
    (λ p. let some : a.stage ≡ 0 → ⊥ = eqb-false a.stage 0 p in rw p (eq-eqb b.stage 0 (omega arith))))

pub mixes-turned : (a b : Key) → mixes a b ≡ false → mixes b a ≡ false
mixes-turned a b h =
    by-test (mixes b a)
    (λ p.
    let (names, differ, zero) = mixes-inv b a p in
    false-true (sym h ∙ mixes-of a b (sym names) (λ e. differ (sym e)) (omega arith)))
    (λ p. p)

-- of two keys in order the later may follow, unless they mix
rises_by : (o : Ordering) (s t : ℕ) → precedes o s t ≡ true → (o ≡ Equal → s < t → 0 < s) → rises o s t ≡ true
rises_by Less s t h some = refl
rises_by Equal s t h some = let less : s < t = ltb-true s t h in rises-same s t (some refl less) less
rises_by Greater s t h some = false-true h

pub follow-by : (a b : Key) → goes_before a b ≡ true → mixes a b ≡ false → may_follow a b ≡ true
unfolding goes_before
follow-by a b h apart =
    rises_by (compare a.name b.name) a.stage b.stage h λ same less.
    by-test (ltb 0 a.stage)
    (λ p. ltb-true 0 a.stage p)
    (λ p.
    let zero : a.stage ≤ 0 = ltb-false 0 a.stage p in
    false-true (sym apart ∙ mixes-of a b (compare_same a.name b.name same) (λ e. omega arith) (omega arith)))

-- the same of the key that is not before
pub follow-after : (a b : Key) → goes_before a b ≡ false → same_key a b ≡ false → mixes a b ≡ false → may_follow b a ≡ true
follow-after a b h other apart = follow-by b a (before-total a b h other) (mixes-turned a b apart)

-- what may follow does not mix
pub follow-apart : (a b : Key) → may_follow a b ≡ true → mixes a b ≡ false
follow-apart a b h =
    by-test (mixes a b)
    (λ p.
    let (names, differ, zero) = mixes-inv a b p in
    rises-inv (compare a.name b.name) a.stage b.stage h
    (λ below. other-orders below (rw names (compare_self b.name)))
    (λ same some less. absurd (omega arith)))
    (λ p. p)

pub mixes-self : (a : Key) → mixes a a ≡ false
mixes-self a = by-test (mixes a a) (λ p. absurd ((mixes-inv a a p).1 refl)) (λ p. p)

-- where an entry x is not before the key k and does not mix with it, the next one does not either
pub late-apart : (x y k : Key) → may_follow x y ≡ true → goes_before x k ≡ false → mixes x k ≡ false → mixes y k ≡ false
unfolding goes_before
late-apart x y k h late apart =
    by-test (mixes y k)
    (λ p.
    let (names, differ, zero) = mixes-inv y k p in
    rises-inv (compare x.name y.name) x.stage y.stage h
    (λ below. false-true (sym late ∙ rw (← names, below) refl))
    (λ same some less. false-true (sym apart ∙ mixes-of x k (compare_same x.name y.name same ∙ names) (λ e. omega arith) (omega arith))))
    (λ p. p)

-- ---- the first entry

-- every entry is after the empty name
start-by : (s : List ℕ) (stage : ℕ) → 1 ≤ length s → rises (compare [] s) 0 stage ≡ true
unfolding compare
start-by [] stage h = absurd (omega arith)
start-by (x ∷ s) stage h = refl

pub start-follow : (k : Key) → ok_name k.name ≡ true → may_follow start k ≡ true
start-follow k h = start-by k.name k.stage (ok_name-length k.name h).0
