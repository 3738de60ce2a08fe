-- Bytes with zeros from a place on, and what is read of an entry's name there.
use mathlib.Core.Path.{◌≡◌, refl, sym, ap, ◌∙◌}
use mathlib.Core.List.{List, [], ◌∷◌, ◌++◌, append-nil}
use mathlib.Core.Bool.{true, false, cond}
use mathlib.Core.Logic.{◌⊎◌, inl, inr, ⊎_elim}
use Prim.Native.Nat.{ℕ, zero, suc, ◌+◌, ◌-◌, ◌≤◌, ◌<◌}
use native.Mathlib.Nat.{sub-zero}
use native.Mathlib.Numerals.{unary_clauses}
use native.Mathlib.Omega.{arith}
use lib.ListN.{length, take, drop, get_or, replicate, length-append, length-take, length-drop, length-replicate, take-append-drop}
use lib.Seq.{take-nil, take_all, take-take, get_or-take, get_or-drop, length-take-le}
use lib.Dec.{eqb, leb, ltb}
use borrow.Author.Tests.{ltb-true, ltb-false, leb-true}
use Rattle.format.specs.Bytes.{Bytes, two, put_n, before, lacks}
use Rattle.format.specs.Names.{length_field, compare}
use Rattle.std.proofs.Common.{Greater}
use Rattle.format.specs.Layout.{entry_length}
use Rattle.format.specs.Reading.{good}
use Rattle.format.specs.Reader.{plain_length, read_plain, read_n, joined, read_suffix, read_packed, read_name}
use Rattle.format.specs.Tails.{zeroed_from}
use Rattle.format_laws.proofs.Lists.{drop-zeros}
use Rattle.format_laws.proofs.Tests.{false-true, and-inv, by-test, cond-inv}
use Rattle.format_laws.proofs.Names.{ok_name-length, ok_name-lacks}
use Rattle.format_laws.proofs.Texts.{before-le, lacks-before}
use Rattle.format_laws.proofs.Orders.{compare-next}
use Rattle.format_laws.proofs.Readings.{good-inv, need-inv, bind_inv}
use Rattle.spelling.proofs.Names.{PlainRead, plain-inv, read-n, n-read, name-read}

-- ---- bytes with zeros from the place c on

-- a place before c, or not
pub by_place {ℓ} : {X : Type ℓ} (i c : ℕ) → (i < c → X) → (c ≤ i → X) → X
by_place i c f g = by-test (ltb i c) (λ p. f (ltb-true i c p)) (λ p. g (ltb-false i c p))

zeroed-all : (s : List ℕ) → zeroed_from 0 s ≡ replicate (length s) 0
unfolding zeroed_from
zeroed-all s = rw sub-zero

zeroed-none : (c : ℕ) → zeroed_from c [] ≡ []
unfolding zeroed_from
zeroed-none c = let none : 0 - c ≡ 0 = omega arith in rw (take-nil {A = ℕ} c, none)

zeroed-cons : (c x : ℕ) (s : List ℕ) → zeroed_from (suc c) (x ∷ s) ≡ x ∷ zeroed_from c s
unfolding zeroed_from
zeroed-cons c x s = simp unary_clauses

pub zeroed-length : (c : ℕ) (s : List ℕ) → length (zeroed_from c s) ≡ length s
unfolding zeroed_from
zeroed-length c s =
    rw (length-append (take c s) (replicate (length s - c) 0), length-take c s, length-replicate {A = ℕ} (length s - c) 0) (omega arith)

pub zeroed-drop : (i c : ℕ) (s : List ℕ) → drop i (zeroed_from c s) ≡ zeroed_from (c - i) (drop i s)
zeroed-drop zero c s = rw sub-zero
zeroed-drop (suc i) c [] = rw (zeroed-none c, zeroed-none (c - suc i))
zeroed-drop (suc i) zero (x ∷ s) =
    let none : 0 - suc i ≡ 0 = omega arith in
    rw (zeroed-all (x ∷ s), none, zeroed-all (drop i s), length-drop i s) (drop-zeros i (length s))
zeroed-drop (suc i) (suc c) (x ∷ s) = let less : suc c - suc i ≡ c - i = omega arith in rw (zeroed-cons c x s, less) (zeroed-drop i c s)

pub zeroed-past : (i c : ℕ) (s : List ℕ) → c ≤ i → drop i (zeroed_from c s) ≡ replicate (length s - i) 0
zeroed-past i c s h =
    let none : c - i ≡ 0 = omega arith in
    rw (zeroed-drop i c s, none, zeroed-all (drop i s), length-drop i s)

pub zeroed-take : (i c : ℕ) (s : List ℕ) → i ≤ c → take i (zeroed_from c s) ≡ take i s
zeroed-take zero c s h = refl
zeroed-take (suc i) c [] h = rw (zeroed-none c)
zeroed-take (suc i) zero (x ∷ s) h = absurd (omega arith)
zeroed-take (suc i) (suc c) (x ∷ s) h = rw (zeroed-cons c x s, zeroed-take i c s (omega arith))

zeroed_first : (x : ℕ) (s : List ℕ) → zeroed_from 0 (x ∷ s) ≡ 0 ∷ zeroed_from 0 s
zeroed_first x s = rw (zeroed-all (x ∷ s), zeroed-all s) refl

pub zeroed-part : (i c : ℕ) (s : List ℕ) → take i (zeroed_from c s) ≡ zeroed_from c (take i s)
zeroed-part zero c s = sym (zeroed-none c)
zeroed-part (suc i) c [] = rw (zeroed-none c)
zeroed-part (suc i) zero (x ∷ s) = rw (zeroed_first x s, zeroed_first x (take i s), zeroed-part i 0 s)
zeroed-part (suc i) (suc c) (x ∷ s) = rw (zeroed-cons c x s, zeroed-cons c x (take i s), zeroed-part i c s)

-- the byte at i
pub get_or-zeros : (n i : ℕ) → get_or {A = ℕ} (replicate n 0) i 0 ≡ 0
get_or-zeros zero i = refl
get_or-zeros (suc n) zero = refl
get_or-zeros (suc n) (suc i) = get_or-zeros n i

pub zeroed-before : (i c : ℕ) (s : List ℕ) → i < c → get_or (zeroed_from c s) i 0 ≡ get_or s i 0
zeroed-before i c s h = sym (get_or-take c (zeroed_from c s) i 0 h) ∙ rw (zeroed-take c c s (omega arith)) (get_or-take c s i 0 h)

pub zeroed-from : (i c : ℕ) (s : List ℕ) → c ≤ i → get_or (zeroed_from c s) i 0 ≡ 0
zeroed-from i c s h =
    let here : i + 0 ≡ i = omega arith in
    let first : get_or (drop i (zeroed_from c s)) 0 0 ≡ 0 = rw (zeroed-past i c s h) (get_or-zeros (length s - i) 0) in
    rw (get_or-drop i (zeroed_from c s) 0 0, here) at first

pub zeroed-bytes : (c : ℕ) (s : List ℕ) → Bytes s → Bytes (zeroed_from c s)
zeroed-bytes c s b i = by_place i c (λ h. rw (zeroed-before i c s h) (b i)) (λ h. rw (zeroed-from i c s h) (omega arith))

-- bytes that are not NUL were not made zeros
unzeroed : (n c : ℕ) (s : List ℕ) → n ≤ length s → lacks 0 (take n (zeroed_from c s)) ≡ true → n ≤ c
unfolding lacks
unzeroed zero c s h l = omega arith
unzeroed (suc n) c [] h l = absurd (omega arith)
unzeroed (suc n) zero (x ∷ s) h l = false-true (rw (zeroed-all (x ∷ s)) at l)
unzeroed (suc n) (suc c) (x ∷ s) h l =
    let tail : cond (eqb x 0) false (lacks 0 (take n (zeroed_from c s))) ≡ true = rw (zeroed-cons c x s) at l in
    cond-inv (eqb x 0) _ _ _ tail (λ p q. false-true q) (λ p q. omega (arith, unzeroed n c s (omega arith) q))

-- the first NUL comes no later, and not after the place
before-place : (c : ℕ) (s : List ℕ) → before 0 (zeroed_from c s) ≤ c
before-place c s =
    let t : List ℕ = zeroed_from c s in
    unzeroed (before 0 t) c s (omega (arith, before-le 0 t, zeroed-length c s)) (lacks-before 0 t)

before-zeroed : (c : ℕ) (s : List ℕ) → before 0 (zeroed_from c s) ≤ before 0 s
unfolding before
before-zeroed c [] = rw (zeroed-none c) (omega arith)
before-zeroed zero (x ∷ s) = rw (zeroed-all (x ∷ s)) (omega arith)
before-zeroed (suc c) (x ∷ s) =
    rw (zeroed-cons c x s) (by-test (eqb x 0) (λ p. rw p (omega arith)) (λ p. rw p (omega (arith, before-zeroed c s))))

-- ---- the plain name, f being the bytes before it

-- a name that lost at most seven bytes: only where its length field does not count it
pub record Cut (name less : List ℕ) : Type 0 where
  pub kept : ℕ
  pub uncounted : 4095 ≤ kept
  pub fewer : kept < length name
  pub most : length name ≤ kept + 7
  pub is : less ≡ take kept name

-- the same length, or a smaller one that the field does not count
plain_length-zeroed :
    (field c : ℕ) (s : List ℕ) → let n : ℕ = plain_length field (zeroed_from c s) in
    (n ≤ plain_length field s) × (n < plain_length field s → 4095 ≤ field)
unfolding plain_length
plain_length-zeroed field c s =
    by-test (ltb field 4095)
    (λ small. rw small (omega arith))
    (λ large. rw large (before-zeroed c s, λ _. ltb-false field 4095 large))

-- as many bytes for a name as for a shorter one: at most seven differ
entry_length-zeroed :
    (f n l total : ℕ) → n ≤ l → entry_length f n - f ≡ total → entry_length f l ≤ f + total → (entry_length f l - f ≡ total) × (l ≤ n + 7)
unfolding entry_length
entry_length-zeroed f n l total less all fits = omega arith

-- its first byte is not NUL
plain-place : (f p field c : ℕ) (s less : List ℕ) (m : ℕ) → read_plain f p field (zeroed_from c s) ≡ good less m → 0 < c
plain-place f p field c s less m q =
    let b : PlainRead f field (zeroed_from c s) less m (plain_length field (zeroed_from c s)) = plain-inv f p field (zeroed_from c s) less m q in
    let l : ℕ = plain_length field (zeroed_from c s) in
    let some : 1 ≤ l = omega (arith, (ok_name-length (take l (zeroed_from c s)) b.ok).0, length-take-le l (zeroed_from c s) (omega (arith, b.within))) in
    omega (arith, unzeroed l c s (omega (arith, zeroed-length c s, b.within)) (ok_name-lacks (take l (zeroed_from c s)) b.ok))

plain-zeroed :
    (f p field c : ℕ) (s name less : List ℕ) (m : ℕ) →
    read_plain f p field s ≡ good name m →
    read_plain f p field (zeroed_from c s) ≡ good less (length s) →
    (m ≡ length s) × ((less ≡ name) ⊎ Cut name less)
unfolding length_field
plain-zeroed f p field c s name less m e q =
    let n : ℕ = plain_length field s in
    let l : ℕ = plain_length field (zeroed_from c s) in
    let a : PlainRead f field s name m n = plain-inv f p field s name m e in
    let b : PlainRead f field (zeroed_from c s) less (length s) l = plain-inv f p field (zeroed_from c s) less (length s) q in
    let long : length (zeroed_from c s) ≡ length s = zeroed-length c s in
    let (no_more, uncounted) = plain_length-zeroed field c s in
    let (size, seven) = entry_length-zeroed f l n (length s) no_more b.size a.fits in
    let place : l ≤ c = unzeroed l c s (omega arith) (ok_name-lacks (take l (zeroed_from c s)) b.ok) in
    let is : less ≡ take l s = sym b.name_is ∙ zeroed-take l c s place in
    let count : length (take n s) ≡ n = length-take-le n s (omega arith) in (
      sym a.size ∙ size,
      by_place l n
          (λ fewer.
          let many : 4095 ≤ field = uncounted fewer in
          inr
          (rw (← a.name_is)
          (record { kept = l; uncounted = omega arith; fewer = omega arith; most = omega arith; is = is ∙ sym (take-take l n s no_more) })))
          λ enough. let same : l ≡ n = omega arith in inl (is ∙ rw same a.name_is),
    )

-- ---- the packed name

number_size : (p most : ℕ) (s : List ℕ) (n i : ℕ) → read_n p most s ≡ good n i → (1 ≤ i) × (i ≤ 2) × (n ≤ most) × (n ≡ 0 → i ≡ 1)
unfolding read_n two
number_size p most s n i e =
    need-inv _ _ _ _ _ _ e λ _ e₁.
    cond-inv (ltb (get_or s 0 0) 128) _ _ _ e₁
    (λ _ e₂. need-inv _ _ _ _ _ _ e₂ λ within e₃. good-inv _ _ _ _ e₃ λ n-is i-is. omega (arith, leb-true))
    (λ _ e₂.
    need-inv _ _ _ _ _ _ e₂ λ _ e₃.
    need-inv _ _ _ _ _ _ e₃ λ tests e₄.
    let (_, within) = and-inv (ltb (get_or s 1 0) 128) (leb (two (get_or s 0 0) (get_or s 1 0)) most) tests in
    good-inv _ _ _ _ e₄ λ n-is i-is. omega (arith, leb-true))

-- the number, where it was not reached; and where nothing is left of it
number-zeroed : (p most c : ℕ) (s : List ℕ) (n i : ℕ) → i ≤ c → read_n p most s ≡ good n i → read_n p most (zeroed_from c s) ≡ good n i
number-zeroed p most c s n i h e =
    let (short, within, bytes) = n-read p most s n i e in
    let t : List ℕ = zeroed_from c s in
    let whole : t ≡ put_n n ++ drop i t = sym (take-append-drop i t) ∙ rw (zeroed-take i c s h, bytes) refl in
    let size : length (put_n n) ≡ i = rw bytes at (length-take-le i s short) in
    rw whole (read-n p most n (drop i t) within ∙ rw size refl)

number-none : (p most c : ℕ) (s : List ℕ) (n i : ℕ) → c ≡ 0 → read_n p most (zeroed_from c s) ≡ good n i → (n ≡ 0) × (i ≡ 1)
unfolding read_n
number-none p most c s n i h e =
    let first : get_or (zeroed_from c s) 0 0 ≡ 0 = zeroed-from 0 c s (omega arith) in
    need-inv _ _ _ _ _ _ (rw first at e) λ _ e₁.
    need-inv _ _ _ _ _ _ e₁ λ _ e₂.
    good-inv _ _ _ _ e₂ λ n-is i-is. (sym n-is, sym i-is)

suffix-inv :
    (p : ℕ) (previous : List ℕ) (field n : ℕ) (s name : List ℕ) (m : ℕ) → read_suffix p previous field n s ≡ good name m →
    (before 0 s < length s) × (joined previous n s ≡ name) × (before 0 s + 1 ≡ m)
unfolding read_suffix
suffix-inv p previous field n s name m e =
    need-inv _ _ _ _ _ _ e λ within e₁.
    need-inv _ _ _ _ _ _ e₁ λ _ e₂.
    good-inv _ _ _ _ e₂ λ name_is m-is. (ltb-true _ _ within, name_is, m-is)

-- a NUL that is the last byte ends the same bytes
suffix-zeroed :
    (previous : List ℕ) (n c : ℕ) (s : List ℕ) → before 0 (zeroed_from c s) + 1 ≡ length s → before 0 s < length s →
    (before 0 s + 1 ≡ length s) × (joined previous n (zeroed_from c s) ≡ joined previous n s)
unfolding joined
suffix-zeroed previous n c s last within =
    let same : before 0 (zeroed_from c s) ≡ before 0 s = omega (arith, before-zeroed c s) in
    (omega arith, rw (zeroed-take (before 0 (zeroed_from c s)) c s (before-place c s), same) refl)

-- no byte before the NUL: a beginning of the name before, which is above it
joined-none : (previous : List ℕ) (n : ℕ) (s : List ℕ) → before 0 s ≡ 0 → joined previous n s ≡ take (length previous - n) previous
unfolding joined
joined-none previous n s h = rw (h, append-nil (take (length previous - n) previous))

compare-beginning : (s : List ℕ) (n : ℕ) → n < length s → compare s (take n s) ≡ Greater
unfolding compare
compare-beginning [] n h = absurd (omega arith)
compare-beginning (x ∷ s) zero h = refl
compare-beginning (x ∷ s) (suc n) h = compare-next x x s (take n s) refl ∙ compare-beginning s n (omega arith)

packed-zeroed :
    (p : ℕ) (previous : List ℕ) (field other c : ℕ) (s name less : List ℕ) (m : ℕ) →
    (compare previous name ≡ Greater → ⊥) →
    read_packed p previous field s ≡ good name m →
    read_packed p previous other (zeroed_from c s) ≡ good less (length s) →
    (m ≡ length s) × (less ≡ name) × (c ≡ 0 → name ≡ previous)
unfolding read_packed
packed-zeroed p previous field other c s name less m rising e q =
    let t : List ℕ = zeroed_from c s in
    bind_inv _ _ _ _ e λ n i j e₁ e₂ m-is.
    bind_inv _ _ _ _ q λ l h k q₁ q₂ all.
    let (within, name_is, j-is) = suffix-inv p previous field n (drop i s) name j e₂ in
    let (_, less-is, k-is) = suffix-inv p previous other l (drop h t) less k q₂ in
    let (i-some, i-few, n-most, i-one) = number_size p (length previous) s n i e₁ in
    let (h-some, h-few, _, _) = number_size p (length previous) t l h q₁ in
    let after : drop h t ≡ zeroed_from (c - h) (drop h s) = zeroed-drop h c s in
    by_place c i
    (λ reached.
    let least : h ≤ c + 1 = by_place 0 c (λ some. omega arith) (λ none. omega (arith, (number-none p (length previous) c s l h (omega arith) q₁).1)) in
    let ends : before 0 (drop h t) ≡ 0 = rw after (omega (arith, before-place (c - h) (drop h s))) in
    let empty : before 0 (drop i s) ≡ 0 = omega (arith, length-drop i s) in
    let is : name ≡ take (length previous - n) previous = sym name_is ∙ joined-none previous n (drop i s) empty in
    let none : n ≡ 0 =
    by_place 0 n (λ some. absurd (rising (rw is (compare-beginning previous (length previous - n) (omega arith))))) (λ z. omega arith)
    in
    let one : i ≡ 1 = i-one none in
    let start : c ≡ 0 = omega arith in
    let also : l ≡ n = omega (arith, (number-none p (length previous) c s l h start q₁).0) in
    (omega arith, sym less-is ∙ joined-none previous l (drop h t) ends ∙ rw also (sym is), λ _. is ∙ rw none (take_all (length previous - 0) previous (omega arith))))
    λ later.
    let number : read_n p (length previous) t ≡ good n i = number-zeroed p (length previous) c s n i later e₁ in
    let same-n : l ≡ n = cc in
    let same-i : h ≡ i = cc in
    let here : drop h t ≡ zeroed_from (c - i) (drop i s) = rw same-i (zeroed-drop i c s) in
    let last : before 0 (zeroed_from (c - i) (drop i s)) + 1 ≡ length (drop i s) = omega (arith, length-drop i s, ap (before 0) here) in
    let (ends, same) = suffix-zeroed previous n (c - i) (drop i s) last within in
    (omega (arith, length-drop i s), sym less-is ∙ rw (here, same-n) (same ∙ name_is), λ none. absurd (omega arith))

-- ---- the name, by version

-- the same, and from its first byte on zeros only if it is the one before; or cut
pub name-zeroed :
    (v f p : ℕ) (previous : List ℕ) (field other c : ℕ) (s name less : List ℕ) (m : ℕ) →
    (compare previous name ≡ Greater → ⊥) →
    (0 < c → other ≡ field) →
    read_name v f p previous field s ≡ good name m →
    read_name v f p previous other (zeroed_from c s) ≡ good less (length s) →
    (m ≡ length s)
    × (other ≡ field)
    × (((less ≡ name) × (c ≡ 0 → (eqb v 4 ≡ true) × (name ≡ previous))) ⊎ ((eqb v 4 ≡ false) × (0 < c) × Cut name less))
unfolding read_name
name-zeroed v f p previous field other c s name less m rising fields e q =
    by-test (eqb v 4)
    (λ four.
    let (size, same, first) = packed-zeroed p previous field other c s name less m rising (rw four at e) (rw four at q) in
    let (_, _, _, field_is) = name-read v f p previous field s name m e in
    let (_, _, _, other-is) = name-read v f p previous other (zeroed_from c s) less (length s) q in
    (size, other-is ∙ rw same (sym field_is), inl (same, λ none. (four, first none))))
    (λ plain.
    let some : 0 < c = plain-place f p other c s less (length s) (rw plain at q) in
    let (size, kept) = plain-zeroed f p field c s name less m (rw plain at e) (rw (plain, fields some) at q) in
    (size, fields some, ⊎_elim (λ same. inl (same, λ none. absurd (omega arith))) (λ cut. inr (plain, some, cut)) kept))
