-- Laws of texts: the bytes before the first b, and the reading of a text that the byte b ends.
use mathlib.Core.Path.{◌≡◌, refl, sym, ap, ◌∙◌}
use mathlib.Core.List.{List, [], ◌∷◌, ◌++◌}
use mathlib.Core.Bool.{Bool, true, false}
use Prim.Native.Nat.{ℕ, suc, ◌+◌, ◌-◌, ◌≤◌, ◌<◌}
use native.Mathlib.Omega.{arith}
use lib.ListN.{length, take, drop, length-drop}
use lib.Seq.{length-take-le, take-append-add, drop-append-add}
use lib.Dec.{eqb}
use borrow.Author.Tests.{eqb-true, eq-eqb, ne_eqb, ltb-true, lt-ltb, le-ltb}
use Rattle.format.specs.Bytes.{before, lacks}
use Rattle.format.specs.Reading.{bad, good, need}
use Rattle.format.specs.Reader.{read_text}
use Rattle.format_laws.proofs.Tests.{false-true, cond-inv, by_cond}
use Rattle.format_laws.proofs.Readings.{good-inv, need-inv}

-- ---- the bytes before the first b

pub before_at : (b : ℕ) (s r : List ℕ) → lacks b s ≡ true → before b (s ++ b ∷ r) ≡ length s
unfolding before lacks
before_at b [] r h = rw (eq-eqb b b refl) refl
before_at b (x ∷ s) r h =
    cond-inv (eqb x b) false (lacks b s) true h
    (λ p q. false-true q)
    (λ p q. rw (p, before_at b s r q) refl)

pub lacks-before : (b : ℕ) (s : List ℕ) → lacks b (take (before b s) s) ≡ true
unfolding before lacks
lacks-before b [] = refl
lacks-before b (x ∷ s) =
    by_cond (λ n. lacks b (take n (x ∷ s)) ≡ true) (eqb x b) 0 (suc (before b s)) (λ p. refl) (λ p. rw p (lacks-before b s))

pub before-le : (b : ℕ) (s : List ℕ) → before b s ≤ length s
unfolding before
before-le b [] = omega arith
before-le b (x ∷ s) = by_cond (λ n. n ≤ suc (length s)) (eqb x b) 0 (suc (before b s)) (λ p. omega arith) (λ p. omega (arith, before-le b s))

-- the first b and what is on either side of it
pub split-before : (b : ℕ) (s : List ℕ) → before b s < length s → s ≡ take (before b s) s ++ b ∷ drop (suc (before b s)) s
unfolding before
split-before b [] h = absurd (omega arith)
split-before b (x ∷ s) h =
    by_cond (λ n. n < suc (length s) → x ∷ s ≡ take n (x ∷ s) ++ b ∷ drop n s) (eqb x b) 0 (suc (before b s))
    (λ p l. rw (eqb-true x b p) refl)
    (λ p l. ap (λ (t : List ℕ). x ∷ t) (split-before b s (omega arith)))
    h

pub take-before : (b : ℕ) (s : List ℕ) → before b s < length s → take (before b s + 1) s ≡ take (before b s) s ++ (b ∷ [])
take-before b s h =
    let front : List ℕ = take (before b s) s in
    let back : List ℕ = drop (suc (before b s)) s in
    let size : length front ≡ before b s = length-take-le (before b s) s (omega arith) in
    ap (take (before b s + 1)) (split-before b s h) ∙ ap (λ (n : ℕ). take (n + 1) (front ++ b ∷ back)) (sym size) ∙ take-append-add front (b ∷ back) 1

-- what follows a text and the byte that ends it
pub after_text : (s : List ℕ) (b : ℕ) (r : List ℕ) → drop (length s + 1) (s ++ b ∷ r) ≡ r
after_text s b r = drop-append-add s (b ∷ r) 1

pub lacks-right : (b : ℕ) (s t : List ℕ) → lacks b (s ++ t) ≡ true → lacks b t ≡ true
unfolding lacks
lacks-right b [] t h = h
lacks-right b (x ∷ s) t h = cond-inv (eqb x b) false (lacks b (s ++ t)) true h (λ p q. false-true q) (λ p q. lacks-right b s t q)

-- ---- whether a byte is lacking shows in how many bytes are before it

module _ (b : ℕ) where
  pub lacks-all : (s : List ℕ) → lacks b s ≡ true → before b s ≡ length s
  unfolding lacks before
  lacks-all [] e = refl
  lacks-all (x ∷ s) e = cond-inv (eqb x b) false (lacks b s) true e (λ p q. false-true q) (λ p q. rw p (ap suc (lacks-all s q)))

  pub lacks-some : (s : List ℕ) → lacks b s ≡ false → before b s < length s
  unfolding lacks before
  lacks-some [] e = false-true (sym e)
  lacks-some (x ∷ s) e = cond-inv (eqb x b) false (lacks b s) false e (λ p q. rw p (omega arith)) (λ p q. rw p (omega (arith, lacks-some s q)))

  lacks-by : (s : List ℕ) (t : Bool) → lacks b s ≡ t → eqb (before b s) (length s) ≡ t
  lacks-by s true e = eq-eqb _ _ (lacks-all s e)
  lacks-by s false e = ne_eqb _ _ (λ (q : before b s ≡ length s). omega (arith, lacks-some s e))

  pub lacks-end : (s : List ℕ) → eqb (before b s) (length s) ≡ lacks b s
  lacks-end s = lacks-by s (lacks b s) refl

-- ---- the reading of a text

pub text-inv {ℓ} : {X : Type ℓ} (b n p : ℕ) (s t : List ℕ) (m : ℕ) → read_text b n p s ≡ good t m
    → (before b s < length s → take (before b s) s ≡ t → before b s + 1 ≡ m → X) → X
unfolding read_text
text-inv b n p s t m e f =
    need-inv _ _ _ _ _ _ e λ fits e₁.
    good-inv _ _ _ _ e₁ λ is size.
    f (ltb-true _ _ fits) is size

-- from the place at on; e is the place of the first byte b there
module _ (b n p : ℕ) (d : List ℕ) (at e : ℕ) (is : e ≡ at + before b (drop at d)) where
  pub text-none : e ≡ length d → read_text b n p (drop at d) ≡ bad n p
  unfolding read_text need
  text-none h =
      let l : length (drop at d) ≤ before b (drop at d) = simp length-drop (omega arith) in
      rw (le-ltb _ _ l)

  pub text-some : e < length d → read_text b n p (drop at d) ≡ good (take (e - at) (drop at d)) (e + 1 - at)
  unfolding read_text need
  text-some h =
      let l : before b (drop at d) < length (drop at d) = simp length-drop (omega arith) in
      let k : e - at ≡ before b (drop at d) = omega arith in
      let m : e + 1 - at ≡ before b (drop at d) + 1 = omega arith in
      rw (lt-ltb _ _ l, k, m)
