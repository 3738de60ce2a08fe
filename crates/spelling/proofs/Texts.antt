-- Texts that a byte ends, decimals and entry counts: what is spelled is read, and what is read was spelled.
use mathlib.Core.Path.{◌≡◌, refl, ◌∙◌}
use mathlib.Core.List.{List, [], ◌∷◌, ◌++◌, append_assoc}
use mathlib.Core.Bool.{true, false, not, ◌&&◌}
use mathlib.Core.Option.{Option, some}
use Prim.Native.Nat.{ℕ, ◌+◌, ◌≤◌, ◌<◌}
use native.Mathlib.Omega.{arith}
use lib.ListN.{length, take, drop, length-append, length-drop}
use lib.Seq.{take-append_seam, take-add}
use lib.Dec.{eqb, leb, ltb}
use borrow.Author.Tests.{lt-ltb, leb-true, le-leb, eqb-true, ne_eqb}
use Rattle.format.specs.Bytes.{lacks, digits, decimal, value}
use Rattle.format.specs.Records.{Count, valid, invalid}
use Rattle.format.specs.Layout.{CountText}
use Rattle.format.specs.Reading.{good, need, shift, bind}
use Rattle.format.specs.Reader.{read_text, count_in, need_some}
use Rattle.format_laws.proofs.Tests.{false-true, and-inv, cond-inv}
use Rattle.format_laws.proofs.Texts.{before_at, lacks-before, take-before, text-inv}
use Rattle.format_laws.proofs.Readings.{good-inv, bind_inv, same_size, none-some, need_some-inv}

-- ---- a text that the byte b ends

pub read-text : (b n p : ℕ) (t rest : List ℕ) → lacks b t ≡ true → read_text b n p (t ++ (b ∷ rest)) ≡ good t (length t + 1)
unfolding read_text need
read-text b n p t rest e =
    let l = length-append t (b ∷ rest) in
    let fits : ltb (length t) (length (t ++ (b ∷ rest))) ≡ true = lt-ltb (length t) (length (t ++ (b ∷ rest))) (omega arith) in
    simp (before_at b t rest e, fits, take-append_seam)

pub text-read : (b n p : ℕ) (s t : List ℕ) (m : ℕ) → read_text b n p s ≡ good t m → (m ≤ length s) × (take m s ≡ t ++ (b ∷ [])) × (lacks b t ≡ true)
text-read b n p s t m q =
    text-inv b n p s t m q λ fits is size.
    rw (← is, ← size) (omega arith, take-before b s fits, lacks-before b s)

-- the same where f says what the text means
pub read-decoded : {A : Type 0} (f : List ℕ → Option A) (b n p : ℕ) (t rest : List ℕ) (a : A) → lacks b t ≡ true → f t ≡ some a
    → bind (read_text b n p (t ++ (b ∷ rest))) (λ u m. need_some (f u) n p (λ x. good x 0)) ≡ good a (length t + 1)
unfolding bind shift need_some
read-decoded f b n p t rest a h e = simp (read-text b n p t rest h, e) (same_size (omega arith))

pub decoded-read : {A : Type 0} (f : List ℕ → Option A) (b n p : ℕ) (s : List ℕ) (a : A) (m : ℕ)
    → bind (read_text b n p s) (λ u k. need_some (f u) n p (λ x. good x 0)) ≡ good a m
    → (m ≤ length s) × (t : List ℕ) × (take m s ≡ t ++ (b ∷ [])) × (f t ≡ some a)
decoded-read f b n p s a m q =
    bind_inv _ _ _ _ q λ t i j text q₁ size.
    need_some-inv _ _ _ _ _ _ q₁ λ c is q₂.
    good-inv _ _ _ _ q₂ λ same done.
    let h = text-read b n p s t i text in
    let m-is : m ≡ i = omega arith in
    rw (m-is, ← same) (h.0, t, h.1, is)

-- two parts, one after the other, that were taken from s
pub parts-fit : (m n : ℕ) (s : List ℕ) → m ≤ length s → n ≤ length (drop m s) → m + n ≤ length s
parts-fit m n s h k = let l = length-drop m s in omega arith

pub text-then : (m n : ℕ) (s t u : List ℕ) (b : ℕ) → take m s ≡ t ++ (b ∷ []) → take n (drop m s) ≡ u → take (m + n) s ≡ t ++ (b ∷ u)
text-then m n s t u b p q = take-add m n s ∙ rw (p, q) (append_assoc t (b ∷ []) u)

-- ---- decimals

digits-lack : (b : ℕ) (t : List ℕ) → b < 48 → digits t ≡ true → lacks b t ≡ true
unfolding digits lacks
digits-lack b [] h e = refl
digits-lack b (d ∷ t) h e =
    let f = and-inv (leb 48 d) _ e in
    let g = and-inv (leb d 57) _ f.1 in
    let low : 48 ≤ d = leb-true 48 d f.0 in
    rw (ne_eqb d b (λ z. omega arith)) (digits-lack b t h g.1)

decimal-digits : (t : List ℕ) → decimal t ≡ true → digits t ≡ true
unfolding decimal digits
decimal-digits [] e = refl
decimal-digits (d ∷ []) e = e
decimal-digits (d ∷ x ∷ t) e = (and-inv (not (eqb d 48)) _ e).1

not-empty {ℓ} : {X : Type ℓ} → decimal [] ≡ true → X
unfolding decimal
not-empty e = false-true e

-- no byte below '0'
pub decimal-lacks : (b : ℕ) (t : List ℕ) → b < 48 → decimal t ≡ true → lacks b t ≡ true
decimal-lacks b t h e = digits-lack b t h (decimal-digits t e)

-- ---- entry counts

minus-lacks : (b : ℕ) (u : List ℕ) → b < 45 → decimal u ≡ true → lacks b (45 ∷ u) ≡ true
unfolding lacks
minus-lacks b u h e = rw (ne_eqb 45 b (λ z. omega arith)) (decimal-lacks b u (omega arith) e)

-- no byte below '-'
pub count-lacks : (b : ℕ) (c : Count) (t : List ℕ) → b < 45 → CountText c t → lacks b t ≡ true
count-lacks b (valid n) t h e = decimal-lacks b t (omega arith) e.0
count-lacks b invalid t h e = rw e.1 (minus-lacks b e.0 h e.2)

no_minus : (d : ℕ) (t : List ℕ) → decimal (d ∷ t) ≡ true → eqb d 45 ≡ false
unfolding digits
no_minus d t e =
    let low : 48 ≤ d = leb-true 48 d (and-inv (leb 48 d) _ (decimal-digits (d ∷ t) e)).0 in
    ne_eqb d 45 (λ z. omega arith)

read-minus : (u : List ℕ) → decimal u ≡ true → 1 ≤ value u → value u ≤ 2147483648 → count_in (45 ∷ u) ≡ some invalid
unfolding count_in
read-minus u e low high = rw (e, le-leb 1 (value u) low, le-leb (value u) 2147483648 high) refl

pub read-count-text : (c : Count) (t : List ℕ) → CountText c t → count_in t ≡ some c
unfolding count_in
read-count-text (valid n) [] e = not-empty e.0
read-count-text (valid n) (d ∷ t) e =
    let small : leb n 2147483647 ≡ true = le-leb n 2147483647 e.2 in
    rw (no_minus d t e.0, e.0, e.1, small) refl
read-count-text invalid t e = rw e.1 (read-minus e.0 e.2 e.3 e.4)

pub count-text-read : (t : List ℕ) (c : Count) → count_in t ≡ some c → CountText c t
unfolding count_in
count-text-read [] c q = none-some q
count-text-read (d ∷ t) c q =
    cond-inv (eqb d 45) _ _ _ q
    (λ minus q₁.
    cond-inv (decimal t && (leb 1 (value t) && leb (value t) 2147483648)) _ _ _ q₁
    (λ e q₂.
    let f = and-inv (decimal t) _ e in
    let g = and-inv (leb 1 (value t)) _ f.1 in
    let is : invalid ≡ c = cc in
    rw (← is, eqb-true d 45 minus) (t, refl, f.0, leb-true _ _ g.0, leb-true _ _ g.1))
    λ e q₂. none-some q₂)
    λ digit q₁.
    cond-inv (decimal (d ∷ t) && leb (value (d ∷ t)) 2147483647) _ _ _ q₁
    (λ e q₂.
    let f = and-inv (decimal (d ∷ t)) _ e in
    let is : valid (value (d ∷ t)) ≡ c = cc in
    rw (← is) (f.0, refl, leb-true _ _ f.1))
    λ e q₂. none-some q₂
