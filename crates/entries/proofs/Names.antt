-- Laws of an entry's name, as its bytes say it.
use mathlib.Core.Path.{◌≡◌, refl, sym, ap, ◌∙◌}
use mathlib.Core.List.{List, [], ◌∷◌}
use mathlib.Core.Bool.{Bool, true, false, cond, ◌&&◌}
use Prim.Native.Nat.{ℕ, zero, suc, ◌+◌, ◌-◌, ◌*◌, ◌≤◌, ◌<◌}
use native.Mathlib.Nat.{add-zero, add-sub_cancel_left}
use native.Mathlib.Omega.{arith}
use lib.ListN.{length, take, drop, get_or, length-drop}
use lib.Seq.{get_or-drop, length-take-le, take-take}
use lib.Dec.{eqb, leb, ltb}
use borrow.Author.Tests.{eq-eqb, ne_eqb, lt-ltb, le-ltb, le-leb, lt-leb, ltb-true, leb-true}
use Rattle.std.specs.Prelude.{Result, Ok, Err}
use Rattle.format.specs.declared.Refusal.TheVariants as R
use Rattle.format.specs.Bytes.{two, zeros}
use Rattle.format.specs.Names.{ok_name, length_field}
use Rattle.format.specs.Layout.{entry_length}
use Rattle.format.specs.Reading.{Read, bad, good, need}
use Rattle.format.specs.Reader.{read_n, plain_length, read_plain}
use Rattle.format_laws.proofs.Tests.{and-inv}
use Rattle.format_laws.proofs.Readings.{good-inv, need-inv}
use Rattle.format_laws.proofs.Lists.{part-inside}
use Rattle.format_laws.proofs.Names.{ok_name-length}
use Rattle.fields.specs.Begun.{Begun}
use Rattle.entries.specs.declared.Text.{Text}
use Rattle.entries.specs.declared.Number.{Number}
use Rattle.entries.specs.Answers.{text_of, NamePassed, n_of}
use Rattle.entries.proofs.Reading.{AnswerKept, kept-need, kept-cond, SameAnswer, alike-need, enough, cut}

-- ---- the number N

number_read : ℕ → Result Number ℕ → Read ℕ
number_read p (Err n) = bad n p
number_read p (Ok x) = good x.value x.taken

number-bad : (n p : ℕ) → AnswerKept n_of (number_read p) (bad n p)
unfolding n_of number_read
number-bad n p = record { same = refl }

number-good : (p n m : ℕ) → AnswerKept n_of (number_read p) (good n m)
unfolding n_of number_read
number-good p n m = record { same = refl }

number-kept : (p most : ℕ) (s : List ℕ) → AnswerKept n_of (number_read p) (read_n p most s)
unfolding read_n
number-kept p most s =
    kept-need _ (number-bad 6 p)
    (kept-cond (ltb (get_or s 0 0) 128)
    (kept-need _ (number-bad 10 p) (number-good p _ 1))
    (kept-need _ (number-bad 6 p) (kept-need _ (number-bad 10 p) (number-good p _ 2))))

module _ (p most : ℕ) (s : List ℕ) where
  pub read_n-bad : (n : ℕ) → n_of (read_n p most s) ≡ Err n → read_n p most s ≡ bad n p
  unfolding number_read
  read_n-bad n e = (number-kept p most s).same ∙ ap (number_read p) e

  pub read_n-good : (x : Number) → n_of (read_n p most s) ≡ Ok x → read_n p most s ≡ good x.value x.taken
  unfolding number_read
  read_n-good x e = (number-kept p most s).same ∙ ap (number_read p) e

-- at a place of the body b: the first byte is x
pub record First (b : List ℕ) (at x : ℕ) : Type 0 where
  pub some : 1 ≤ length b - at
  pub is_x : x ≡ get_or b at 0

-- the second is y, since the first asks for it
pub record Second (b : List ℕ) (at x y : ℕ) : Type 0 where
  pub first : First b at x
  pub large : 128 ≤ x
  pub more : 2 ≤ length b - at
  pub is_y : y ≡ get_or b (at + 1) 0

-- what the code answers there
module _ (b : List ℕ) (at most p : ℕ) where
  pub n-cut : length b - at < 1 → Err 6 ≡ n_of (read_n p most (drop at b))
  unfolding read_n need n_of
  n-cut h = rw (cut b at 1 h)

  module _ (x : ℕ) (f : First b at x) where
    byte-x : get_or (drop at b) 0 0 ≡ x
    byte-x = get_or-drop at b 0 0 ∙ rw (add-zero, f.is_x)

    n-from : read_n p most (drop at b)
        ≡ cond (ltb x 128)
        (need (leb x most) 10 p (good x 1))
        (need (leb 2 (length (drop at b))) 6 p (need (ltb (get_or (drop at b) 1 0) 128 && leb (two x (get_or (drop at b) 1 0)) most) 10 p (good (two x (get_or (drop at b) 1 0)) 2)))
    unfolding read_n need
    n-from = rw (enough b at 1 f.some, byte-x)

    pub n-one : x < 128 → x ≤ most → Ok (record { value = x; taken = 1 }) ≡ n_of (read_n p most (drop at b))
    unfolding need n_of
    n-one small h = rw (n-from, lt-ltb _ _ small, le-leb _ _ h)

    pub n-one-over : x < 128 → most < x → Err 10 ≡ n_of (read_n p most (drop at b))
    unfolding need n_of
    n-one-over small h = rw (n-from, lt-ltb _ _ small, lt-leb _ _ h)

    pub n-cut-two : 128 ≤ x → length b - at < 2 → Err 6 ≡ n_of (read_n p most (drop at b))
    unfolding need n_of
    n-cut-two large h = rw (n-from, le-ltb _ _ large, cut b at 2 h)

  module _ (x y : ℕ) (s : Second b at x y) where
    byte-y : get_or (drop at b) 1 0 ≡ y
    byte-y = get_or-drop at b 1 0 ∙ sym s.is_y

    n-then : read_n p most (drop at b) ≡ need (ltb y 128 && leb ((x - 128 + 1) * 128 + y) most) 10 p (good ((x - 128 + 1) * 128 + y) 2)
    unfolding need two
    n-then = rw (n-from x s.first, le-ltb _ _ s.large, enough b at 2 s.more, byte-y)

    pub n-three : 128 ≤ y → Err 10 ≡ n_of (read_n p most (drop at b))
    unfolding need n_of
    n-three h = rw (n-then, le-ltb _ _ h)

    pub n-two : y < 128 → (x - 128 + 1) * 128 + y ≤ most → Ok (record { value = ((x - 128 + 1) * 128 + y); taken = 2 }) ≡ n_of (read_n p most (drop at b))
    unfolding need n_of
    n-two last h = rw (n-then, lt-ltb _ _ last, le-leb _ _ h)

    pub n-two-over : y < 128 → most < (x - 128 + 1) * 128 + y → Err 10 ≡ n_of (read_n p most (drop at b))
    unfolding need n_of
    n-two-over last h = rw (n-then, lt-ltb _ _ last, lt-leb _ _ h)

-- ---- the name in versions 2 and 3

take-length-take : (n : ℕ) (s : List ℕ) → take (length (take n s)) s ≡ take n s
take-length-take zero s = refl
take-length-take (suc n) [] = refl
take-length-take (suc n) (x ∷ s) = ap (λ (l : List ℕ). x ∷ l) (take-length-take n s)

text_read : ℕ → List ℕ → Result Text ℕ → Read (List ℕ)
text_read p s (Err n) = bad n p
text_read p s (Ok t) = good (take t.length s) t.taken

text-bad : (n p : ℕ) (s : List ℕ) → AnswerKept text_of (text_read p s) (bad n p)
unfolding text_of text_read
text-bad n p s = record { same = refl }

text-good : (p : ℕ) (s : List ℕ) (n m : ℕ) → AnswerKept text_of (text_read p s) (good (take n s) m)
unfolding text_of text_read
text-good p s n m = record { same = ap (λ (l : List ℕ). good l m) (sym (take-length-take n s)) }

text-kept : (f p field : ℕ) (s : List ℕ) → AnswerKept text_of (text_read p s) (read_plain f p field s)
unfolding read_plain
text-kept f p field s =
    kept-need _ (text-bad 6 p s) (kept-need _ (text-bad 9 p s) (kept-need _ (text-bad 6 p s) (kept-need _ (text-bad 10 p s) (text-good p s (plain_length field s) _))))

module _ (f p field : ℕ) (s : List ℕ) where
  pub read_plain-bad : (n : ℕ) → text_of (read_plain f p field s) ≡ Err n → read_plain f p field s ≡ bad n p
  unfolding text_read
  read_plain-bad n e = (text-kept f p field s).same ∙ ap (text_read p s) e

  pub read_plain-good : (t : Text) → text_of (read_plain f p field s) ≡ Ok t → read_plain f p field s ≡ good (take t.length s) t.taken
  unfolding text_read
  read_plain-good t e = (text-kept f p field s).same ∙ ap (text_read p s) e

-- at a place of the body b: n bytes of a name are there, and more
pub record Long (b : List ℕ) (at field n : ℕ) : Type 0 where
  pub is_n : n ≡ plain_length field (drop at b)
  pub long : n < length b - at

-- the name and its length field are right
pub record Named (b : List ℕ) (at field n : ℕ) : Type 0 where
  pub here : Long b at field n
  pub name : ok_name (take (at + n - at) (drop at b)) ≡ true
  pub counted : field ≡ length_field n

-- so its length is within the limit
pub named-short : (b : List ℕ) (at field n : ℕ) → Named b at field n → n ≤ 8192
named-short b at field n q =
    let l : at + n - at ≤ length (drop at b) = rw length-drop (omega (arith, q.here.long)) in
    omega (arith, (ok_name-length _ q.name).1, length-take-le (at + n - at) (drop at b) l)

-- what is known of its beginning, of the name by itself
pub part-begun : (b : List ℕ) (at n kept : ℕ) → n < length b - at → kept ≤ n → Begun (take kept (drop at b))
    → (kept ≤ length (take (at + n - at) (drop at b))) × Begun (take kept (take (at + n - at) (drop at b)))
part-begun b at n kept h fits begun =
    let l : at + n - at ≤ length (drop at b) = rw length-drop (omega arith) in
    let k : kept ≤ at + n - at = omega arith in
    (rw (length-take-le (at + n - at) (drop at b) l) k, rw (take-take kept (at + n - at) (drop at b) k) begun)

-- what the code answers there
module _ (b : List ℕ) (at f field p n : ℕ) where
  plain-from : n ≡ plain_length field (drop at b)
      → read_plain f p field (drop at b)
      ≡ need (ltb n (length (drop at b))) 6 p
      (need (ok_name (take n (drop at b)) && eqb field (length_field n)) 9 p
      (need (leb (entry_length f n) (f + length (drop at b))) 6 p
      (need (zeros (drop n (take (entry_length f n - f) (drop at b)))) 10 p (good (take n (drop at b)) (entry_length f n - f)))))
  unfolding read_plain
  plain-from e = rw e

  pub plain-cut : n ≡ plain_length field (drop at b) → length b - at ≤ n → Err 6 ≡ text_of (read_plain f p field (drop at b))
  unfolding need text_of
  plain-cut e h = let l : length (drop at b) ≤ n = simp length-drop h in rw (plain-from e, le-ltb _ _ l)

  name_is : {t : Bool} → ok_name (take (at + n - at) (drop at b)) ≡ t → ok_name (take n (drop at b)) ≡ t
  name_is e = rw add-sub_cancel_left at e

  module _ (q : Long b at field n) where
    some : ltb n (length (drop at b)) ≡ true
    some = let l : n < length (drop at b) = simp length-drop q.long in lt-ltb _ _ l

    pub plain-name : ok_name (take (at + n - at) (drop at b)) ≡ false → Err 9 ≡ text_of (read_plain f p field (drop at b))
    unfolding need text_of
    plain-name e = rw (plain-from q.is_n, some, name_is e)

    pub plain-field : ok_name (take (at + n - at) (drop at b)) ≡ true → (field ≡ length_field n → ⊥) → Err 9 ≡ text_of (read_plain f p field (drop at b))
    unfolding need text_of
    plain-field e h = rw (plain-from q.is_n, some, name_is e, ne_eqb _ _ h)

  -- an entry of k bytes
  module _ (q : Named b at field n) (k : ℕ) (is-k : k ≡ entry_length f n) (over : f + n < k) where
    plain-named : read_plain f p field (drop at b)
        ≡ need (leb k (f + length (drop at b))) 6 p
        (need (zeros (drop n (take (k - f) (drop at b)))) 10 p (good (take n (drop at b)) (k - f)))
    unfolding need
    plain-named = rw (plain-from q.here.is_n, some q.here, name_is q.name, eq-eqb _ _ q.counted, is-k)

    pub plain-short : length b - at < k - f → Err 6 ≡ text_of (read_plain f p field (drop at b))
    unfolding need text_of
    plain-short h =
        let l : f + length (drop at b) < k = rw length-drop (omega arith) in
        rw (plain-named, lt-leb _ _ l)

    module _ (fits : k - f ≤ length b - at) where
      whole : leb k (f + length (drop at b)) ≡ true
      whole = let l : k ≤ f + length (drop at b) = rw length-drop (omega arith) in le-leb _ _ l

      after : take (at + (k - f) - (at + n)) (drop (at + n) b) ≡ drop n (take (k - f) (drop at b))
      after =
          let h : n ≤ k - f = omega arith in
          let l : at + n ≤ length b = omega (arith, q.here.long) in
          part-inside b at n (k - f) h l

      pub plain-filled : zeros (take (at + (k - f) - (at + n)) (drop (at + n) b)) ≡ false → Err 10 ≡ text_of (read_plain f p field (drop at b))
      unfolding need text_of
      plain-filled e = rw (plain-named, whole, ← after, e)

      pub plain-good : zeros (take (at + (k - f) - (at + n)) (drop (at + n) b)) ≡ true → Ok (record { length = n; taken = k - f }) ≡ text_of (read_plain f p field (drop at b))
      unfolding need text_of
      plain-good e =
          let l : n ≤ length (drop at b) = rw length-drop (omega (arith, q.here.long)) in
          rw (plain-named, whole, ← after, e, length-take-le n (drop at b) l)

text-bads : (n p q : ℕ) → SameAnswer text_of (bad n p) (bad n q)
unfolding text_of
text-bads n p q = record { same = refl }

-- it is the same at each place that the reader is told
pub plain-place : (f p q field : ℕ) (s : List ℕ) → text_of (read_plain f p field s) ≡ text_of (read_plain f q field s)
unfolding read_plain
plain-place f p q field s =
    let same : SameAnswer text_of (read_plain f p field s) (read_plain f q field s) =
    alike-need _ (text-bads 6 p q)
    (alike-need _ (text-bads 9 p q) (alike-need _ (text-bads 6 p q) (alike-need _ (text-bads 10 p q) (record { same = refl })))) in
    same.same

text-inv : {X : Type 0} (r : Read (List ℕ)) (t : Text) → text_of r ≡ Ok t → ((name : List ℕ) → r ≡ good name t.taken → length name ≡ t.length → X) → X
unfolding text_of
text-inv (bad k p) t e f = absurd (cc)
text-inv (good name j) t e f =
    let is : record { length = length name; taken = j } ≡ t = cc in
    f name (ap (λ (x : Text). good name x.taken) is) (ap (λ (x : Text). x.length) is)

-- a name of k bytes that was read: it is within the limit, and its entry is there
plain-inv : {X : Type 0} (b : List ℕ) (at f field p k : ℕ) (t : Text) → k ≡ plain_length field (drop at b) → text_of (read_plain f p field (drop at b)) ≡ Ok t
    → (k ≤ 8192 → entry_length f k ≤ f + (length b - at) → record { length = k; taken = entry_length f k - f } ≡ t → X) → X
plain-inv b at f field p k t is-k e go =
    text-inv _ t e λ name q size.
    need-inv _ _ _ _ _ _ (sym (plain-from b at f field p k is-k) ∙ q) λ long q₁.
    need-inv _ _ _ _ _ _ q₁ λ ok q₂.
    need-inv _ _ _ _ _ _ q₂ λ whole q₃.
    need-inv _ _ _ _ _ _ q₃ λ filled q₄.
    good-inv _ _ _ _ q₄ λ name_is m-is.
    let l : k ≤ length (drop at b) = omega (arith, ltb-true k (length (drop at b)) long) in
    let counted : length (take k (drop at b)) ≡ k = length-take-le k (drop at b) l in
    let short = (ok_name-length (take k (drop at b)) (and-inv (ok_name (take k (drop at b))) (eqb field (length_field k)) ok).0).1 in
    let k-is : k ≡ t.length = sym counted ∙ ap length name_is ∙ size in
    go (omega (arith, short, counted)) (omega (arith, leb-true (entry_length f k) (f + length (drop at b)) whole, length-drop at b)) (rw (m-is, k-is) refl)

pub bad-text : {X E : Type 0} {k : E} {t : Text} → Err k ≡ Ok t → X
bad-text e = absurd (cc)

-- what the code answers that only passes it
module _ (b : List ℕ) (at f field k : ℕ) (inside : at ≤ length b) (is-k : k ≡ plain_length field (drop at b)) where
  pub passed_over : 8192 < k → NamePassed b at f field (Err R.EntryName)
  passed_over over =
      record {
        same = λ p t e. plain-inv b at f field p k t is-k e (λ short whole is. absurd (omega arith));
        short = omega arith;
        fits = omega arith;
        there = omega arith;
      }

  module _ (l : ℕ) (is-l : l ≡ entry_length f k) (more : f + k < l) where
    pub passed-short : length b - at < l - f → NamePassed b at f field (Err R.EntryCut)
    passed-short cut =
        record {
          same = λ p t e. plain-inv b at f field p k t is-k e (λ short whole is. absurd (omega arith));
          short = omega arith;
          fits = omega arith;
          there = omega arith;
        }

    pub passed-good : k ≤ 8192 → l - f ≤ length b - at → NamePassed b at f field (Ok (record { length = k; taken = l - f }))
    passed-good short whole =
        record {
          same = λ p t e. plain-inv b at f field p k t is-k e (λ a b is. ap Ok (rw is-l is));
          short = short;
          fits = omega arith;
          there = omega arith;
        }
