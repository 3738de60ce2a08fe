-- Laws of what is before an entry's name.
use mathlib.Core.Path.{◌≡◌, refl, sym, ap, ◌∙◌}
use mathlib.Core.List.{List}
use mathlib.Core.Bool.{Bool, true, false, cond, not, ◌&&◌}
use Prim.Native.Nat.{ℕ, ◌+◌, ◌-◌, ◌/◌, ◌%◌, ◌≤◌, ◌<◌}
use native.Mathlib.Omega.{arith}
use lib.ListN.{length, drop}
use lib.Dec.{eqb, leb}
use borrow.Author.Tests.{eq-eqb, ne_eqb}
use Rattle.std.specs.Prelude.{Result, Ok, Err}
use Rattle.format.specs.Bytes.{be16, be32}
use Rattle.format.specs.declared.Refusal.TheVariants as R
use Rattle.format.specs.Records.{Entry, Key}
use Rattle.format.specs.Layout.{ok_mode, fixed_length}
use Rattle.format.specs.Reading.{Read, bad, good, need, shift, bind}
use Rattle.format.specs.Reader.{is_set, ok_word, read_entry, read_fixed, read_tail}
use Rattle.format_laws.proofs.Numbers.{be16-drop, be32-drop}
use Rattle.format_laws.proofs.Tests.{clash, cond-inv}
use Rattle.format_laws.proofs.Readings.{good-inv, need-inv, bind_inv, bind-need, bind-cond}
use Rattle.entries.specs.declared.Head.{Head}
use Rattle.entries.specs.Answers.{read_head, fixed_of, Size, HeadPassed}
use Rattle.entries.proofs.Reading.{AnswerKept, kept-need, kept-cond, SameAnswer, alike-need, alike-cond, enough, cut}

-- an entry is what is before its name, and the rest
pub read_entry-head : (w v : ℕ) (k : Key) (p : ℕ) (s : List ℕ)
    → read_entry w v k p s ≡ bind (read_head w v p s) (λ h m. read_tail w v k p h.length h.flags h.word s)
unfolding read_entry read_fixed read_head bind
read_entry-head w v k p s = simp (bind-need, bind-cond, bind)

head_read : ℕ → Result Head ℕ → Read Head
head_read p (Err n) = bad n p
head_read p (Ok h) = good h h.length

head-bad : (n p : ℕ) → AnswerKept fixed_of (head_read p) (bad n p)
unfolding fixed_of head_read
head-bad n p = record { same = refl }

head-good : (p : ℕ) (h : Head) → AnswerKept fixed_of (head_read p) (good h h.length)
unfolding fixed_of head_read
head-good p h = record { same = refl }

head-kept : (w v p : ℕ) (s : List ℕ) → AnswerKept fixed_of (head_read p) (read_head w v p s)
unfolding read_head
head-kept w v p s =
    kept-need _ (head-bad 6 p)
    (kept-need _ (head-bad 7 p)
    (kept-need _ (head-bad 8 p)
    (kept-cond (is_set 16384 (be16 s (40 + w))) (kept-need _ (head-bad 6 p) (kept-need _ (head-bad 8 p) (head-good p _))) (head-good p _))))

module _ (w v : ℕ) (k : Key) (p : ℕ) (s : List ℕ) where
  pub read_entry-bad : (n : ℕ) → fixed_of (read_head w v p s) ≡ Err n → read_entry w v k p s ≡ bad n p
  unfolding head_read bind
  read_entry-bad n e = rw (read_entry-head w v k p s, (head-kept w v p s).same, e)

  pub read_entry-good : (h : Head) → fixed_of (read_head w v p s) ≡ Ok h
      → read_entry w v k p s ≡ shift h.length (read_tail w v k p h.length h.flags h.word s)
  unfolding head_read bind
  read_entry-good h e = rw (read_entry-head w v k p s, (head-kept w v p s).same, e)

  -- what is before the name of an entry that was read
  pub entry-head : {X : Type 0} (e : Entry) (m : ℕ) → read_entry w v k p s ≡ good e m → ((h : Head) → fixed_of (read_head w v p s) ≡ Ok h → X) → X
  unfolding fixed_of
  entry-head e m q f = bind_inv _ _ _ _ (sym (read_entry-head w v k p s) ∙ q) (λ h i j is rest sum. f h (ap fixed_of is))

fixed-inv : {X : Type 0} (r : Read Head) (h : Head) → fixed_of r ≡ Ok h → ((m : ℕ) → r ≡ good h m → X) → X
unfolding fixed_of
fixed-inv (bad n p) h e f = absurd (cc)
fixed-inv (good g m) h e f = f m (ap (λ (x : Head). good x m) (cc))

-- what it is, with the extended word and without
head-inv : {X : Type 0} (w v p : ℕ) (s : List ℕ) (h : Head) → fixed_of (read_head w v p s) ≡ Ok h
    → (is_set 16384 (be16 s (40 + w)) ≡ true → leb (40 + w + 4) (length s) ≡ true → record { length = 40 + w + 4; flags = be16 s (40 + w); word = be16 s (42 + w) } ≡ h → X)
    → (is_set 16384 (be16 s (40 + w)) ≡ false → record { length = 40 + w + 2; flags = be16 s (40 + w); word = 0 } ≡ h → X)
    → X
unfolding read_head fixed_length
head-inv w v p s h e f g =
    fixed-inv _ h e λ m q.
    need-inv _ _ _ _ _ _ q λ long q₁.
    need-inv _ _ _ _ _ _ q₁ λ mode q₂.
    need-inv _ _ _ _ _ _ q₂ λ allowed q₃.
    cond-inv (is_set 16384 (be16 s (40 + w))) _ _ _ q₃
    (λ set q₄.
    need-inv _ _ _ _ _ _ q₄ λ longer q₅.
    need-inv _ _ _ _ _ _ q₅ λ word q₆.
    good-inv _ _ _ _ q₆ λ h-is m-is. f set longer h-is)
    (λ clear q₄. good-inv _ _ _ _ q₄ λ h-is m-is. g clear h-is)

module _ (w : ℕ) (s : List ℕ) (x : ℕ) (flags : x ≡ be16 s (40 + w)) where
  size-set : (y : ℕ) → is_set 16384 x ≡ true → Size w s (record { length = 40 + w + 4; flags = x; word = y })
  unfolding fixed_length
  size-set y e = record { flags = flags; is = rw e; least = omega arith; most = omega arith }

  size-clear : is_set 16384 x ≡ false → Size w s (record { length = 40 + w + 2; flags = x; word = 0 })
  unfolding fixed_length
  size-clear e = record { flags = flags; is = rw e; least = omega arith; most = omega arith }

pub head-size : (w v p : ℕ) (s : List ℕ) (h : Head) → fixed_of (read_head w v p s) ≡ Ok h → Size w s h
head-size w v p s h e = head-inv w v p s h e (λ set longer is. rw (← is) (size-set w s _ refl _ set)) (λ clear is. rw (← is) (size-clear w s _ refl clear))

head-bads : (n p q : ℕ) → SameAnswer fixed_of (bad n p) (bad n q)
unfolding fixed_of
head-bads n p q = record { same = refl }

-- it is the same at each place that the reader is told
pub head-place : (w v p q : ℕ) (s : List ℕ) → fixed_of (read_head w v p s) ≡ fixed_of (read_head w v q s)
unfolding read_head
head-place w v p q s =
    let same : SameAnswer fixed_of (read_head w v p s) (read_head w v q s) =
    alike-need _ (head-bads 6 p q)
    (alike-need _ (head-bads 7 p q)
    (alike-need _ (head-bads 8 p q)
    (alike-cond (is_set 16384 (be16 s (40 + w)))
    (alike-need _ (head-bads 6 p q) (alike-need _ (head-bads 8 p q) (record { same = refl })))
    (record { same = refl })))) in
    same.same

-- at a place of the body b: the fixed part is there, its mode m is right, its flags are x
pub record Flagged (w : ℕ) (b : List ℕ) (at m x : ℕ) : Type 0 where
  pub long : 40 + w + 2 ≤ length b - at
  pub is_m : m ≡ be32 b (at + 24)
  pub mode : ok_mode m ≡ true
  pub is_x : x ≡ be16 b (at + (40 + w))

-- what the code answers there
module _ (w : ℕ) (b : List ℕ) (at v p : ℕ) where
  mode-is : (m : ℕ) → m ≡ be32 b (at + 24) → {t : Bool} → ok_mode m ≡ t → ok_mode (be32 (drop at b) 24) ≡ t
  mode-is m h e = ap ok_mode (be32-drop at b 24 ∙ sym h) ∙ e

  pub fixed-cut : length b - at < 40 + w + 2 → Err 6 ≡ fixed_of (read_head w v p (drop at b))
  unfolding read_head fixed_length need fixed_of
  fixed-cut h = rw (cut b at (40 + w + 2) h)

  pub fixed-mode : (m : ℕ) → 40 + w + 2 ≤ length b - at → m ≡ be32 b (at + 24) → ok_mode m ≡ false → Err 7 ≡ fixed_of (read_head w v p (drop at b))
  unfolding read_head fixed_length need fixed_of
  fixed-mode m h i e = rw (enough b at (40 + w + 2) h, mode-is m i e)

  module _ (m x : ℕ) (f : Flagged w b at m x) where
    flags-are : be16 (drop at b) (40 + w) ≡ x
    flags-are = be16-drop at b (40 + w) ∙ sym f.is_x

    after-mode : read_head w v p (drop at b) ≡ need (not (is_set 16384 x && eqb v 2)) 8 p
        (cond (is_set 16384 x)
        (need (leb (40 + w + 4) (length (drop at b))) 6 p
        (need (ok_word (be16 (drop at b) (42 + w))) 8 p (good (record { length = 40 + w + 4; flags = x; word = be16 (drop at b) (42 + w) }) (40 + w + 4))))
        (good (record { length = 40 + w + 2; flags = x; word = 0 }) (40 + w + 2)))
    unfolding read_head fixed_length need
    after-mode = rw (enough b at (40 + w + 2) f.long, mode-is m f.is_m f.mode, flags-are)

    pub fixed_plain : (x / 16384 % 2 ≡ 1 → ⊥) → Ok (record { length = 40 + w + 2; flags = x; word = 0 }) ≡ fixed_of (read_head w v p (drop at b))
    unfolding need is_set fixed_of
    fixed_plain e = rw (after-mode, ne_eqb _ _ e)

    module _ (extended : x / 16384 % 2 ≡ 1) where
      pub fixed-version : v ≡ 2 → Err 8 ≡ fixed_of (read_head w v p (drop at b))
      unfolding need is_set fixed_of
      fixed-version e = rw (after-mode, eq-eqb _ _ extended, eq-eqb _ _ e)

      module _ (later : v ≡ 2 → ⊥) where
        pub fixed-cut-word : length b - at < 40 + w + 4 → Err 6 ≡ fixed_of (read_head w v p (drop at b))
        unfolding need is_set fixed_of
        fixed-cut-word h = rw (after-mode, eq-eqb _ _ extended, ne_eqb _ _ later, cut b at (40 + w + 4) h)

        module _ (y : ℕ) (longer : 40 + w + 4 ≤ length b - at) (is_y : y ≡ be16 b (at + (42 + w))) where
          word_is : be16 (drop at b) (42 + w) ≡ y
          word_is = be16-drop at b (42 + w) ∙ sym is_y

          pub fixed_word : ok_word y ≡ true → Ok (record { length = 40 + w + 4; flags = x; word = y }) ≡ fixed_of (read_head w v p (drop at b))
          unfolding need is_set fixed_of
          fixed_word e = rw (after-mode, eq-eqb _ _ extended, ne_eqb _ _ later, enough b at (40 + w + 4) longer, word_is, e)

          pub fixed-bad-word : ok_word y ≡ false → Err 8 ≡ fixed_of (read_head w v p (drop at b))
          unfolding need is_set fixed_of
          fixed-bad-word e = rw (after-mode, eq-eqb _ _ extended, ne_eqb _ _ later, enough b at (40 + w + 4) longer, word_is, e)

-- what the code answers that only passes it
pub bad-head : {X E : Type 0} {n : E} {h : Head} → Err n ≡ Ok h → X
bad-head e = absurd (cc)

module _ (w : ℕ) (b : List ℕ) (at : ℕ) where
  pub passed-cut : at ≤ length b → length b - at < 40 + w + 2 → HeadPassed w b at (Err R.EntryCut)
  passed-cut inside short =
      record {
        same = λ v p h e. bad-head (fixed-cut w b at v p short ∙ e);
        sized = λ h e. bad-head e;
        there = omega arith;
      }

  module _ (long : 40 + w + 2 ≤ length b - at) (x : ℕ) (is_x : x ≡ be16 b (at + (40 + w))) where
    flags-is : be16 (drop at b) (40 + w) ≡ x
    flags-is = be16-drop at b (40 + w) ∙ sym is_x

    pub passed-plain : (x / 16384 % 2 ≡ 1 → ⊥) → HeadPassed w b at (Ok (record { length = 40 + w + 2; flags = x; word = 0 }))
    unfolding is_set
    passed-plain clear =
        record {
          same = λ v p h e. head-inv w v p (drop at b) h e
              (λ set longer is. clash set (rw (flags-is, ne_eqb _ _ clear)))
              (λ unset is. ap Ok (rw flags-is at is));
          sized = λ h e. let is : record { length = 40 + w + 2; flags = x; word = 0 } ≡ h = cc in rw (← is) (size-clear w (drop at b) x (sym flags-is) (ne_eqb _ _ clear));
          there = omega arith;
        }

    module _ (set : x / 16384 % 2 ≡ 1) where
      pub passed-cut-word : at ≤ length b → length b - at < 40 + w + 4 → HeadPassed w b at (Err R.EntryCut)
      unfolding is_set
      passed-cut-word inside short =
          record {
            same = λ v p h e. head-inv w v p (drop at b) h e
                (λ on longer is. clash longer (cut b at (40 + w + 4) short))
                (λ unset is. clash (rw (flags-is, eq-eqb _ _ set)) unset);
            sized = λ h e. bad-head e;
            there = omega arith;
          }

      pub passed-word : (y : ℕ) → 40 + w + 4 ≤ length b - at → y ≡ be16 b (at + (42 + w)) → HeadPassed w b at (Ok (record { length = 40 + w + 4; flags = x; word = y }))
      unfolding is_set
      passed-word y longer is_y =
          let word_is : be16 (drop at b) (42 + w) ≡ y = be16-drop at b (42 + w) ∙ sym is_y in
          record {
            same = λ v p h e. head-inv w v p (drop at b) h e
                (λ on enough is. ap Ok (rw (flags-is, word_is) at is))
                (λ unset is. clash (rw (flags-is, eq-eqb _ _ set)) unset);
            sized = λ h e. let is : record { length = 40 + w + 4; flags = x; word = y } ≡ h = cc in rw (← is) (size-set w (drop at b) x (sym flags-is) y (eq-eqb _ _ set));
            there = omega arith;
          }
