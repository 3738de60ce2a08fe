-- A schedule that is made word by word, and the window of sixteen words over it. Assumes nothing.
use Rattle.std.proofs.Common.{◌≡◌, ℕ, zero, suc, ◌+◌, ◌-◌, ◌%◌, ◌<◌, ◌≤◌, max, List, [], ◌∷◌, ◌++◌, length, get_or, take, set, sym, refl, ap, ◌∙◌, subst, add-one, arith, length-append, length-set, length-take-le, get_or-set_other, get_or-take, get_or-set_same}
use native.Mathlib.Decide.{le_ind, dec_lt, ℕ_discrete}
use lib.Arith.{lt_of_le-ne}
use lib.ListN.{get_or-append}
use lib.Seq.{get_or_at}
use Rattle.hash_words.specs.Window.{Holds}

-- ---- the schedule, word by word
-- extended m n is the block m and n words more, of which next makes each from those before it
pub record Extends (next : List ℕ → ℕ → ℕ) (extended : List ℕ → ℕ → List ℕ) : Type 0 where
  pub none : (m : List ℕ) → extended m 0 ≡ m
  pub more : (m : List ℕ) (n : ℕ) → extended m (suc n) ≡ extended m n ++ (next (extended m n) (16 + n) ∷ [])
  pub same : (u v : List ℕ) (t : ℕ) → 16 ≤ t → ((k : ℕ) → k < t → get_or u k 0 ≡ get_or v k 0) → next u t ≡ next v t

module _ {next : List ℕ → ℕ → ℕ} {extended : List ℕ → ℕ → List ℕ} (x : Extends next extended) (m : List ℕ) (sized : length m ≡ 16) where
  pub length-extended : (n : ℕ) → length (extended m n) ≡ 16 + n
  length-extended zero = rw (x.none m) (omega arith)
  length-extended (suc n) = let ih = length-extended n in rw (x.more m n) (simp length-append (omega arith))

  -- a word that is made stays as it is
  kept : (n i : ℕ) → i < 16 + n → get_or (extended m (suc n)) i 0 ≡ get_or (extended m n) i 0
  kept n i h = let l = length-extended n in rw (x.more m n) (get_or-append (extended m n) _ 0 i (omega arith))

  stays : (n N i : ℕ) → n ≤ N → i < 16 + n → get_or (extended m N) i 0 ≡ get_or (extended m n) i 0
  stays n N i hn hi = le_ind (λ (j : ℕ). get_or (extended m j) i 0 ≡ get_or (extended m n) i 0) refl (λ j k e. kept j i (omega arith) ∙ e) N hn

  made : (n : ℕ) → get_or (extended m (suc n)) (16 + n) 0 ≡ next (extended m n) (16 + n)
  made n = rw (x.more m n) (get_or_at (extended m n) _ [] 0 (16 + n) (length-extended n))

  first-words : (N t : ℕ) → t < 16 → get_or (extended m N) t 0 ≡ get_or m t 0
  first-words N t h = stays 0 N t (omega arith) (omega arith) ∙ rw (x.none m)

  -- each word from the sixteenth on is made from those before it
  pub later-words : (N t : ℕ) → 16 ≤ t → t < 16 + N → get_or (extended m N) t 0 ≡ next (extended m N) t
  later-words N t lo hi =
      let e : 16 + (t - 16) ≡ t = omega arith in
      stays (suc (t - 16)) N t (omega arith) (omega arith)
      ∙ ap (λ (x : ℕ). get_or (extended m (suc (t - 16))) x 0) (sym e)
      ∙ made (t - 16)
      ∙ ap (next (extended m (t - 16))) e
      ∙ x.same (extended m (t - 16)) (extended m N) t lo (λ k h. sym (stays (t - 16) N k (omega arith) (omega arith)))

  -- the block itself is the first window
  pub first-window : (N : ℕ) → Holds (extended m N) 0 m
  first-window N = record {
    long = sized;
    window = λ k a b. let q : k % 16 ≡ k = omega arith in rw q (sym (first-words N k (omega arith)));
  }

-- ---- the window
module _ (s : List ℕ) (t : ℕ) (w : List ℕ) (h : Holds s t w) where
  -- word k is at place j
  pub window-at : (k j : ℕ) → k < max t 16 → t ≤ k + 16 → j ≡ k % 16 → get_or w j 0 ≡ get_or s k 0
  window-at k j a b e = rw e (h.window k a b)

  -- before round 16 the word is in the window
  pub word_held : t < 16 → (get_or w t 0 ≡ get_or s t 0) × Holds s (t + 1) w
  word_held lo = (
    window-at t t (omega arith) (omega arith) (omega arith),
    record { long = h.long; window = λ k a b. h.window k (omega arith) (omega arith) },
  )

  -- from round 16 on it takes the place of the oldest
  pub word_kept : 16 ≤ t → (x : ℕ) → x ≡ get_or s t 0 → Holds s (t + 1) (set w (t % 16) x)
  word_kept lo x q = record {
    long = length-set w (t % 16) x ∙ h.long;
    window = λ k a b. elim (ℕ_discrete k t) [
      | yes e ↦ rw e (get_or-set_same w (t % 16) x 0 (omega (arith, h.long)) ∙ q)
      | no n ↦ (let l : k < t = lt_of_le-ne (omega arith) n in get_or-set_other w (t % 16) (k % 16) x 0 (λ q. omega arith) ∙ h.window k (omega arith) (omega arith))
    ];
  }

-- every schedule has such a window before every round
pub window-before : (s : List ℕ) → 16 ≤ length s → (t : ℕ) → (w : List ℕ) × Holds s t w
window-before s l zero = (
  take 16 s,
  record {
    long = length-take-le 16 s l;
    window = λ k a b. let q : k % 16 ≡ k = omega arith in rw q (get_or-take 16 s k 0 (omega arith));
  },
)
window-before s l (suc t) =
    let before = window-before s l t in
    subst (λ (n : ℕ). (w : List ℕ) × Holds s n w) (add-one t) (elim (dec_lt t 16) [
      | yes lo ↦ (before.0, (word_held s t before.0 before.1 lo).1)
      | no n ↦ (_, word_kept s t before.0 before.1 (omega arith) _ refl)
    ])
