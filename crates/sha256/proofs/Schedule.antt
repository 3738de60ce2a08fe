-- The schedule, the window over it, and the rounds. Assumes nothing.
use mathlib.Core.List.{List}
use mathlib.Core.Path.{◌≡◌, refl, sym, subst, ◌∙◌}
use Prim.Native.Nat.{ℕ, ◌+◌, ◌-◌, ◌%◌, ◌≤◌, ◌<◌}
use native.Mathlib.Nat.{add_assoc}
use native.Mathlib.Numerals.{add-one}
use native.Mathlib.Omega.{arith}
use lib.ListN.{length, get_or, set}
use Rattle.hash_words.proofs.Schedule.{Extends, length-extended, later-words, first-window, window-at, word_kept, window-before as before-round}
use Rattle.hash_words.proofs.Words.{length-words}
use Rattle.hash_words.specs.Window.{Holds}
use Rattle.hash_words.specs.Words.{add32, words}
use Rattle.sha256.specs.Sha256.{small0, small1, K, next_word, extended, schedule, round, rounds}
use Rattle.sha256.specs.Window.{At}
use Rattle.sha256.specs.declared.State.{State}

-- the schedule is made word by word, each from words among the sixteen before it
extends : Extends next_word extended
unfolding extended next_word
extends = record {
  none = λ m. refl;
  more = λ m n. refl;
  same = λ u v t l e. rw (e (t - 2) (omega arith), e (t - 7) (omega arith), e (t - 15) (omega arith), e (t - 16) (omega arith));
}

-- a block's words are the first window
pub loaded : (p : List ℕ) (i : ℕ) → Holds (schedule (words p i 16)) 0 (words p i 16)
unfolding schedule
loaded p i = first-window extends (words p i 16) (length-words p i 16) 48

-- every block has a window before every round
pub window-before : (m : List ℕ) → length m ≡ 16 → (t : ℕ) → (w : List ℕ) × Holds (schedule m) t w
unfolding schedule
window-before m l t = before-round (schedule m) (let n = length-extended extends m l 48 in omega arith) t

-- the next word, from the window
abbrev pub next_in : List ℕ → ℕ → ℕ
next_in w t =
    add32 (add32 (add32 (small1 (get_or w ((t + 14) % 16) 0)) (get_or w ((t + 9) % 16) 0)) (small0 (get_or w ((t + 1) % 16) 0))) (get_or w (t % 16) 0)

-- from round 16 on the word is made of four in the window
module _ (m : List ℕ) (t : ℕ) (w : List ℕ) (sized : length m ≡ 16) (h : Holds (schedule m) t w) where
  pub word_made : 16 ≤ t → t < 64 → (x : ℕ) → x ≡ next_in w t → (x ≡ get_or (schedule m) t 0) × Holds (schedule m) (t + 1) (set w (t % 16) x)
  unfolding next_word schedule
  word_made lo hi x e =
      let from = window-at (schedule m) t w h in
      let q : x ≡ get_or (schedule m) t 0 =
      e ∙ rw (
        from (t - 2) ((t + 14) % 16) (omega arith) (omega arith) (omega arith),
        from (t - 7) ((t + 9) % 16) (omega arith) (omega arith) (omega arith),
        from (t - 15) ((t + 1) % 16) (omega arith) (omega arith) (omega arith),
        from (t - 16) (t % 16) (omega arith) (omega arith) (omega arith),
      )
      (sym (later-words extends m sized 48 t lo (omega arith))) in
      (q, word_kept (schedule m) t w h lo x q)

-- one more round, with the word of the schedule
pub turned : {h s : State} {m v w : List ℕ} {t : ℕ} (r : State) (k x : ℕ) → k ≡ K t → At h m t v s → (x ≡ get_or (schedule m) t 0) × Holds (schedule m) (t + 1) w
    → r ≡ round k x s → At h m (t + 1) w r
unfolding rounds
turned r k x ek a hx er = record { sized = a.sized; holds = hx.1; vars = er ∙ rw (ek, a.vars, hx.0, add-one) }

-- one more, and the sum in one numeral
pub plus : {h : State} {m w : List ℕ} {s : State} (t k : ℕ) → At h m (t + k + 1) w s → At h m (t + (k + 1)) w s
plus {h} {m} {w} {s} t k a = subst (λ (x : ℕ). At h m x w s) (add_assoc t k 1) a
