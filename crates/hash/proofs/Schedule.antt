-- The schedule, the window over it, and the rounds. Assumes nothing.
use mathlib.Core.List.{List}
use mathlib.Core.Path.{◌≡◌, refl, sym, subst, ◌∙◌}
use Prim.Native.Nat.{ℕ, ◌+◌, ◌-◌, ◌%◌, ◌≤◌, ◌<◌}
use native.Mathlib.Nat.{add_assoc}
use native.Mathlib.Numerals.{add-one}
use native.Mathlib.Omega.{arith}
use lib.Bits.{bit_xor}
use lib.ListN.{length, get_or, set}
use Rattle.hash_words.proofs.Schedule.{Extends, length-extended, later-words, first-window, window-at, word_kept, window-before as before-round}
use Rattle.hash_words.proofs.Words.{length-words}
use Rattle.hash_words.specs.Window.{Holds}
use Rattle.hash_words.specs.Words.{rotl, words}
use Rattle.hash.specs.Sha1.{next_word, extended, schedule, round, rounds}
use Rattle.hash.specs.Window.{At}
use Rattle.hash.specs.declared.State.{State}

-- the schedule is made word by word, each from words among the sixteen before it
extends : Extends next_word extended
unfolding extended next_word
extends = record {
  none = λ m. refl;
  more = λ m n. refl;
  same = λ u v t l e. rw (e (t - 3) (omega arith), e (t - 8) (omega arith), e (t - 14) (omega arith), e (t - 16) (omega arith));
}

-- a block's words are the first window
pub loaded : (p : List ℕ) (i : ℕ) → Holds (schedule (words p i 16)) 0 (words p i 16)
unfolding schedule
loaded p i = first-window extends (words p i 16) (length-words p i 16) 64

-- every block has a window before every round
pub window-before : (m : List ℕ) → length m ≡ 16 → (t : ℕ) → (w : List ℕ) × Holds (schedule m) t w
unfolding schedule
window-before m l t = before-round (schedule m) (let n = length-extended extends m l 64 in omega arith) t

-- the next word, from the window
abbrev pub next_in : List ℕ → ℕ → ℕ
next_in w t =
    rotl 1 (bit_xor (bit_xor (bit_xor (get_or w ((t + 13) % 16) 0) (get_or w ((t + 8) % 16) 0)) (get_or w ((t + 2) % 16) 0)) (get_or w (t % 16) 0))

-- from round 16 on the word is made of four in the window
module _ (m : List ℕ) (t : ℕ) (w : List ℕ) (sized : length m ≡ 16) (h : Holds (schedule m) t w) where
  pub word_made : 16 ≤ t → t < 80 → (x : ℕ) → x ≡ next_in w t → (x ≡ get_or (schedule m) t 0) × Holds (schedule m) (t + 1) (set w (t % 16) x)
  unfolding next_word schedule
  word_made lo hi x e =
      let from = window-at (schedule m) t w h in
      let q : x ≡ get_or (schedule m) t 0 =
      e ∙ rw (
        from (t - 3) ((t + 13) % 16) (omega arith) (omega arith) (omega arith),
        from (t - 8) ((t + 8) % 16) (omega arith) (omega arith) (omega arith),
        from (t - 14) ((t + 2) % 16) (omega arith) (omega arith) (omega arith),
        from (t - 16) (t % 16) (omega arith) (omega arith) (omega arith),
      )
      (sym (later-words extends m sized 64 t lo (omega arith))) in
      (q, word_kept (schedule m) t w h lo x q)

-- one more round, with the word of the schedule
pub turned : {h s : State} {m v w : List ℕ} {t : ℕ} (r : State) (x : ℕ) → At h m t v s → (x ≡ get_or (schedule m) t 0) × Holds (schedule m) (t + 1) w
    → r ≡ round t x s → At h m (t + 1) w r
unfolding rounds
turned r x a hx er = record { sized = a.sized; holds = hx.1; vars = er ∙ rw (a.vars, hx.0, add-one) }

-- one more, and the sum in one numeral
pub plus : {h : State} {m w : List ℕ} {s : State} (t k : ℕ) → At h m (t + k + 1) w s → At h m (t + (k + 1)) w s
plus {h} {m} {w} {s} t k a = subst (λ (x : ℕ). At h m x w s) (add_assoc t k 1) a
