-- Runs of stores into a list. Assumes nothing.
use Rattle.std.proofs.Common.{[], take-suc, ap, ◌∷◌, add-zero, ◌≡◌, ℕ, zero, suc, ◌+◌, ◌-◌, ◌<◌, ◌≤◌, List, ◌++◌, length, get_or, take, drop, set, replicate, refl, sym, ◌∙◌, append_assoc, zero-add, add-one, arith, length-drop, length-take-le, take-append-drop, take_all, take_at}
use Rattle.std.proofs.lemmas.Slice.{put_mid-paste}
use borrow.Rule.Slice.PartMut.{put_mid}
use native.Mathlib.Nat.{sub-zero}
use lib.Seq.{sets, sets-eq, paste-suc}

-- a loop that copies s over the start of d, with w after i turns: one more turn, and the end
module _ (d s w : List ℕ) (i : ℕ) (now : w ≡ take i s ++ drop i d) where
  pub copy-next : (v : ℕ) → v ≡ get_or s i 0 → i < length d → i < length s → set w i v ≡ take (i + 1) s ++ drop (i + 1) d
  copy-next v e a b = rw (now, e, add-one) (simp zero-add at (paste-suc d 0 s i 0 (rw zero-add a) b))

  pub copy_done : length s ≤ i → w ≡ s ++ drop i d
  copy_done h = now ∙ rw (take_all i s h)

pub drop-replicate : (k n : ℕ) → drop k (replicate n 0) ≡ replicate {A = ℕ} (n - k) 0
drop-replicate zero n = rw sub-zero
drop-replicate (suc k) zero = let e : 0 - suc k ≡ 0 = omega arith in rw e
drop-replicate (suc k) (suc n) = let e : suc n - suc k ≡ n - k = omega arith in rw e (drop-replicate k n)

-- a slice from byte k on, with its length
pub rest_of : (s : List ℕ) (k : ℕ) → take (length s - k) (drop k s) ≡ drop k s
rest_of s k = take_all (length s - k) (drop k s) (omega (arith, length-drop k s))

-- a message with a slice in two parts behind it
pub in_parts : (m s : List ℕ) (k : ℕ) → (m ++ take k s) ++ take (length s - k) (drop k s) ≡ m ++ s
in_parts m s k = rw (rest_of s k) (append_assoc m (take k s) (drop k s) ∙ rw (take-append-drop k s))

-- a run over as many elements, as a slice of b is written
pub put-run : (b s : List ℕ) (i k : ℕ) → length s ≡ k → i + k ≤ length b → put_mid i k b s ≡ sets b i s
put-run b s i k l h =
    put_mid-paste i k b s s (length s) refl l refl ∙ rw (take_all (length s) s (omega arith)) (sym (sets-eq s b i (omega arith)))

-- two runs, the second where the first ends, are one
pub sets-append : (s t l : List ℕ) (i : ℕ) → sets (sets l i s) (i + length s) t ≡ sets l i (s ++ t)
sets-append [] t l i = rw add-zero
sets-append (a ∷ s) t l i =
    let e : i + suc (length s) ≡ suc i + length s = omega arith in
    rw e (sets-append s t (set l i a) (suc i))

-- a run that grows by the next element of s: one more turn of a loop that stores s
pub sets-next : (l s : List ℕ) (j i : ℕ) → i < length s → set (sets l j (take i s)) (j + i) (get_or s i 0) ≡ sets l j (take (i + 1) s)
sets-next l s j i h =
    let e : length (take i s) ≡ i = length-take-le i s (omega arith) in
    let a = rw e at (sets-append (take i s) (get_or s i 0 ∷ []) l j) in
    rw add-one (a ∙ ap (sets l j) (sym (take-suc s i 0 h)))

-- a run from the start on
pub sets-first : (l s : List ℕ) → length s ≤ length l → sets l 0 s ≡ s ++ drop (length s) l
sets-first l s h = rw zero-add at (sets-eq s l 0 (rw zero-add h))

-- a run that starts where p ends
pub sets-after : (p q s : List ℕ) (i : ℕ) → length p ≡ i → i + length s ≤ length (p ++ q) → sets (p ++ q) i s ≡ p ++ (s ++ drop (i + length s) (p ++ q))
sets-after p q s i e h = sets-eq s (p ++ q) i h ∙ rw (take_at p q i e) (append_assoc p s (drop (i + length s) (p ++ q)))
