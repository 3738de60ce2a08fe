-- A part that is written: a place for none, two parts as one, in either order.
use mathlib.Core.Path.{◌≡◌, refl, sym, ap, ◌∙◌}
use mathlib.Core.List.{List, [], ◌∷◌, ◌++◌, append_assoc}
use Prim.Native.Nat.{ℕ, ◌+◌, ◌≤◌, ◌<◌}
use native.Mathlib.Nat.{add_assoc}
use native.Mathlib.Omega.{arith}
use native.Mathlib.Numerals.{add-one}
use lib.ListN.{length, take, drop, set, replicate, length-append, length-set, take-append-drop, replicate-append-replicate}
use lib.Seq.{take_at, drop_at, take-take, take-append-le, drop-append-add, drop-drop, length-take-le, set_split}
use Rattle.output.specs.Output.{with_at, Wrote}

-- no part at all
pub wrote_nothing : (out : List ℕ) (at : ℕ) → Wrote out at [] out at
unfolding with_at
wrote_nothing out at =
    let z : at + 0 ≡ at = omega arith in
    record {
      end = omega arith;
      long = refl;
      held = λ h. rw z (sym (take-append-drop at out));
    }

-- a part that does not fit
pub wrote-past : (out s : List ℕ) (at r : ℕ) → r ≡ at + length s → length out < r → Wrote out at s out r
wrote-past out s at r e h = record { end = e; long = refl; held = λ fits. absurd (let z : ⊥ = omega arith in z) }

-- one byte
pub wrote-byte : (out : List ℕ) (at x : ℕ) → at < length out → Wrote out at (x ∷ []) (set out at x) (at + 1)
unfolding with_at
wrote-byte out at x h = record { end = refl; long = length-set out at x; held = λ fits. rw add-one (set_split out at x h) }

-- two parts, one after the other
pub with-then : (out s t : List ℕ) (at : ℕ) → at ≤ length out → with_at (with_at out at s) (at + length s) t ≡ with_at out at (s ++ t)
unfolding with_at
with-then out s t at h =
    let p : List ℕ = take at out ++ s in
    let n : length p ≡ at + length s = simp (length-append, length-take-le at out h) in
    let whole : take at out ++ (s ++ drop (at + length s) out) ≡ p ++ drop (at + length s) out = sym (append_assoc (take at out) s (drop (at + length s) out)) in
    let front : take (at + length s) (p ++ drop (at + length s) out) ≡ p = take_at p _ _ n in
    let back : drop (at + length s + length t) (p ++ drop (at + length s) out) ≡ drop (at + length s + length t) out =
    ap (λ (k : ℕ). drop (k + length t) (p ++ drop (at + length s) out)) (sym n) ∙ drop-append-add p _ (length t) ∙ drop-drop (length t) (at + length s) out in
    let far : at + length s + length t ≡ at + (length s + length t) = add_assoc at (length s) (length t) in
    let end : List ℕ = drop (at + (length s + length t)) out in
    rw (whole, front, back, length-append, far, append_assoc (take at out) s (t ++ end), append_assoc s t end)

pub wrote_then : (out s t out' out'' : List ℕ) (at p r : ℕ) → Wrote out at s out' p → Wrote out' p t out'' r → Wrote out at (s ++ t) out'' r
wrote_then out s t out' out'' at p r x y =
    let l : length (s ++ t) ≡ length s + length t = length-append s t in
    let e = x.end in
    let f = y.end in
    record {
      end = omega arith;
      long = y.long ∙ x.long;
      held = λ h.
          let first : out' ≡ with_at out at s = x.held (omega arith) in
          let fits : p + length t ≤ length out' = let same = x.long in omega arith in
          y.held fits ∙ rw (e, first) (with-then out s t at (omega arith));
    }

-- one NUL more
pub wrote-nul : (out out' out'' : List ℕ) (at n k p r : ℕ) → n + 1 ≡ k → Wrote out at (replicate n 0) out' p → Wrote out' p (0 ∷ []) out'' r
    → Wrote out at (replicate k 0) out'' r
wrote-nul out out' out'' at n k p r e x y = rw (← e, ← replicate-append-replicate {A = ℕ} n 1 0) (wrote_then out (replicate n 0) (0 ∷ []) out' out'' at p r x y)

-- a head of k bytes in front of a part that is written already
with-before : (out s t : List ℕ) (at : ℕ) → at + length s ≤ length out → with_at (with_at out (at + length s) t) at s ≡ with_at out at (s ++ t)
unfolding with_at
with-before out s t at h =
    let p : List ℕ = take (at + length s) out in
    let n : length p ≡ at + length s = length-take-le (at + length s) out h in
    let in_p : at ≤ length p = omega arith in
    let less : at ≤ at + length s = omega arith in
    let end : List ℕ = t ++ drop (at + length s + length t) out in
    let front : take at (p ++ end) ≡ take at out = take-append-le at p end in_p ∙ take-take at (at + length s) out less in
    let back : drop (at + length s) (p ++ end) ≡ end = drop_at p end _ n in
    let far : at + length s + length t ≡ at + (length s + length t) = add_assoc at (length s) (length t) in
    rw (front, back, length-append, far, append_assoc s t (drop (at + (length s + length t)) out))

pub wrote-before : (out s t out' out'' : List ℕ) (at k r : ℕ) → length s ≡ k → Wrote out (at + k) t out' r → Wrote out' at s out'' (at + k)
    → Wrote out at (s ++ t) out'' r
wrote-before out s t out' out'' at k r n x y =
    let l : length (s ++ t) ≡ length s + length t = length-append s t in
    let e = x.end in
    record {
      end = omega arith;
      long = y.long ∙ x.long;
      held = λ h.
          let same = x.long in
          let first : out' ≡ with_at out (at + length s) t = rw n (x.held (omega arith)) in
          let fits : at + length s ≤ length out' = omega arith in
          y.held fits ∙ rw first (with-before out s t at (omega arith));
    }
