-- Laws of names that are written: the number N, padding, the rest of a name.
use mathlib.Core.Path.{◌≡◌, sym}
use mathlib.Core.List.{List, [], ◌∷◌, ◌++◌}
use Prim.Native.Nat.{ℕ, ◌+◌, ◌-◌, ◌/◌, ◌%◌, ◌≤◌, ◌<◌}
use native.Mathlib.Omega.{arith}
use lib.ListN.{length, take, drop, replicate, length-drop, length-replicate}
use lib.Seq.{take_all}
use borrow.Author.Tests.{eq-eqb, ne_eqb}
use Rattle.format.specs.Bytes.{put_n}
use Rattle.format.specs.Layout.{entry_length}
use Rattle.format.specs.Writer.{write_plain, write_packed, write_name}
use Rattle.spelling.proofs.Bytes.{put_n-one, put_n-two}
use Rattle.output.specs.Output.{Wrote}
use Rattle.output.proofs.Laws.{wrote_then}
use Rattle.entries_write.specs.Parts.{PrefixKept, NameWritten}

-- ---- the number N

pub number-one : (out out' : List ℕ) (at n r : ℕ) → n < 128 → Wrote out at (n ∷ []) out' r → Wrote out at (put_n n) out' r × (r ≤ at + 2)
number-one out out' at n r h x = let e = x.end in (rw (put_n-one n h) x, omega arith)

pub number-two :
    (out out' out'' : List ℕ) (at n p r : ℕ) → 128 ≤ n → Wrote out at ((128 + n / 128 - 1) ∷ []) out' p → Wrote out' p (n % 128 ∷ []) out'' r →
    Wrote out at (put_n n) out'' r × (r ≤ at + 2)
number-two out out' out'' at n p r h x y =
    let e = x.end in
    let f = y.end in
    (rw (put_n-two n h) (wrote_then out ((128 + n / 128 - 1) ∷ []) (n % 128 ∷ []) out' out'' at p r x y), omega arith)

-- ---- the name

pub plain-wrote :
    (out name out' out'' : List ℕ) (at f all p r : ℕ) → all ≡ entry_length f (length name) → all ≤ f + length name + 8 → length name ≤ 8192 →
    Wrote out at name out' p → Wrote out' p (replicate (all - (f + length name)) 0) out'' r → Wrote out at (write_plain f name) out'' r × (r ≤ at + 8200)
unfolding write_plain
plain-wrote out name out' out'' at f all p r is padded short x y =
    let pad : List ℕ = replicate (all - (f + length name)) 0 in
    let long : length pad ≡ all - (f + length name) = length-replicate (all - (f + length name)) 0 in
    let e = x.end in
    let g : r ≡ p + length pad = y.end in
    (rw (sym is) (wrote_then out name pad out' out'' at p r x y), omega arith)

pub packed-wrote :
    (out out' out'' out''' name : List ℕ) (at previous kept p q r : ℕ) → PrefixKept name previous kept →
    Wrote out at (put_n (previous - kept)) out' p × (p ≤ at + 2) → Wrote out' p (take (length name - kept) (drop kept name)) out'' q → Wrote out'' q (0 ∷ []) out''' r →
    NameWritten out at name previous kept (λ s. write_packed s name) out''' r
unfolding write_packed
packed-wrote out out' out'' out''' name at previous kept p q r h (x, few) y z =
    let long : length (drop kept name) ≡ length name - kept = length-drop kept name in
    let all : length (drop kept name) ≤ length name - kept = omega arith in
    let end : Wrote out' p (drop kept name) out'' q = rw (take_all (length name - kept) (drop kept name) all) at y in
    let rest : Wrote out' p (drop kept name ++ (0 ∷ [])) out''' r = wrote_then out' (drop kept name) (0 ∷ []) out'' out''' p q r end z in
    let e = end.end in
    let f = z.end in
    let short = h.short in
    record {
      wrote = λ s beside. rw (beside.long, beside.shared) (wrote_then out (put_n (previous - kept)) (drop kept name ++ (0 ∷ [])) out' out''' at p r x rest);
      near = omega arith;
    }

module _ (out out' name : List ℕ) (at version f previous kept r : ℕ) where
  pub name-packed : version ≡ 4 → NameWritten out at name previous kept (λ s. write_packed s name) out' r
      → NameWritten out at name previous kept (λ s. write_name version f s name) out' r
  unfolding write_name
  name-packed e h = rw (eq-eqb version 4 e) h

  pub name-plain : (version ≡ 4 → ⊥) → Wrote out at (write_plain f name) out' r × (r ≤ at + 8200)
      → NameWritten out at name previous kept (λ s. write_name version f s name) out' r
  unfolding write_name
  name-plain e (h, few) = rw (ne_eqb version 4 e) (record { wrote = λ s beside. h; near = few })
