-- Laws of a name at its place, of two names after each other, and of the name that version 4 rebuilds in the workspace.
use mathlib.Core.Path.{◌≡◌, refl, sym, ap, ◌∙◌}
use mathlib.Core.List.{List, ◌++◌}
use mathlib.Core.Bool.{false}
use Prim.Native.Nat.{ℕ, ◌+◌, ◌-◌, ◌≤◌}
use native.Mathlib.Nat.{add-sub_cancel_left}
use native.Mathlib.Omega.{arith}
use lib.ListN.{length, take, drop, length-take, length-drop}
use lib.Seq.{length-take-le, take-add}
use lib.Dec.{eqb}
use borrow.Author.Tests.{eq-eqb, ne_eqb}
use Rattle.std.specs.declared.cmp.Ordering.{Ordering}
use Rattle.format.specs.Names.{compare, common, rises}
use Rattle.format_laws.proofs.Tests.{by-test, by_cond}
use Rattle.format_laws.proofs.Names.{compare-append, common-append}
use Rattle.entries_run.specs.declared.Cursor.{Cursor}
use Rattle.entries_run.specs.declared.Standing.{Standing}
use Rattle.entries_run.specs.Steps.{name_at, Inside, StandingOf, NameRebuilt}

-- ---- a name at its place

pub name_at-length : (v : ℕ) (b work : List ℕ) (c : Cursor) → Inside b c → 8192 ≤ length work → length (name_at v b work c.start c.len) ≡ c.len
unfolding name_at
name_at-length v b work c h room =
    by_cond
    (λ s. length s ≡ c.len)
    (eqb v 4)
    (take c.len work)
    (take c.len (drop c.start b))
    (λ packed. length-take-le c.len work (omega arith))
    (λ plain. let more : c.len ≤ length (drop c.start b) = simp length-drop (omega arith) in length-take-le c.len (drop c.start b) more)

module _ (v : ℕ) (b work : List ℕ) (start len : ℕ) where
  pub name_at-short : length (name_at v b work start len) ≤ len
  unfolding name_at
  name_at-short =
      by-test (eqb v 4)
      (λ e. rw (e, length-take) (omega arith))
      (λ e. rw (e, length-take) (omega arith))

  pub name_at-work : v ≡ 4 → take len work ≡ name_at v b work start len
  unfolding name_at
  name_at-work e = rw (eq-eqb v 4 e) refl

  pub name_at-body : (v ≡ 4 → ⊥) → take (start + len - start) (drop start b) ≡ name_at v b work start len
  unfolding name_at
  name_at-body e = rw (ne_eqb v 4 e, add-sub_cancel_left) refl

  pub name_at-plain : eqb v 4 ≡ false → name_at v b work start len ≡ take len (drop start b)
  unfolding name_at
  name_at-plain e = rw e

-- ---- two names

-- two names that have k bytes in common, s standing to t as o says
pub stands : (s t : List ℕ) (m n k : ℕ) (o : Ordering) → k ≡ common s t → k ≤ length s → compare s t ≡ o
    → StandingOf s t m n (record { rises = rises o m n; common = k })
stands s t m n k o is within order = record { rises = ap (λ (x : Ordering). rises x m n) (sym order); common = is; fits = within }

-- the first p bytes of work less their last n, then s
module _ (work s : List ℕ) (p n : ℕ) (fits : n ≤ p) (long : p ≤ length work) where
  kept : take p work ≡ take (p - n) work ++ take (p - (p - n)) (drop (p - n) work)
  kept =
      let e : p ≡ p - n + (p - (p - n)) = omega arith in
      ap (λ (k : ℕ). take k work) e ∙ take-add (p - n) (p - (p - n)) work

  -- the replaced bytes compare to s as the old name to the new one
  pub rebuilt : (k l : ℕ) (work' : List ℕ) (d : Standing) → StandingOf (take (p - (p - n)) (drop (p - n) work)) s k l d
      → work' ≡ take (p - n) work ++ (s ++ drop (p - n + length s) work)
      → NameRebuilt work p n s k l work' (record { rises = d.rises; common = p - n + d.common })
  rebuilt k l work' d h e =
      let q : List ℕ = take (p - n) work in
      let dropped : List ℕ = take (p - (p - n)) (drop (p - n) work) in
      let order : compare (take p work) (q ++ s) ≡ compare dropped s = rw kept (compare-append q dropped s) in
      let shared : common (take p work) (q ++ s) ≡ length q + common dropped s = rw kept (common-append q dropped s) in
      let size : length q ≡ p - n = length-take-le (p - n) work (omega arith) in
      record {
        rises = h.rises ∙ ap (λ (x : Ordering). rises x k l) (sym order);
        common = omega (arith, shared, size, h.common);
        held = e;
      }
