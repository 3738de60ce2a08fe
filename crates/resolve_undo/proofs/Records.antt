-- The records of the data, one after another: what is answered of what is left. w is the width of an object name.
use mathlib.Core.Path.{◌≡◌, refl, sym, ap, ◌∙◌}
use mathlib.Core.List.{List, [], ◌∷◌}
use mathlib.Core.Bool.{true}
use Prim.Native.Nat.{ℕ, suc, ◌+◌, ◌-◌, ◌≤◌, ◌<◌}
use native.Mathlib.Omega.{arith}
use lib.ListN.{length, take, drop, length-drop, drop_of_length-le}
use lib.Seq.{drop-drop, length-take-le}
use Rattle.format.specs.Bytes.{before}
use Rattle.format.specs.Names.{ok_name}
use Rattle.format.specs.Records.{Undo}
use Rattle.format.specs.Reading.{Read, bad, good, shift, bind}
use Rattle.format.specs.Reader.{read_text, read_stages, read_undo, read_undos}
use Rattle.format_laws.proofs.Tests.{and-inv}
use Rattle.format_laws.proofs.Texts.{before-le, text-inv}
use Rattle.format_laws.proofs.Readings.{need-inv, bind_inv}
use Rattle.spelling.proofs.Undo.{undos_of, undos_of-end, undos_of-step}
use Rattle.resolve_undo.specs.declared.Record.{Record}
use Rattle.std.specs.Prelude as Code
use Rattle.std.specs.Prelude.{Some, None}
use Rattle.format.specs.Places.{after_undo, undo_start}
use Rattle.resolve_undo.specs.Answers.{with_mode, read_modes, record_of, record_read, RecordWithin, records_read}
use Rattle.resolve_undo.proofs.Laws.{record-bad-inv, record-good-inv, stages-read, record-bounds, undo_is}

-- ---- what one record says

-- a record that was read: its path, then the rest; by continuation
pub undo-inv {ℓ} : {X : Type ℓ} (w p : ℕ) (previous s : List ℕ) (u : Undo) (k : ℕ) → read_undo w p previous s ≡ good u k
    → ((path : List ℕ) (i j : ℕ) → read_text 0 17 p s ≡ good path i → ok_name path ≡ true → read_modes w p path (drop i s) ≡ good u j → i + j ≡ k → X) → X
undo-inv w p previous s u k q f =
    bind_inv _ _ _ _ (sym (undo_is w p previous s) ∙ q) λ path i j pathq q₁ size.
    need-inv _ _ _ _ _ _ q₁ λ test q₂. f path i j pathq (and-inv (ok_name path) _ test).0 q₂ size

-- the same as far as the object names, which are after n bytes
pub stages-inv {ℓ} : {X : Type ℓ} (w p : ℕ) (previous s : List ℕ) (u : Undo) (k : ℕ) → read_undo w p previous s ≡ good u k
    → ((path : List ℕ) (i a b c n j : ℕ) → read_text 0 17 p s ≡ good path i → read_stages w p path a b c (drop n s) ≡ good u j → n + j ≡ k → X) → X
unfolding read_modes with_mode
stages-inv w p previous s u k q f =
    undo-inv w p previous s u k q λ path i j pathq ok q₀ size.
    bind_inv _ _ _ _ q₀ λ a i₀ j₀ aq q₁ size₀.
    bind_inv _ _ _ _ q₁ λ b i₁ j₁ bq q₂ size₁.
    bind_inv _ _ _ _ q₂ λ c i₂ j₂ cq q₃ size₂.
    f path i a b c (i + i₀ + i₁ + i₂) j₂ pathq (rw (drop-drop i₀ i s, drop-drop i₁ (i + i₀) s, drop-drop i₂ (i + i₀ + i₁) s) at q₃) (omega arith)

-- it begins with its path
pub undo-begins : (w p : ℕ) (previous s : List ℕ) (u : Undo) (k : ℕ) → 1 ≤ w → read_undo w p previous s ≡ good u k
    → (take (length u.path) s ≡ u.path) × (length u.path ≤ length s)
undo-begins w p previous s u k wide q =
    stages-inv w p previous s u k q λ path i a b c n j pathq stagesq size.
    text-inv 0 17 p s path i pathq λ fits is size₁.
    let l = before-le 0 s in
    let path-is : u.path ≡ take (before 0 s) s = ap (λ (u : Undo). u.path) (stages-read w p path a b c _ wide u j stagesq).0 ∙ sym is in
    let long : length u.path ≡ before 0 s = ap length path-is ∙ length-take-le (before 0 s) s l in
    (rw long (sym path-is), omega arith)

-- ---- all records

-- what is answered where r are the records after n others
abbrev records_from : ℕ → Read (List Undo) → Code.Option ℕ
records_from n (bad k p) = None
records_from n (good us k) = Some (n + length us)

-- the same of the records that the data d has from at on
abbrev pub answer_from : ℕ → ℕ → ℕ → ℕ → List ℕ → List ℕ → Code.Option ℕ
answer_from w p n at previous d = records_from n (undos_of w p previous (drop at d))

from-none : (r : Read (List Undo)) → records_read r ≡ records_from 0 r
from-none (bad n p) = refl
from-none (good us k) = let sum : 0 + length us ≡ length us = omega arith in rw sum

pub from_start : (w p : ℕ) (d : List ℕ) → records_read (read_undos w p (length d) [] d) ≡ answer_from w p 0 0 [] d
unfolding undos_of
from_start w p d = from-none (read_undos w p (length d) [] d)

pub from_end : (w p n at : ℕ) (previous d : List ℕ) → length d ≤ at → answer_from w p n at previous d ≡ Some n
from_end w p n at previous d end = let sum : n + 0 ≡ n = omega arith in rw (drop_of_length-le d end, undos_of-end, sum)

bad-from : (n m p : ℕ) (k : Undo → ℕ → Read (List Undo)) → records_from n (bind (bad m p) k) ≡ None
unfolding bind
bad-from n m p k = refl

more-from : (n k : ℕ) (u : Undo) (r : Read (List Undo)) → records_from n (shift k (bind r (λ us m. good (u ∷ us) 0))) ≡ records_from (n + 1) r
unfolding bind shift
more-from n k u (bad m p) = refl
more-from n k u (good us m) = ap Some (omega arith)

-- the first record, the rest, and the place of a later one
module _ (w p : ℕ) (previous s : List ℕ) (u : Undo) (k : ℕ) (q : read_undo w p previous s ≡ good u k) where
  undos-after : 1 ≤ length s → undos_of w p previous s ≡ shift k (bind (undos_of w p u.path (drop k s)) (λ us m. good (u ∷ us) 0))
  unfolding bind
  undos-after h = undos_of-step w p previous s h ∙ rw q

  pub place_after : (n : ℕ) → undo_start w p (suc n) previous s ≡ k + undo_start w p n u.path (drop k s)
  unfolding undo_start after_undo
  place_after n = rw q

pub place_end : (w p at left : ℕ) (previous d : List ℕ) → left ≤ 0 → at + undo_start w p left previous (drop at d) ≡ at
unfolding undo_start
place_end w p at left previous d h = let none : left ≡ 0 = omega arith in rw none (omega arith)

-- ---- the record at a place

-- r is the record at the place at, after one of the path previous
abbrev pub IsRecordAt : ℕ → ℕ → List ℕ → List ℕ → Code.Option Record → Type 0
IsRecordAt w at previous d r = ((p : ℕ) → r ≡ record_read w at (read_undo w p previous (drop at d))) × RecordWithin at (length d) r

module _ (w at : ℕ) (previous d : List ℕ) (r : Code.Option Record) (told : IsRecordAt w at previous d r) where
  -- it is refused
  module _ (e : r ≡ None) (p : ℕ) where
    pub refusal {ℓ} : {X : Type ℓ} → ((n m : ℕ) → read_undo w p previous (drop at d) ≡ bad n m → X) → X
    refusal f = record-bad-inv w at (read_undo w p previous (drop at d)) (sym e ∙ told.0 p) f

    pub from-bad : (n : ℕ) → at < length d → answer_from w p n at previous d ≡ None
    from-bad n inside =
        let long : 1 ≤ length (drop at d) = simp length-drop (omega arith) in
        refusal λ m i q. rw (undos_of-step w p previous (drop at d) long, q) (bad-from n m i _)

    pub place-bad : (left : ℕ) → 0 < left → at + undo_start w p left previous (drop at d) ≡ at
    unfolding undo_start after_undo
    place-bad left some =
        let one : left ≡ suc (left - 1) = omega arith in
        refusal λ m i q. rw (one, q) (omega arith)

  -- it is read
  module _ (g : Record) (e : r ≡ Some g) where
    module _ (p : ℕ) where
      pub reading {ℓ} : {X : Type ℓ} → ((u : Undo) (k : ℕ) → read_undo w p previous (drop at d) ≡ good u k → g ≡ record_of w at u k → X) → X
      reading f = record-good-inv w at (read_undo w p previous (drop at d)) g (sym e ∙ told.0 p) f

      pub from-good : 1 ≤ w → at < length d → (n : ℕ) → answer_from w p n at previous d ≡ answer_from w p (n + 1) g.next (take g.path (drop at d)) d
      from-good wide inside n =
          reading λ u k q is.
          let long : 1 ≤ length (drop at d) = simp length-drop (omega arith) in
          let h = undo-begins w p previous (drop at d) u k wide q in
          rw (undos-after w p previous (drop at d) u k q long, is, h.0, ← (drop-drop k at d))
          (more-from n k u (undos_of w p u.path (drop k (drop at d))))

      -- the record left after it, where rest are left after that
      pub place-more : 1 ≤ w → (left rest : ℕ) → left ≡ suc rest
          → at + undo_start w p left previous (drop at d) ≡ g.next + undo_start w p rest (take g.path (drop at d)) (drop g.next d)
      place-more wide left rest one =
          reading λ u k q is.
          let h = undo-begins w p previous (drop at d) u k wide q in
          let later = place_after w p previous (drop at d) u k q rest in
          rw (is, h.0, ← (drop-drop k at d)) (ap (λ n. at + undo_start w p n previous (drop at d)) one ∙ omega arith)

    -- it takes bytes, and it and its path end in the data
    pub within : 1 ≤ w → at ≤ length d → (at < g.next) × (g.next ≤ length d) × (at + g.path ≤ length d)
    within wide inside =
        let b = record-bounds at (length d) g r told.1 e in
        let fits : at + g.path ≤ length d =
        reading 0 λ u k q is.
        let h = undo-begins w 0 previous (drop at d) u k wide q in
        let l = length-drop at d in
        rw is (omega arith) in
        (b.0, b.1, fits)
