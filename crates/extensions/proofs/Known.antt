-- An extension of a known kind, from what its data say.
use mathlib.Core.Path.{◌≡◌, refl, sym, ap, ◌∙◌}
use mathlib.Core.List.{List, []}
use mathlib.Core.Bool.{Bool, true, false}
use Prim.Native.Nat.{ℕ, ◌+◌, ◌-◌}
use native.Mathlib.Omega.{arith}
use lib.ListN.{length}
use Rattle.format.specs.Bytes.{be32}
use Rattle.format.specs.Records.{Undo}
use Rattle.format.specs.Layout.{Extension, resolve_undo}
use Rattle.format.specs.Reading.{Read, bad, good, need, shift, bind}
use Rattle.format_laws.proofs.Lists.{part_length}
use Rattle.format_laws.proofs.Tests.{false-true}
use Rattle.format_laws.proofs.Readings.{same_size}
use Rattle.spelling.proofs.Undo.{read-undos, undos-read}
use Rattle.std.specs.Prelude as Code
use Rattle.std.specs.Prelude.{Result, Ok, Some, None, is_some}
use Rattle.format.specs.Places.{data_in}
use Rattle.resolve_undo.specs.Answers.{records_read}
use Rattle.extensions.specs.declared.Found.{Found}
use Rattle.format.specs.declared.Refusal.{Refusal}
use Rattle.extensions.specs.Heads.{part, undos_in, known, Inside}
use Rattle.extensions.specs.Steps.{OneAnswered}
use Rattle.extensions.proofs.Faults.{Faults, undos-faults}

module _ {A : Type 0} (p : ℕ) (x : Read A) (kind : A → Extension) where
  pub known-seen : (seen : Bool) → seen ≡ true → known seen p x kind ≡ bad 14 p
  unfolding known need shift
  known-seen seen e = rw e

  module _ (seen : Bool) (new : seen ≡ false) where
    pub known-bad : (n : ℕ) → x ≡ bad n p → known seen p x kind ≡ bad n p
    unfolding known need shift bind
    known-bad n e = rw (new, e)

    pub known-good : (a : A) (m : ℕ) → x ≡ good a m → known seen p x kind ≡ good (kind a) (8 + m)
    unfolding known need shift bind
    known-good a m e = rw (new, e) (same_size (omega arith))

-- an option of which the test says that it has no value
pub not_some : {A : Type 0} (o : Code.Option A) (r : Bool) → r ≡ is_some o → r ≡ false → o ≡ None
not_some None r e h = refl
not_some (Some a) r e h = false-true (sym h ∙ e)

-- what is answered of a reading is answered of one that is equal to it
pub answered-as : (w : ℕ) (b : List ℕ) (at : ℕ) (found : Found) {x y : Read Extension} (r : Result (ℕ × Found) Refusal) → x ≡ y → OneAnswered w b at found y r → OneAnswered w b at found x r
answered-as w b at found r e h = rw e h

-- the data that end by their size
pub data-sized : (b : List ℕ) (at end : ℕ) → Inside b at end → part b (at + 8) end ≡ data_in (at + 8) b
unfolding data_in
data-sized b at end inside =
    let before : at + 8 - 4 ≡ at + 4 = omega arith in
    let size : end - (at + 8) ≡ be32 b (at + 4) = omega arith in
    rw (before, size)

-- ---- resolve undo

records-inv {ℓ} : {X : Type ℓ} (count : ℕ) (r : Read (List Undo)) → Some count ≡ records_read r → ((us : List Undo) (k : ℕ) → r ≡ good us k → count ≡ length us → X) → X
records-inv count (bad n p) e f = let z : ◌≡◌ {A = ℕ} 0 1 = cc in absurd (omega arith)
records-inv count (good us k) e f = f us k refl (cc)

records-fault : (p : ℕ) (r : Read (List Undo)) → Faults 17 p r → None ≡ records_read r → r ≡ bad 17 p
records-fault p (bad n q) h e = h.only n q refl
records-fault p (good us k) h e = let z : ◌≡◌ {A = ℕ} 0 1 = cc in absurd (omega arith)

module _ (w : ℕ) (b : List ℕ) (at end : ℕ) (inside : Inside b at end) (found : Found) (new : found.undo ≡ None) where
  pub undo-refused : None ≡ records_read (undos_in w at (part b (at + 8) end)) → known (is_some found.undo) at (undos_in w at (part b (at + 8) end)) resolve_undo ≡ bad 17 at
  undo-refused e = known-bad at _ resolve_undo _ (ap is_some new) 17 (records-fault at _ (undos-faults w at _ [] (part b (at + 8) end)) e)

  pub undo-added : (count : ℕ) → Some count ≡ records_read (undos_in w at (part b (at + 8) end))
      → OneAnswered w b at found (known (is_some found.undo) at (undos_in w at (part b (at + 8) end)) resolve_undo)
      (Ok (end, record { tree = found.tree; undo = Some (record { at = at + 8; end = end; count = count }) }))
  undo-added count e =
      let d : List ℕ = part b (at + 8) end in
      records-inv count (undos_in w at d) e λ us k q number.
      let l = part_length b (at + 8) end inside.1 in
      let h = undos-read w at (length d) [] d us k q in
      let zero : undos_in w 0 d ≡ good us (length d) = read-undos w 0 (length d) h.1 (omega arith) in (
        resolve_undo us,
        known-good at _ resolve_undo _ (ap is_some new) us k q ∙ same_size (omega arith),
        (
          new,
          record {
            order = omega arith;
            inside = inside.1;
            sized = data-sized b at end inside;
            reads = zero;
            records = number;
          },
          refl,
          refl,
        ),
      )
