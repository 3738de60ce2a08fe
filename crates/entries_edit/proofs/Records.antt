-- Laws of the bytes of an entry that is put.
use mathlib.Core.Path.{◌≡◌, refl, sym, ap, ◌∙◌}
use mathlib.Core.List.{List, [], ◌∷◌, ◌++◌, append_assoc, append-nil}
use Prim.Native.Nat.{ℕ, ◌+◌, ◌*◌, ◌≤◌}
use native.Mathlib.Omega.{arith}
use lib.ListN.{take}
use Rattle.format.specs.Bytes.{put32, put32s}
use Rattle.format.specs.Layout.{bit, word_of}
use Rattle.format.specs.Writer.{write_entry}
use Rattle.format_laws.proofs.Numbers.{length-put32}
use Rattle.output.specs.Output.{Wrote}
use Rattle.output.proofs.Laws.{wrote_then}
use Rattle.entries_write.specs.Parts.{EntryParts, RestWritten, EntryWritten}
use Rattle.entries.specs.declared.record.Fields.{Fields}
use Rattle.entries.specs.Record.{entry_with}

-- ---- 32-bit numbers

pub after-32 : {out : List ℕ} {at : ℕ} (x : ℕ) {out' : List ℕ} {r : ℕ} → Wrote out at (put32 x) out' r → r ≡ at + 4
after-32 x h = h.end ∙ rw length-put32 refl

put32s-append : (ms ns : List ℕ) → put32s (ms ++ ns) ≡ put32s ms ++ put32s ns
unfolding put32s
put32s-append [] ns = refl
put32s-append (m ∷ ms) ns = ap (λ (s : List ℕ). put32 m ++ s) (put32s-append ms ns) ∙ sym (append_assoc (put32 m) (put32s ms) (put32s ns))

module _ {out : List ℕ} {at : ℕ} (a b c d e : ℕ) {o₁ o₂ o₃ o₄ out' : List ℕ} {p₁ p₂ p₃ p₄ r : ℕ}
    (x₁ : Wrote out at (put32 a) o₁ p₁) (x₂ : Wrote o₁ p₁ (put32 b) o₂ p₂) (x₃ : Wrote o₂ p₂ (put32 c) o₃ p₃) (x₄ : Wrote o₃ p₃ (put32 d) o₄ p₄)
    (x₅ : Wrote o₄ p₄ (put32 e) out' r) where
  bytes : Wrote out at (put32s (a ∷ b ∷ c ∷ d ∷ e ∷ [])) out' r
  unfolding put32s
  bytes =
      rw
      (append-nil (put32 e))
      (wrote_then out (put32 a) _ o₁ out' at p₁ r x₁
      (wrote_then o₁ (put32 b) _ o₂ out' p₁ p₂ r x₂ (wrote_then o₂ (put32 c) _ o₃ out' p₂ p₃ r x₃ (wrote_then o₃ (put32 d) _ o₄ out' p₃ p₄ r x₄ x₅))))

  pub five-wrote : Wrote out at (put32s (a ∷ b ∷ c ∷ d ∷ e ∷ [])) out' r × (r ≡ at + 20)
  five-wrote =
      let e₁ = after-32 a x₁ in
      let e₂ = after-32 b x₂ in
      let e₃ = after-32 c x₃ in
      let e₄ = after-32 d x₄ in
      let e₅ = after-32 e x₅ in
      (bytes, omega arith)

-- ---- the entry

-- numbers in two parts, then the object name
pub fields-wrote : {out : List ℕ} {at : ℕ} (ms ns object : List ℕ) {o₁ o₂ out' : List ℕ} {p₁ p₂ r : ℕ}
    → Wrote out at (put32s ms) o₁ p₁ → Wrote o₁ p₁ (put32s ns) o₂ p₂ → Wrote o₂ p₂ object out' r → Wrote out at (put32s (ms ++ ns) ++ object) out' r
fields-wrote {out} {at} ms ns object {o₁} {o₂} {out'} {p₁} {p₂} {r} x y z =
    rw
    (put32s-append ms ns, append_assoc (put32s ms) (put32s ns) object)
    (wrote_then out (put32s ms) _ o₁ out' at p₁ r x (wrote_then o₁ (put32s ns) object o₂ out' p₁ p₂ r y z))

module _ (w : ℕ) (x : Fields) (name : List ℕ) where
  put-told : (assume skip intent : ℕ) → assume ≡ bit x.assume_valid * 32768 → skip ≡ bit x.skip_worktree * 16384
      → intent ≡ bit x.intent_to_add * 8192 → EntryParts (entry_with w x name) (assume + x.stage * 4096) (skip + intent) name
  unfolding word_of
  put-told assume skip intent is also last = record { flags = omega arith; word_is = omega arith; name_is = refl }

  pub record-wrote : {out : List ℕ} {at version : ℕ} {out' : List ℕ} {p : ℕ} (assume skip intent : ℕ) {previous kept : ℕ} {out'' : List ℕ} {r : ℕ}
      → Wrote out at (put32s (entry_with w x []).numbers ++ take w x.object) out' p → w ≤ 32 → p ≡ at + (40 + w)
      → assume ≡ bit x.assume_valid * 32768 → skip ≡ bit x.skip_worktree * 16384 → intent ≡ bit x.intent_to_add * 8192
      → RestWritten w out' p version (assume + x.stage * 4096) (skip + intent) name previous kept out'' r
      → EntryWritten w out at version (entry_with w x name) previous kept out'' r
  unfolding write_entry
  record-wrote {out} {at} {version} {out'} {p} assume skip intent {out'' = out''} {r = r} first narrow e is also last rest =
      let near = rest.near in
      record {
        wrote = λ q beside.
            rw
            (← append_assoc (put32s (entry_with w x []).numbers) (take w x.object) _)
            (wrote_then out (put32s (entry_with w x []).numbers ++ take w x.object) _ out' out'' at p r first
            (rest.wrote (entry_with w x name) q (put-told assume skip intent is also last) beside));
        near = omega arith;
      }
