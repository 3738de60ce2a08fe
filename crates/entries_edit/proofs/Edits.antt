-- Laws of all entries that are written with an edit: those in front, one that is put or left out, the others.
use mathlib.Core.Path.{◌≡◌, refl, sym, ap, ◌∙◌}
use mathlib.Core.List.{List, [], ◌∷◌}
use mathlib.Core.Bool.{Bool, true, false, ◌||◌, or_assoc}
use Prim.Native.Nat.{ℕ, zero, suc, ◌+◌, ◌-◌, ◌≤◌}
use native.Mathlib.Omega.{arith}
use lib.ListN.{length, take, drop, get_elem?}
use lib.Seq.{drop-drop}
use lib.Dec.{eqb}
use Rattle.format.specs.Names.{common}
use Rattle.format.specs.Records.{Entry}
use Rattle.format.specs.Layout.{bit}
use Rattle.format.specs.Writer.{needs_word}
use Rattle.format_laws.proofs.Tests.{false-true, by_cond}
use Rattle.fields.proofs.Workspace.{frame_then}
use Rattle.entries_run.specs.Steps.{name_at, key_at, first_cursor, RunRead, EntriesRead, AllRead, Readable}
use Rattle.entries_run.proofs.Names.{name_at-length}
use Rattle.entries_run.proofs.Steps.{run-first}
use Rattle.entries_write.specs.declared.Progress.{Progress}
use Rattle.entries_write.specs.Parts.{Beside, EntryWritten, last_name, WriteBounds, EntriesWritten}
use Rattle.entries.specs.declared.record.Fields.{Fields}
use Rattle.entries.specs.Record.{entry_with}
use Rattle.entries_edit.specs.declared.rest.WriteEnd.{WriteEnd}
use Rattle.entries_edit.specs.Rests.{NamedAt, EntriesWrittenAfter, OthersWritten, RemovedWritten}
use Rattle.entries_edit.proofs.Rests.{written_one, written-front, all-written}
use Rattle.entries_edit.specs.declared.Edit.{Edit}
use Rattle.entries_edit.specs.declared.Edit.TheVariants as E
use Rattle.entries_edit.specs.Edits.{edited, Replaces, EntriesEdited}

-- ---- lists

first-of-rest : {A : Type 0} (k : ℕ) (xs : List A) → get_elem? (drop k xs) 0 ≡ get_elem? xs k
first-of-rest zero [] = refl
first-of-rest zero (x ∷ xs) = refl
first-of-rest (suc k) [] = refl
first-of-rest (suc k) (x ∷ xs) = first-of-rest k xs

-- ---- all entries, edited

edited-written : (w : ℕ) (v : ℕ) (b work : List ℕ) (count : ℕ) (edit : Edit) (e : Entry) (version : ℕ) (out : List ℕ) (at : ℕ) {work' out' : List ℕ} {r : WriteEnd} (n : ℕ)
    → n ≤ count + 1
    → ((es : List Entry) (m : ℕ) → EntriesRead w v count b es m → Replaces edit e.name es
    → EntriesWrittenAfter w version out at [] (edited edit e es) out' r)
    → WriteBounds work out at n work' out' r.at → EntriesEdited w v b work count edit e version out at work' out' r
edited-written w v b work count edit e version out at n few x y =
    let close = y.near in
    record { edited_is = x; bounds = record { near = omega arith; frame = y.frame; out_long = y.out_long } }

replaces-there : (k : ℕ) (there : Bool) (name : List ℕ) (es : List Entry) → Replaces (E.Put k there) name es → there ≡ true → NamedAt k name es
replaces-there k true name es h is = h
replaces-there k false name es h is = false-true is

first-name : (v : ℕ) (b work : List ℕ) → (key_at v b work first_cursor).name ≡ []
unfolding name_at
first-name v b work = by_cond (λ s. s ≡ []) (eqb v 4) (take 0 work) (take 0 (drop 0 b)) (λ packed. refl) (λ plain. refl)

-- as they are
pub kept-written : {w : ℕ} {v : ℕ} {b work : List ℕ} {count version : ℕ} {out : List ℕ} {at : ℕ} {work' out' : List ℕ} {r : Progress}
    → EntriesWritten w v b work first_cursor count version out at work' out' r
    → (e : Entry) → EntriesEdited w v b work count E.Keep e version out at work' out' (record { at = r.at; extended = r.extended })
kept-written {w} {v} {b} {work} {count} {version} {out} {at} h e =
    edited-written w v b work count E.Keep e version out at count (omega arith)
    (λ es m q same. rw (first-name v b work) at (all-written h es m (run-first w v count b work ∙ q)))
    h.bounds

-- whether the entry that is put, one in front of it or one of the others needs the extended word
pub put_word : (w : ℕ) (x : Fields) (name : List ℕ) (front rest : Bool)
    → (((front || x.skip_worktree) || x.intent_to_add) || rest) ≡ (front || (needs_word (entry_with w x name) || rest))
unfolding needs_word
put_word w x name front rest = ap (λ (t : Bool). t || rest) (or_assoc front _ _) ∙ or_assoc front _ rest

-- the first k of them, then a change
module _ {w : ℕ} {v : ℕ} {b work : List ℕ} (count : ℕ) {k version : ℕ} {out : List ℕ} {at : ℕ} {work₁ out₁ : List ℕ} {p : Progress} (few : k ≤ count)
    (h : EntriesWritten w v b work first_cursor k version out at work₁ out₁ p) where
  front-on {ℓ} : {X : Type ℓ} (es : List Entry) (m : ℕ) → EntriesRead w v count b es m
      → ((j : ℕ) → EntriesWrittenAfter w version out at [] (take k es) out₁ (record { at = p.at; extended = p.extended })
      → (key_at v b work₁ p.cursor).name ≡ last_name [] (take k es) → RunRead w v (count - k) b work₁ p.cursor (drop k es) j → X)
      → X
  front-on es m q f =
      let sum : k + (count - k) ≡ count = omega arith in
      let x = h.passed (count - k) es m (rw sum (run-first w v count b work ∙ q)) in
      let none = first-name v b work in
      f x.taken (record { wrote = rw none at x.wrote; extended = x.extended }) (rw none at x.last) x.left

  -- the others were read too
  pub readable-rest : AllRead w v count b → Readable w v (count - k) b work₁ p.cursor
  readable-rest (es, m, q) =
      let none : count - k + 0 ≡ count - k = omega arith in
      front-on es m q (λ j front last left. record { more = 0; entries = drop k es; taken = j; run = rw none left })

  -- the next entry is removed
  pub without-written : {work₂ out₂ : List ℕ} {r : WriteEnd} {also : Bool} → RemovedWritten w v b work₁ p.cursor (count - k) version out₁ p.at work₂ out₂ r
      → also ≡ (p.extended || r.extended)
      → (e : Entry) → EntriesEdited w v b work count (E.Remove k) e version out at work₂ out₂ (record { at = r.at; extended = also })
  without-written {r = r} {also = also} x is e =
      let first = h.bounds.near in
      let near = x.bounds.near in
      edited-written w v b work count (E.Remove k) e version out at count (omega arith)
      (λ es m q same.
      front-on es m q λ j front last left.
      written-front w version out at [] (take k es) _ (drop (k + 1) es) r also front (rw (last, drop-drop 1 k es) at (x.written (drop k es) j left)) is)
      (record { near = omega arith; frame = frame_then h.bounds.frame x.bounds.frame; out_long = x.bounds.out_long ∙ h.bounds.out_long })

  -- the entry e is put, in place of the next one or not
  pub with-written : (e : Entry) {out₂ : List ℕ} {kept q : ℕ} (there : Bool) {work₂ out₃ : List ℕ} {r : WriteEnd} {also : Bool} → 8192 ≤ length work₁
      → kept ≡ common (key_at v b work₁ p.cursor).name e.name → EntryWritten w out₁ p.at version e p.cursor.len kept out₂ q → length out₂ ≡ length out₁
      → OthersWritten w v b work₁ p.cursor (count - k) there e.name version out₂ q work₂ out₃ r → also ≡ (p.extended || (needs_word e || r.extended))
      → EntriesEdited w v b work count (E.Put k there) e version out at work₂ out₃ (record { at = r.at; extended = also })
  with-written e {kept = kept} there {r = r} {also = also} room is one long x all =
      let first = h.bounds.near in
      let next = one.near in
      let near = x.bounds.near in
      let before : List ℕ = (key_at v b work₁ p.cursor).name in
      let beside : Beside before e.name p.cursor.len kept = record { long = name_at-length v b work₁ p.cursor h.inside room; shared = sym is } in
      edited-written w v b work count (E.Put k there) e version out at (count + 1) (omega arith)
      (λ es m run same.
      front-on es m run λ j front last left.
      let named : there ≡ true → NamedAt 0 e.name (drop k es) =
      λ is y first. replaces-there k there e.name es same is y (sym (first-of-rest k es) ∙ first) in
      let gs : List Entry = drop (k + bit there) es in
      let others = rw (drop-drop (bit there) k es) at (x.written (drop k es) j left named) in
      let from-e = written_one w version out₁ p.at before e gs r (needs_word e || r.extended) (one.wrote before beside) others refl in
      written-front w version out at [] (take k es) _ (e ∷ gs) _ also front (rw last at from-e) all)
      (record { near = omega arith; frame = frame_then h.bounds.frame x.bounds.frame; out_long = x.bounds.out_long ∙ long ∙ h.bounds.out_long })
