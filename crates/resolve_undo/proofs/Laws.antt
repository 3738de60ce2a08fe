-- Laws of the reader's steps at a place of the data. w is the width of an object name.
use mathlib.Core.Path.{◌≡◌, refl, sym, ◌∙◌}
use mathlib.Core.List.{List}
use mathlib.Core.Bool.{Bool, true, false, cond, not, ◌&&◌, ◌||◌}
use mathlib.Core.Option.{Option, none, some}
use Prim.Native.Nat.{ℕ, ◌+◌, ◌-◌, ◌≤◌, ◌<◌}
use native.Mathlib.Omega.{arith}
use native.Mathlib.Nat.{add_assoc}
use lib.ListN.{length, take, drop, replicate, length-drop, length-replicate, replicate-append-replicate}
use lib.Seq.{drop-drop}
use lib.Dec.{eqb, ltb}
use borrow.Author.Tests.{ltb-true, lt-ltb, eq-eqb, ne_eqb, eqb-true, leb-true, le-leb}
use Rattle.format.specs.Bytes.{before}
use Rattle.format.specs.Names.{ok_name, compare, is_below}
use Rattle.format.specs.Records.{Stage, Undo}
use Rattle.format.specs.Layout.{some_stage}
use Rattle.format.specs.Reading.{Read, bad, good, need, shift, bind}
use Rattle.format.specs.Reader.{read_text, need_some, mode_in, read_mode, read_stage, read_stages, read_undo}
use Rattle.std.proofs.lemmas.Option.{some_pair_parts}
use Rattle.format_laws.proofs.Tests.{by-test, cond-inv}
use Rattle.format_laws.proofs.Texts.{text-none, text-some}
use Rattle.format_laws.proofs.Readings.{good-inv, need-inv, bind_inv, need-good, bind-good, same_size}
use Rattle.entries.specs.Record.{wide_object}
use Rattle.std.specs.Prelude as Code
use Rattle.std.specs.Prelude.{Some, None}
use Rattle.resolve_undo.specs.declared.Record.{Record}
use Rattle.resolve_undo.specs.Answers.{mode_found, mode_read, ModeWithin, object_length, objects_length, object_in, with_mode, read_modes, record_of, record_read, RecordWithin, RestRead}

-- ---- modes

module _ (p at k : ℕ) where
  some-bad : (o : Option ℕ) → mode_found o ≡ None → mode_read at (shift k (need_some o 17 p (λ x. good x 0))) ≡ None
  unfolding shift need_some
  some-bad none e = refl
  some-bad (some m) e = let z : ◌≡◌ {A = ℕ} 0 1 = cc in absurd (omega arith)

  some_good : (o : Option ℕ) (m : ℕ) → mode_found o ≡ Some m → mode_read at (shift k (need_some o 17 p (λ x. good x 0))) ≡ Some (m, at + k)
  unfolding shift need_some
  some_good none m e = let z : ◌≡◌ {A = ℕ} 0 1 = cc in absurd (omega arith)
  some_good (some x) m e =
      let is : x ≡ m = cc in
      let l : k + 0 ≡ k = omega arith in
      rw (is, l)

module _ (at e : ℕ) (d : List ℕ) (is : e ≡ at + before 0 (drop at d)) (inside : at ≤ length d) (p : ℕ) where
  pub mode-none : e ≡ length d → mode_read at (read_mode p (drop at d)) ≡ None
  unfolding read_mode bind
  mode-none end = rw (text-none 0 17 p d at e is end)

  module _ (more : e < length d) where
    pub mode-bad : mode_found (mode_in (take (e - at) (drop at d))) ≡ None → mode_read at (read_mode p (drop at d)) ≡ None
    unfolding read_mode bind
    mode-bad h = rw (text-some 0 17 p d at e is more) (some-bad p at (e + 1 - at) _ h)

    pub mode-good : (m : ℕ) → mode_found (mode_in (take (e - at) (drop at d))) ≡ Some m → mode_read at (read_mode p (drop at d)) ≡ Some (m, e + 1)
    unfolding read_mode bind
    mode-good m h =
        let l : at + (e + 1 - at) ≡ e + 1 = omega arith in
        rw (text-some 0 17 p d at e is more) (some_good p at (e + 1 - at) _ m h ∙ rw l)

-- ---- answers

-- what the reader answered, where the code's answer is known; by continuation
module _ {ℓ} {X : Type ℓ} (at : ℕ) where
  mode-bad-inv : (r : Read ℕ) → None ≡ mode_read at r → ((n p : ℕ) → r ≡ bad n p → X) → X
  mode-bad-inv (bad n p) e f = f n p refl
  mode-bad-inv (good x k) e f = let z : ◌≡◌ {A = ℕ} 0 1 = cc in absurd (omega arith)

  mode-good-inv : (r : Read ℕ) (m next : ℕ) → Some (m, next) ≡ mode_read at r → ((k : ℕ) → r ≡ good m k → next ≡ at + k → X) → X
  mode-good-inv (bad n p) m next e f = let z : ◌≡◌ {A = ℕ} 0 1 = cc in absurd (omega arith)
  mode-good-inv (good x k) m next e f = let (is, place) = some_pair_parts _ _ _ _ e in f k (rw is) place

module _ {ℓ} {X : Type ℓ} (w at : ℕ) where
  pub record-bad-inv : (r : Read Undo) → None ≡ record_read w at r → ((n p : ℕ) → r ≡ bad n p → X) → X
  record-bad-inv (bad n p) e f = f n p refl
  record-bad-inv (good u k) e f = let z : ◌≡◌ {A = ℕ} 0 1 = cc in absurd (omega arith)

  pub record-good-inv : (r : Read Undo) (g : Record) → Some g ≡ record_read w at r → ((u : Undo) (k : ℕ) → r ≡ good u k → g ≡ record_of w at u k → X) → X
  record-good-inv (bad n p) g e f = let z : ◌≡◌ {A = ℕ} 0 1 = cc in absurd (omega arith)
  record-good-inv (good u k) g e f = f u k refl (cc)

-- a record that is read after k bytes more
record-shift : (w at k : ℕ) (r : Read Undo) → record_read w at (shift k r) ≡ record_read w (at + k) r
unfolding shift
record-shift w at k (bad n p) = refl
record-shift w at k (good u m) = rw (add_assoc at k m)

-- what is never read is refused
refused : (w at : ℕ) (r : Read Undo) → ((u : Undo) (k : ℕ) → r ≡ good u k → ⊥) → record_read w at r ≡ None
refused w at (bad n p) h = refl
refused w at (good u k) h = absurd (h u k refl)

-- a mode and what comes next
then-bad : (w at p : ℕ) (s : List ℕ) (k : ℕ → List ℕ → Read Undo) → None ≡ mode_read at (read_mode p s) → record_read w at (with_mode p k s) ≡ None
unfolding bind with_mode
then-bad w at p s k e = mode-bad-inv at (read_mode p s) e λ n m q. rw q

then-good : (w at next m p : ℕ) (d : List ℕ) (k : ℕ → List ℕ → Read Undo) → Some (m, next) ≡ mode_read at (read_mode p (drop at d))
    → record_read w at (with_mode p k (drop at d)) ≡ record_read w next (k m (drop next d))
unfolding bind with_mode
then-good w at next m p d k e =
    mode-good-inv at (read_mode p (drop at d)) m next e λ n q place.
    rw (q, place) (record-shift w at n (k m (drop n (drop at d))) ∙ rw (drop-drop n at d))

-- ---- stages

pub missing-length : (w m : ℕ) → m ≡ 0 → object_length w m ≡ 0
unfolding object_length
missing-length w m h = rw (eq-eqb m 0 h)

pub there-length : (w m : ℕ) → (m ≡ 0 → ⊥) → object_length w m ≡ w
unfolding object_length
there-length w m h = rw (ne_eqb m 0 h)

pub missing-object : (w m : ℕ) (s : List ℕ) → m ≡ 0 → object_in w m s ≡ replicate w 0
unfolding object_in
missing-object w m s h = rw (eq-eqb m 0 h)

-- zeros in 32 bytes, zeros after them
pub wide-zeros : (w : ℕ) → w ≤ 32 → wide_object (replicate w 0) ≡ replicate 32 0
wide-zeros w few =
    let all : w + (32 - w) ≡ 32 = omega arith in
    rw (length-replicate {A = ℕ} w 0) (replicate-append-replicate {A = ℕ} w (32 - w) 0 ∙ rw all refl)

pub there-object : (w m : ℕ) (s : List ℕ) → (m ≡ 0 → ⊥) → object_in w m s ≡ take w s
unfolding object_in
there-object w m s h = rw (ne_eqb m 0 h)

-- the stage of a mode whose object name, where it is there, begins s
abbrev pub stage_in : ℕ → ℕ → List ℕ → Stage
stage_in w m s = record { mode = m; object = object_in w m s }

stage-good : (w p m : ℕ) (s : List ℕ) → object_length w m ≤ length s → read_stage w p m s ≡ good (stage_in w m s) (object_length w m)
unfolding read_stage object_length object_in need
stage-good w p m s h =
    by-test (eqb m 0)
    (λ missing. rw (missing, eqb-true m 0 missing))
    λ there. let fits : w ≤ length s = rw there at h in rw (there, le-leb w (length s) fits)

stage-read : (w p m : ℕ) (s : List ℕ) (x : Stage) (k : ℕ) → read_stage w p m s ≡ good x k
    → (x ≡ stage_in w m s) × (k ≡ object_length w m) × (k ≤ length s)
unfolding read_stage object_length object_in
stage-read w p m s x k q =
    cond-inv (eqb m 0) _ _ _ q
    (λ missing q₁.
    good-inv _ _ _ _ q₁ λ is size.
    rw (← is, ← size, missing, eqb-true m 0 missing) (refl, refl, omega arith))
    λ there q₁.
    need-inv _ _ _ _ _ _ q₁ λ test q₂.
    good-inv _ _ _ _ q₂ λ is size.
    rw (← is, ← size, there) (refl, refl, leb-true _ _ test)

-- a stage is there just where the object names take bytes
module _ (w : ℕ) (wide : 1 ≤ w) where
  by_three : (x y z : Bool) → ltb 0 (cond x 0 w + cond y 0 w + cond z 0 w) ≡ (not x || (not y || not z))
  by_three true true true = refl
  by_three true true false = lt-ltb 0 (0 + 0 + w) (omega arith)
  by_three true false z = lt-ltb 0 (0 + w + cond z 0 w) (omega arith)
  by_three false y z = lt-ltb 0 (w + cond y 0 w + cond z 0 w) (omega arith)

  module _ (a b c : ℕ) where
    sum-some : 1 ≤ object_length w a + object_length w b + object_length w c → (not (eqb a 0) || (not (eqb b 0) || not (eqb c 0))) ≡ true
    unfolding object_length
    sum-some h = sym (by_three (eqb a 0) (eqb b 0) (eqb c 0)) ∙ lt-ltb _ _ h

    some-sum : (not (eqb a 0) || (not (eqb b 0) || not (eqb c 0))) ≡ true → 1 ≤ object_length w a + object_length w b + object_length w c
    unfolding object_length
    some-sum h = ltb-true 0 _ (by_three (eqb a 0) (eqb b 0) (eqb c 0) ∙ h)

module _ (w p : ℕ) (path : List ℕ) (a b c : ℕ) (s : List ℕ) (wide : 1 ≤ w) where
  abbrev pub lengths : ℕ
  lengths = object_length w a + object_length w b + object_length w c

  -- the record of these modes
  abbrev pub undo_in : Undo
  undo_in =
      record {
        path = path;
        first = stage_in w a s;
        second = stage_in w b (drop (object_length w a) s);
        third = stage_in w c (drop (object_length w b) (drop (object_length w a) s));
      }

  pub stages-read : (u : Undo) (k : ℕ) → read_stages w p path a b c s ≡ good u k → (u ≡ undo_in) × (k ≡ lengths) × (1 ≤ lengths) × (lengths ≤ length s)
  unfolding read_stages some_stage
  stages-read u k q =
      bind_inv _ _ _ _ q λ x i₀ j₀ xq q₁ size₀.
      bind_inv _ _ _ _ q₁ λ y i₁ j₁ yq q₂ size₁.
      bind_inv _ _ _ _ q₂ λ z i₂ j₂ zq q₃ size₂.
      need-inv _ _ _ _ _ _ q₃ λ test q₄.
      good-inv _ _ _ _ q₄ λ is last.
      let hx = stage-read w p a s x i₀ xq in
      let hy = stage-read w p b (drop i₀ s) y i₁ yq in
      let hz = stage-read w p c (drop i₁ (drop i₀ s)) z i₂ zq in
      let l₀ = length-drop i₀ s in
      let l₁ = length-drop i₁ (drop i₀ s) in (
        sym is ∙ rw (hx.0, hy.0, hz.0, hx.1, hy.1),
        omega arith,
        some-sum w wide a b c (rw (hx.0, hy.0, hz.0) at test),
        omega arith,
      )

  stages-good : 1 ≤ lengths → lengths ≤ length s → read_stages w p path a b c s ≡ good undo_in lengths
  unfolding read_stages some_stage
  stages-good one fits =
      let l₀ = length-drop (object_length w a) s in
      let l₁ = length-drop (object_length w b) (drop (object_length w a) s) in
      let sum : object_length w a + (object_length w b + (object_length w c + 0)) ≡ lengths = omega arith in
      bind-good _ _ _ _ undo_in _ (stage-good w p a s (omega arith))
      (bind-good _ _ _ _ undo_in _ (stage-good w p b _ (omega arith))
      (bind-good _ _ _ _ undo_in _ (stage-good w p c _ (omega arith)) (need-good _ 17 p _ undo_in 0 (sum-some w wide a b c one) refl)))
      ∙ same_size sum

module _ (w p at : ℕ) (wide : 1 ≤ w) (path : List ℕ) (a b c n : ℕ) (d : List ℕ) (is : n ≡ object_length w a + object_length w b + object_length w c) where
  pub stages-none : n ≡ 0 → record_read w at (read_stages w p path a b c (drop at d)) ≡ None
  stages-none e = refused w at _ λ u k q. let h = stages-read w p path a b c (drop at d) wide u k q in omega arith

  pub stages-cut : length d - at < n → record_read w at (read_stages w p path a b c (drop at d)) ≡ None
  stages-cut e =
      refused w at _ λ u k q.
      let h = stages-read w p path a b c (drop at d) wide u k q in
      let l = length-drop at d in omega arith

  pub stages-some : (n ≡ 0 → ⊥) → n ≤ length d - at → (size : ℕ) → length path ≡ size
      → record_read w at (read_stages w p path a b c (drop at d))
      ≡ Some (record { path = size; first = a; second = b; third = c; objects = at; next = at + n })
  unfolding objects_length
  stages-some e fits size long =
      let l = length-drop at d in
      let place : at + n - n ≡ at = omega arith in
      rw (stages-good w p path a b c (drop at d) wide (omega arith) (omega arith), ← is, long, place)

-- ---- the rest of a record, after a mode at a place

pub mode-within : (at end m next : ℕ) (r : Code.Option (ℕ × ℕ)) → ModeWithin at end r → r ≡ Some (m, next) → (at < next) × (next ≤ end)
mode-within at end m next r h e = rw e at h

-- what is in the data after a place is in it after an earlier one
pub record-within : (at i end : ℕ) (r : Code.Option Record) → at ≤ i → RecordWithin i end r → RecordWithin at end r
record-within at i end None h inside = tt
record-within at i end (Some r) h inside = omega arith

pub record-bounds : (at end : ℕ) (g : Record) (r : Code.Option Record) → RecordWithin at end r → r ≡ Some g → (at < g.next) × (g.next ≤ end)
record-bounds at end g r h e = rw e at h

-- r is the mode at the place at, and k reads what comes after it
module _ (w at size : ℕ) (d : List ℕ) (k : ℕ → List ℕ → ℕ → List ℕ → Read Undo) (r : Code.Option (ℕ × ℕ))
    (told : ((p : ℕ) → r ≡ mode_read at (read_mode p (drop at d))) × ModeWithin at (length d) r) where
  pub no_mode : r ≡ None → RestRead w at size d (λ p path. with_mode p (k p path)) None
  no_mode e = (λ p path long. sym (then-bad w at p _ _ (sym e ∙ told.0 p)), tt)

  pub after-mode : (m next : ℕ) (g : Code.Option Record) → r ≡ Some (m, next) → RestRead w next size d (λ p path. k p path m) g → RestRead w at size d (λ p path. with_mode p (k p path)) g
  after-mode m next g e rest =
      let b = mode-within at (length d) m next r told.1 e in (
        λ p path long. rest.0 p path long ∙ sym (then-good w at next m p d (k p path) (sym e ∙ told.0 p)),
        record-within at next (length d) g (omega arith) rest.1,
      )

-- ---- one record

pub undo_is : (w p : ℕ) (previous s : List ℕ)
    → read_undo w p previous s
    ≡ bind (read_text 0 17 p s) (λ path m. need (ok_name path && is_below (compare previous path)) 17 p (read_modes w p path (drop m s)))
unfolding read_undo read_modes with_mode
undo_is w p previous s = refl

module _ (w at e : ℕ) (d previous : List ℕ) (is : e ≡ at + before 0 (drop at d)) (inside : at ≤ length d) (p : ℕ) where
  pub undo-none : e ≡ length d → record_read w at (read_undo w p previous (drop at d)) ≡ None
  unfolding read_undo bind
  undo-none end = rw (text-none 0 17 p d at e is end)

  module _ (more : e < length d) where
    abbrev path : List ℕ
    path = take (e - at) (drop at d)

    pub undo-path : (ok_name path && is_below (compare previous path)) ≡ false → record_read w at (read_undo w p previous (drop at d)) ≡ None
    unfolding bind need shift
    undo-path h = rw (undo_is, text-some 0 17 p d at e is more, h)

    pub undo-rest : (ok_name path && is_below (compare previous path)) ≡ true
        → record_read w at (read_undo w p previous (drop at d)) ≡ record_read w (e + 1) (read_modes w p path (drop (e + 1) d))
    unfolding bind need
    undo-rest h =
        let place : at + (e + 1 - at) ≡ e + 1 = omega arith in
        rw (undo_is, text-some 0 17 p d at e is more, h)
        (record-shift w at (e + 1 - at) (read_modes w p path (drop (e + 1 - at) (drop at d))) ∙ rw (drop-drop (e + 1 - at) at d, place))
