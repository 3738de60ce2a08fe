-- Resolve-undo data that is spelled is read, and what is read was spelled.
use mathlib.Core.Path.{◌≡◌, refl, sym, ◌∙◌}
use mathlib.Core.List.{List, [], ◌∷◌, ◌++◌, append_assoc}
use mathlib.Core.Bool.{Bool, true, cond, ◌||◌}
use mathlib.Core.Option.{Option, none, some}
use Prim.Native.Nat.{ℕ, zero, suc, ◌+◌, ◌≤◌}
use native.Mathlib.Omega.{arith}
use lib.ListN.{length, take, drop, replicate, length-append, length-drop, take-append-drop}
use lib.Seq.{drop-append_seam, length-take-le, take-add, take_at}
use lib.Dec.{eqb, leb}
use borrow.Author.Tests.{leb-true, le-leb, eqb-true}
use Rattle.format.specs.Bytes.{lacks, eq_list}
use Rattle.format.specs.Names.{ok_name}
use Rattle.format.specs.Records.{Stage, Undo}
use Rattle.format.specs.Layout.{ok_mode, mode_text, IsStage, some_stage, IsUndo, Undos, undos_end, undos_more}
use Rattle.format.specs.Reading.{Read, good, need, shift, bind}
use Rattle.format.specs.Reader.{mode_in, read_mode, read_stage, read_stages, read_undo, read_undos}
use Rattle.format_laws.proofs.Tests.{and-inv, or-inv, by-test, cond-inv}
use Rattle.format_laws.proofs.Lists.{eq_list-true}
use Rattle.format_laws.proofs.Texts.{after_text}
use Rattle.format_laws.proofs.Names.{ok_name-lacks}
use Rattle.format_laws.proofs.Readings.{bad-good, good-inv, need-inv, bind_inv, same_size, none-some}
use Rattle.spelling.proofs.Fuel.{fuel-step}
use Rattle.spelling.proofs.Texts.{read-text, text-read, read-decoded, decoded-read, parts-fit, text-then}

-- ---- modes

-- a mode of an entry, or 0 for a stage that is missing
abbrev pub stage_mode : ℕ → Bool
stage_mode m = eqb m 0 || ok_mode m

-- what holds of the five holds of each
by_mode {ℓ} : (P : ℕ → Type ℓ) → P 0 → P 0x81a4 → P 0x81ed → P 0xa000 → P 0xe000 → (m : ℕ) → stage_mode m ≡ true → P m
unfolding ok_mode
by_mode P missing plain executable symlink gitlink m h =
    or-inv (eqb m 0) _ h (λ e. rw (eqb-true m 0 e) missing) λ h₁.
    or-inv (eqb m 0x81a4) _ h₁ (λ e. rw (eqb-true m 0x81a4 e) plain) λ h₂.
    or-inv (eqb m 0x81ed) _ h₂ (λ e. rw (eqb-true m 0x81ed e) executable) λ h₃.
    or-inv (eqb m 0xa000) _ h₃ (λ e. rw (eqb-true m 0xa000 e) symlink) λ e. rw (eqb-true m 0xe000 e) gitlink

mode-lacks : (m : ℕ) → stage_mode m ≡ true → lacks 0 (mode_text m) ≡ true
unfolding mode_text lacks
mode-lacks m h = by_mode (λ x. lacks 0 (mode_text x) ≡ true) refl refl refl refl refl m h

read-mode-text : (m : ℕ) → stage_mode m ≡ true → mode_in (mode_text m) ≡ some m
unfolding mode_text mode_in eq_list
read-mode-text m h = by_mode (λ x. mode_in (mode_text x) ≡ some x) refl refl refl refl refl m h

mode-text-read : (t : List ℕ) (m : ℕ) → mode_in t ≡ some m → (t ≡ mode_text m) × (stage_mode m ≡ true)
unfolding mode_in mode_text ok_mode
mode-text-read t m q =
    one 0 _ _ refl refl q λ q₁.
    one 0x81a4 _ _ refl refl q₁ λ q₂.
    one 0x81ed _ _ refl refl q₂ λ q₃. one 0xa000 _ _ refl refl q₃ λ q₄. one 0xe000 _ none refl refl q₄ λ q₅. none-some q₅
  where
    one : (k : ℕ) (u : List ℕ) (r : Option ℕ) → u ≡ mode_text k → stage_mode k ≡ true → cond (eq_list t u) (some k) r ≡ some m
        → (r ≡ some m → (t ≡ mode_text m) × (stage_mode m ≡ true)) → (t ≡ mode_text m) × (stage_mode m ≡ true)
    one k u r e h c f =
        cond-inv (eq_list t u) _ _ _ c
        (λ same is.
        let k-is : k ≡ m = cc in
        rw (← k-is) (eq_list-true t u same ∙ e, h))
        λ other more. f more

read-mode : (p m : ℕ) (rest : List ℕ) → stage_mode m ≡ true → read_mode p (mode_text m ++ (0 ∷ rest)) ≡ good m (length (mode_text m) + 1)
unfolding read_mode
read-mode p m rest h = read-decoded mode_in 0 17 p (mode_text m) rest m (mode-lacks m h) (read-mode-text m h)

mode-read : (p : ℕ) (s : List ℕ) (x m : ℕ) → read_mode p s ≡ good x m → (m ≤ length s) × (take m s ≡ mode_text x ++ (0 ∷ [])) × (stage_mode x ≡ true)
unfolding read_mode
mode-read p s x m q =
    let h = decoded-read mode_in 0 17 p s x m q in
    let k = mode-text-read h.1 x h.3 in
    (h.0, rw k.0 at h.2, k.1)

-- ---- stages

stage-mode : (w : ℕ) (x : Stage) (a : List ℕ) → IsStage w x a → stage_mode x.mode ≡ true
stage-mode w x a h = by-test (eqb x.mode 0) (λ missing. rw missing refl) λ there. let k = rw there at h in rw there k.0

read-stage : (w p : ℕ) (x : Stage) (a rest : List ℕ) → IsStage w x a → read_stage w p x.mode (a ++ rest) ≡ good x (length a)
unfolding read_stage need
read-stage w p x a rest h =
    by-test (eqb x.mode 0)
    (λ missing.
    let k = rw missing at h in
    let mode : x.mode ≡ 0 = eqb-true x.mode 0 missing in
    let object : x.object ≡ replicate w 0 = k.0 in
    rw (missing, k.1) (same-stage 0 (sym mode) (sym object)))
    λ there.
    let k = rw there at h in
    let wide : length x.object ≡ w = k.1 in
    let l = length-append x.object rest in
    let fits : leb w (length (x.object ++ rest)) ≡ true = le-leb w (length (x.object ++ rest)) (omega arith) in
    rw (there, k.2) (simp (fits, take_at x.object rest w wide, wide))
  where
    same-stage : {m : ℕ} {object : List ℕ} (n : ℕ) → m ≡ x.mode → object ≡ x.object → good (record { mode = m; object = object }) n ≡ good x n
    same-stage n e f = rw (e, f) refl

stage-read : (w p mode : ℕ) (s : List ℕ) (x : Stage) (m : ℕ) → stage_mode mode ≡ true → read_stage w p mode s ≡ good x m
    → (m ≤ length s) × (x.mode ≡ mode) × IsStage w x (take m s)
unfolding read_stage
stage-read w p mode s x m h q =
    cond-inv (eqb mode 0) _ _ _ q
    (λ missing q₁.
    good-inv _ _ _ _ q₁ λ is size.
    rw (← is, ← size) (omega arith, sym (eqb-true mode 0 missing), (refl, refl)))
    λ there q₁.
    need-inv _ _ _ _ _ _ q₁ λ test q₂.
    good-inv _ _ _ _ q₂ λ is size.
    let l : w ≤ length s = leb-true _ _ test in
    let ok : ok_mode mode ≡ true = rw there at h in
    rw (← is, ← size) (l, refl, rw there (ok, length-take-le w s l, refl))

-- ---- one record

read-stages : (w p : ℕ) (u : Undo) (a b c rest : List ℕ) → IsStage w u.first a → IsStage w u.second b → IsStage w u.third c → some_stage u ≡ true
    → read_stages w p u.path u.first.mode u.second.mode u.third.mode (a ++ (b ++ (c ++ rest))) ≡ good u (length a + (length b + length c))
unfolding read_stages bind shift need some_stage
read-stages w p u a b c rest x y z stages =
    simp (
      drop-append_seam,
      read-stage w p u.first a (b ++ (c ++ rest)) x,
      read-stage w p u.second b (c ++ rest) y,
      read-stage w p u.third c rest z,
      stages,
    )
    (same_size (omega arith))

pub read-undo : (w p : ℕ) {previous : List ℕ} {u : Undo} {a : List ℕ} (rest : List ℕ) → IsUndo w previous u a → read_undo w p previous (a ++ rest) ≡ good u (length a)
unfolding read_undo bind shift need
read-undo w p {previous} {u} {a} rest h =
    let s₄ : List ℕ = h.first_bytes ++ (h.second_bytes ++ (h.third_bytes ++ rest)) in
    let s₃ : List ℕ = mode_text u.third.mode ++ (0 ∷ s₄) in
    let s₂ : List ℕ = mode_text u.second.mode ++ (0 ∷ s₃) in
    let s₁ : List ℕ = mode_text u.first.mode ++ (0 ∷ s₂) in
    rw h.bytes
    (simp (
      append_assoc,
      read-text 0 17 p u.path s₁ (ok_name-lacks u.path h.path),
      after_text,
      h.path,
      h.order,
      read-mode p u.first.mode s₂ (stage-mode w u.first h.first_bytes h.first),
      read-mode p u.second.mode s₃ (stage-mode w u.second h.second_bytes h.second),
      read-mode p u.third.mode s₄ (stage-mode w u.third h.third_bytes h.third),
      read-stages w p u h.first_bytes h.second_bytes h.third_bytes rest h.first h.second h.third h.stages,
      length-append,
    )
    (same_size (omega arith)))

pub undo-read : (w p : ℕ) (previous s : List ℕ) (u : Undo) (m : ℕ) → read_undo w p previous s ≡ good u m → (m ≤ length s) × IsUndo w previous u (take m s)
unfolding read_undo read_stages
undo-read w p previous s u m q =
    bind_inv _ _ _ _ q λ path i₀ j₀ pathq q₁ size₀.
    need-inv _ _ _ _ _ _ q₁ λ test q₂.
    bind_inv _ _ _ _ q₂ λ a i₁ j₁ aq q₃ size₁.
    bind_inv _ _ _ _ q₃ λ b i₂ j₂ bq q₄ size₂.
    bind_inv _ _ _ _ q₄ λ c i₃ j₃ cq q₅ size₃.
    bind_inv _ _ _ _ q₅ λ x i₄ j₄ xq q₆ size₄.
    bind_inv _ _ _ _ q₆ λ y i₅ j₅ yq q₇ size₅.
    bind_inv _ _ _ _ q₇ λ z i₆ j₆ zq q₈ size₆.
    need-inv _ _ _ _ _ _ q₈ λ stages q₉.
    good-inv _ _ _ _ q₉ λ is done.
    let s₁ : List ℕ = drop i₀ s in
    let s₂ : List ℕ = drop i₁ s₁ in
    let s₃ : List ℕ = drop i₂ s₂ in
    let s₄ : List ℕ = drop i₃ s₃ in
    let s₅ : List ℕ = drop i₄ s₄ in
    let s₆ : List ℕ = drop i₅ s₅ in
    let t = text-read 0 17 p s path i₀ pathq in
    let ok = and-inv (ok_name path) _ test in
    let ma = mode-read p s₁ a i₁ aq in
    let mb = mode-read p s₂ b i₂ bq in
    let mc = mode-read p s₃ c i₃ cq in
    let sx = stage-read w p a s₄ x i₄ ma.2 xq in
    let sy = stage-read w p b s₅ y i₅ mb.2 yq in
    let sz = stage-read w p c s₆ z i₆ mc.2 zq in
    let objects : take (i₄ + (i₅ + i₆)) s₄ ≡ take i₄ s₄ ++ (take i₅ s₅ ++ take i₆ s₆) = rw (take-add i₄ (i₅ + i₆) s₄, take-add i₅ i₆ s₅) refl in
    let m-is : m ≡ i₀ + (i₁ + (i₂ + (i₃ + (i₄ + (i₅ + i₆))))) = omega arith in
    rw (m-is, ← is) (
      parts-fit i₀ _ s t.0
          (parts-fit i₁ _ s₁ ma.0
          (parts-fit i₂ _ s₂ mb.0 (parts-fit i₃ _ s₃ mc.0 (parts-fit i₄ _ s₄ sx.0 (parts-fit i₅ i₆ s₅ sy.0 sz.0))))),
      record {
        path = ok.0;
        order = ok.1;
        stages = stages;
        first_bytes = take i₄ s₄;
        second_bytes = take i₅ s₅;
        third_bytes = take i₆ s₆;
        first = sx.2;
        second = sy.2;
        third = sz.2;
        bytes =
            rw (sx.1, sy.1, sz.1)
            (text-then i₀ _ s path _ 0 t.1
            (text-then i₁ _ s₁ (mode_text a) _ 0 ma.1
            (text-then i₂ _ s₂ (mode_text b) _ 0 mb.1 (text-then i₃ _ s₃ (mode_text c) _ 0 mc.1 objects))));
      },
    )

undo-long : {w : ℕ} {previous : List ℕ} {u : Undo} {a : List ℕ} → IsUndo w previous u a → 1 ≤ length a
undo-long {u = u} h = rw h.bytes (simp length-append (omega arith))

pub undo-takes : (w p : ℕ) (previous s : List ℕ) (u : Undo) (m : ℕ) → read_undo w p previous s ≡ good u m → (1 ≤ m) × (m ≤ length s)
undo-takes w p previous s u m q =
    let h = undo-read w p previous s u m q in
    let taken = length-take-le m s h.0 in
    let long = undo-long h.1 in omega arith

-- ---- all records

undos_none : (w p fuel : ℕ) (previous : List ℕ) → read_undos w p fuel previous [] ≡ good [] 0
unfolding read_undos
undos_none w p zero previous = refl
undos_none w p (suc fuel) previous = refl

undos-step : (w p fuel : ℕ) (previous s : List ℕ) → 1 ≤ length s
    → read_undos w p (suc fuel) previous s
    ≡ bind (read_undo w p previous s) (λ u m. bind (read_undos w p fuel u.path (drop m s)) (λ us n. good (u ∷ us) 0))
unfolding read_undos
undos-step w p fuel previous [] h = absurd (omega arith)
undos-step w p fuel previous (x ∷ s) h = refl

pub read-undos : (w p fuel : ℕ) {previous : List ℕ} {us : List Undo} {a : List ℕ} → Undos w previous us a → length a ≤ fuel
    → read_undos w p fuel previous a ≡ good us (length a)
unfolding bind shift
read-undos w p fuel undos_end h = undos_none w p fuel _
read-undos w p zero (undos_more {a = a} {b = b} x y) h = let l = length-append a b in let long = undo-long x in absurd (omega arith)
read-undos w p (suc fuel) (undos_more {previous = previous} {a = a} {b = b} x y) h =
    let l = length-append a b in
    let long = undo-long x in
    undos-step w p fuel previous (a ++ b) (omega arith)
    ∙ simp (read-undo w p b x, drop-append_seam, read-undos w p fuel y (omega arith), length-append) (same_size (omega arith))

pub undos-read : (w p fuel : ℕ) (previous s : List ℕ) (us : List Undo) (m : ℕ) → read_undos w p fuel previous s ≡ good us m
    → (m ≡ length s) × Undos w previous us s
unfolding read_undos
undos-read w p zero previous [] us m q = good-inv _ _ _ _ q λ is size. rw (← is, ← size) (refl, undos_end)
undos-read w p (suc fuel) previous [] us m q = good-inv _ _ _ _ q λ is size. rw (← is, ← size) (refl, undos_end)
undos-read w p zero previous (x ∷ s) us m q = bad-good _ _ _ _ q
undos-read w p (suc fuel) previous (x ∷ s) us m q =
    bind_inv _ _ _ _ q λ u i₀ j₀ undoq q₁ size₀.
    bind_inv _ _ _ _ q₁ λ vs i₁ j₁ undosq q₂ size₁.
    good-inv _ _ _ _ q₂ λ is done.
    more (x ∷ s) u vs i₀ i₁ (undo-read w p previous (x ∷ s) u i₀ undoq) (undos-read w p fuel u.path (drop i₀ (x ∷ s)) vs i₁ undosq) is (omega arith)
  where
    more : (s : List ℕ) (u : Undo) (vs : List Undo) (i₀ i₁ : ℕ) → (i₀ ≤ length s) × IsUndo w previous u (take i₀ s)
        → (i₁ ≡ length (drop i₀ s)) × Undos w u.path vs (drop i₀ s) → u ∷ vs ≡ us → m ≡ i₀ + i₁
        → (m ≡ length s) × Undos w previous us s
    more s u vs i₀ i₁ h k is size =
        let l = length-drop i₀ s in
        rw (← is) (omega arith, rw (take-append-drop i₀ s) at (undos_more h.1 k.1))

-- the records in s with no fuel to be seen, and its steps: what code is proved against
unfoldable pub undos_of : ℕ → ℕ → List ℕ → List ℕ → Read (List Undo)
undos_of w p previous s = read_undos w p (length s) previous s

pub undos_of-end : (w p : ℕ) (previous : List ℕ) → undos_of w p previous [] ≡ good [] 0
unfolding undos_of
undos_of-end w p previous = undos_none w p 0 previous

pub undos_of-step : (w p : ℕ) (previous s : List ℕ) → 1 ≤ length s
    → undos_of w p previous s ≡ bind (read_undo w p previous s) (λ u m. bind (undos_of w p u.path (drop m s)) (λ us n. good (u ∷ us) 0))
unfolding undos_of
undos_of-step w p previous s h =
    fuel-step (read_undo w p) (λ q u m. u.path) (read_undos w p) (undos_none w p) (undos-step w p) (λ q t u m e. (undo-takes w p q t u m e).0) previous s h
