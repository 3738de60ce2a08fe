-- The record that is shown: record number n of the list is what the bytes at its place say. w is the width of an object name.
use mathlib.Core.Path.{◌≡◌, refl, sym, ap, ◌∙◌}
use mathlib.Core.List.{List, [], ◌∷◌}
use mathlib.Core.Bool.{true}
use mathlib.Core.Option.{some}
use Prim.Native.Nat.{ℕ, zero, suc, ◌+◌, ◌-◌, ◌≤◌, ◌<◌}
use native.Mathlib.Omega.{arith}
use lib.ListN.{length, take, drop, replicate, length-replicate, drop_of_length-le}
use lib.Dec.{eqb}
use lib.Seq.{drop-drop}
use Rattle.format.specs.Bytes.{before}
use Rattle.format.specs.Names.{ok_name, compare, is_below}
use Rattle.format.specs.Records.{Undo, Stage}
use Rattle.format.specs.Layout.{IsStage}
use Rattle.format.specs.Reading.{Read, bad, good, need, bind}
use Rattle.format.specs.Reader.{read_text, read_undo, read_undos}
use Rattle.format_laws.proofs.Tests.{false-true, and_both, by-test}
use Rattle.format_laws.proofs.Readings.{good-inv, bind_inv, need-good, bind-good, none-some, same_size}
use Rattle.spelling.proofs.Undo.{undos_of, undos_of-end, undos_of-step, undo-read}
use Rattle.entries.specs.Record.{wide_object}
use Rattle.resolve_undo.specs.declared.Record.{Record}
use Rattle.std.specs.Prelude as Code
use Rattle.std.specs.Prelude.{Some, None}
use Rattle.format.specs.Places.{undo_start}
use Rattle.resolve_undo.specs.Answers.{object_length, objects_length, object_in, item, value_of, undo_at, shown}
use Rattle.resolve_undo.proofs.Laws.{stages-read, undo_is}
use Rattle.resolve_undo.proofs.Records.{undo-inv, stages-inv, undo-begins, place_after, IsRecordAt, refusal, reading}

-- ---- the record at a place

-- a record that is read after another is read by itself
below_all : (path : List ℕ) → ok_name path ≡ true → is_below (compare [] path) ≡ true
unfolding ok_name compare
below_all [] ok = false-true ok
below_all (x ∷ path) ok = refl

pub undo-alone : (w p : ℕ) (previous s : List ℕ) (u : Undo) (k : ℕ) → read_undo w p previous s ≡ good u k → read_undo w p [] s ≡ good u k
undo-alone w p previous s u k q =
    undo-inv w p previous s u k q λ path i j pathq ok modesq size.
    undo_is w p [] s ∙ bind-good _ _ path i u j pathq (need-good _ 17 p _ u j (and_both _ _ ok (below_all path ok)) modesq) ∙ same_size size

undos-inv {ℓ} : {X : Type ℓ} (w p : ℕ) (previous s : List ℕ) (us : List Undo) (k : ℕ) → undos_of w p previous s ≡ good us k → 1 ≤ length us
    → ((u : Undo) (vs : List Undo) (i j : ℕ) → read_undo w p previous s ≡ good u i → undos_of w p u.path (drop i s) ≡ good vs j → u ∷ vs ≡ us → X) → X
undos-inv w p previous [] us k q h f =
    good-inv _ _ _ _ (sym (undos_of-end w p previous) ∙ q) λ is size. let l = ap length is in absurd (omega arith)
undos-inv w p previous (b ∷ s) us k q h f =
    bind_inv _ _ _ _ (sym (undos_of-step w p previous (b ∷ s) (omega arith)) ∙ q) λ u i j undoq q₁ size₀.
    bind_inv _ _ _ _ q₁ λ vs i₁ j₁ undosq q₂ size₁.
    good-inv _ _ _ _ q₂ λ is size₂. f u vs i i₁ undoq undosq is

-- record number n of the list is the one that the bytes at its place begin with
pub place-item : (w p n : ℕ) (previous s : List ℕ) (us : List Undo) (k : ℕ) → undos_of w p previous s ≡ good us k → n < length us
    → undo_at w p (drop (undo_start w p n previous s) s) ≡ item n us
unfolding undo_start item undo_at value_of
place-item w p zero previous s us k q h =
    undos-inv w p previous s us k q h λ u vs i j undoq undosq is.
    rw (← is, undo-alone w p previous s u i undoq)
place-item w p (suc n) previous s us k q h =
    undos-inv w p previous s us k q (omega arith) λ u vs i j undoq undosq is.
    let l = ap length is in
    let rest : n < length vs = omega arith in
    rw (← is, place_after w p previous s u i undoq n, ← (drop-drop (undo_start w p n u.path (drop i s)) i s))
    (place-item w p n u.path (drop i s) vs j undosq rest)

-- the same of the whole data, as the format reads it
pub shown-item : (w p n : ℕ) (d : List ℕ) (us : List Undo) (k : ℕ) → read_undos w p (length d) [] d ≡ good us k → n < length us
    → undo_at w p (drop (undo_start w p n [] d) d) ≡ item n us
unfolding undos_of
shown-item w p n d us k q h = place-item w p n [] d us k q h

value-inv {ℓ} : {X : Type ℓ} (r : Read Undo) (u : Undo) → value_of r ≡ some u → ((k : ℕ) → r ≡ good u k → X) → X
unfolding value_of
value-inv (bad n p) u e f = none-some e
value-inv (good v k) u e f = f k (cc)

-- the path of a record is what it begins with
pub shown-path : (w p : ℕ) (s : List ℕ) (u : Undo) → 1 ≤ w → undo_at w p s ≡ some u → take (length u.path) s ≡ u.path
unfolding undo_at
shown-path w p s u wide e = value-inv (read_undo w p [] s) u e λ k q. (undo-begins w p [] s u k wide q).0

-- ---- its object names

-- where they are in d: at the end of a record that ends at the place end
record Objects (w : ℕ) (u : Undo) (d : List ℕ) (end : ℕ) : Type 0 where
  place : ℕ
  last : end ≡ place + objects_length w u
  first : u.first.object ≡ object_in w u.first.mode (drop place d)
  second : u.second.object ≡ object_in w u.second.mode (drop (place + object_length w u.first.mode) d)
  third : u.third.object ≡ object_in w u.third.mode (drop (place + object_length w u.first.mode + object_length w u.second.mode) d)

undo-objects : (w p at : ℕ) (previous d : List ℕ) (u : Undo) (k : ℕ) → 1 ≤ w → read_undo w p previous (drop at d) ≡ good u k → Objects w u d (at + k)
unfolding objects_length
undo-objects w p at previous d u k wide q =
    stages-inv w p previous (drop at d) u k q λ path i a b c n j pathq stagesq size.
    let h = stages-read w p path a b c (drop n (drop at d)) wide u j stagesq in
    let a-long : ℕ = object_length w a in
    rw h.0
    (record {
      place = at + n;
      last = omega (arith, h.1);
      first = rw (drop-drop n at d);
      second = rw (drop-drop n at d, drop-drop a-long (at + n) d);
      third = rw (drop-drop n at d, drop-drop a-long (at + n) d, drop-drop (object_length w b) (at + n + a-long) d);
    })

-- a stage that is missing has zeros
missing : (w mode : ℕ) (object s : List ℕ) → object ≡ object_in w mode s → mode ≡ 0 → object ≡ replicate w 0
unfolding object_in
missing w mode object s e none = rw none at e

pub missing-zeros : (w p : ℕ) (s : List ℕ) (u : Undo) → 1 ≤ w → undo_at w p s ≡ some u
    → (u.first.mode ≡ 0 → u.first.object ≡ replicate w 0)
    × (u.second.mode ≡ 0 → u.second.object ≡ replicate w 0)
    × (u.third.mode ≡ 0 → u.third.object ≡ replicate w 0)
unfolding undo_at
missing-zeros w p s u wide e =
    value-inv (read_undo w p [] s) u e λ k q.
    let h = undo-objects w p 0 [] s u k wide q in (missing w _ _ _ h.first, missing w _ _ _ h.second, missing w _ _ _ h.third)

-- the object name of a stage has w bytes
stage-long : (w : ℕ) (s : Stage) (a : List ℕ) → IsStage w s a → length s.object ≡ w
stage-long w s a h =
    by-test (eqb s.mode 0)
    (λ e. let zeros = rw e at h in ap length zeros.0 ∙ length-replicate {A = ℕ} w 0)
    (λ e. let there = rw e at h in there.1)

pub objects-long : (w p : ℕ) (s : List ℕ) (u : Undo) → undo_at w p s ≡ some u
    → (length u.first.object ≡ w) × (length u.second.object ≡ w) × (length u.third.object ≡ w)
unfolding undo_at
objects-long w p s u e =
    value-inv (read_undo w p [] s) u e λ k q.
    let h = (undo-read w p [] s u k q).1 in (stage-long w u.first h.first_bytes h.first, stage-long w u.second h.second_bytes h.second, stage-long w u.third h.third_bytes h.third)

-- ---- what is shown

pub shown-out : (w p at : ℕ) (d : List ℕ) → length d ≤ at → shown at (undo_at w p (drop at d)) ≡ None
unfolding undo_at value_of read_undo read_text before need bind
shown-out w p at d h = rw (drop_of_length-le d h)

module _ (w at : ℕ) (d : List ℕ) (r : Code.Option Record) (told : IsRecordAt w at [] d r) where
  pub shown-bad : r ≡ None → (p : ℕ) → shown at (undo_at w p (drop at d)) ≡ None
  unfolding undo_at value_of
  shown-bad e p = refusal w at [] d r told e p λ n m q. rw q

  module _ (wide : 1 ≤ w) (g : Record) (e : r ≡ Some g) where
    pub objects-end : g.objects + object_length w g.first + object_length w g.second + object_length w g.third ≡ g.next
    unfolding objects_length
    objects-end =
        reading w at [] d r told g e 0 λ u k q is.
        let h = undo-objects w 0 at [] d u k wide q in
        rw is (omega (arith, h.last))

    pub shown-good : (x y : ℕ) → x ≡ object_length w g.first → y ≡ object_length w g.second → (p : ℕ)
        → shown at (undo_at w p (drop at d))
        ≡ Some (record {
          path = at;
          path_length = g.path;
          first = record { mode = g.first; object = wide_object (object_in w g.first (drop g.objects d)) };
          second = record { mode = g.second; object = wide_object (object_in w g.second (drop (g.objects + x) d)) };
          third = record { mode = g.third; object = wide_object (object_in w g.third (drop (g.objects + x + y) d)) };
        })
    unfolding undo_at value_of
    shown-good x y x-is y-is p =
        reading w at [] d r told g e p λ u k q is.
        let h = undo-objects w p at [] d u k wide q in
        let place : at + k - objects_length w u ≡ h.place = omega (arith, h.last) in
        rw (q, y-is, x-is, is, place, ← h.first, ← h.second, ← h.third)
