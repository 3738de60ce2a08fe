-- Laws of a resolve-undo record that is shown.
use mathlib.Core.Path.{◌≡◌, refl, sym, ap, ◌∙◌}
use mathlib.Core.List.{List, [], ◌∷◌}
use mathlib.Core.Bool.{false}
use mathlib.Core.Option.{Option, none, some}
use Prim.Native.Nat.{ℕ, zero, suc, ◌+◌, ◌-◌, ◌≤◌, ◌<◌}
use native.Mathlib.Omega.{arith}
use lib.ListN.{length, take, drop, get_or, get_elem?, replicate, length-take}
use lib.Seq.{drop-drop}
use Rattle.std.specs.Prelude as P
use Rattle.std.specs.Prelude.{Ok, Some, None, IfSome}
use Rattle.format.specs.Records as F
use Rattle.format.specs.Places.{body_in, data_in, undo_start}
use Rattle.resolve_undo.specs.declared.Shown as Code
use Rattle.resolve_undo.specs.Answers.{undo_at, item, stage_shown, shown}
use Rattle.entries.specs.Record.{wide_object}
use Rattle.entries.proofs.Fields.{wide-narrow}
use Rattle.resolve_undo.proofs.Laws.{wide-zeros}
use Rattle.resolve_undo.proofs.Showing.{shown-item, shown-path, missing-zeros, objects-long}
use Rattle.answers.specs.declared.Shown.TheVariants as S
use Rattle.answers.specs.Answers.{View, refused, in_file, listed, part_in, name_in, undo_said}
use Rattle.answers.proofs.Laws.{part_in_lem, part-within, item-none}
use Rattle.extensions.specs.declared.Place.{Place}
use Rattle.extensions.specs.Heads.{part}
use Rattle.extensions.specs.Found.{UndoIs, UndoFound}
use Rattle.index.specs.Calls.{UndoShows}
use Rattle.index.proofs.Views.{part-of-body, item-some, pick-none, pick-file}

item-is : (n : ℕ) (us : List F.Undo) → item n us ≡ get_elem? us n
unfolding item
item-is zero [] = refl
item-is (suc n) [] = refl
item-is zero (u ∷ us) = refl
item-is (suc n) (u ∷ us) = item-is n us

-- where the data are
pub record Within (f : List ℕ) (undo : Place) : Type 0 where
  pub order : undo.at ≤ undo.end
  pub inside : undo.end ≤ length f

-- and in them a record that is found at a place
pub record RecordHere (w : ℕ) (k : ℕ) (f : List ℕ) (undo : Place) (place : ℕ) (u : F.Undo) : Type 0 where
  pub within : Within f undo
  pub found : undo.at + undo_start w 0 k [] (data_in undo.at (body_in w f)) ≡ undo.at + place
  pub reads : undo_at w 0 (drop place (part f undo.at undo.end)) ≡ some u

no_record : F.Undo
no_record = record { path = []; first = record { mode = 0; object = [] }; second = record { mode = 0; object = [] }; third = record { mode = 0; object = [] } }

module _ (w : ℕ) (k : ℕ) (f : List ℕ) (undo : Place) where
  within-is : (us : List F.Undo) → UndoIs w (body_in w f) us undo → Within f undo
  within-is us is = let b : length (body_in w f) ≤ length f = simp length-take (omega arith) in record { order = is.order; inside = omega (arith, is.inside) }

  pub within : (o : Option (List F.Undo)) → UndoFound w (body_in w f) o (Some undo) → Within f undo
  within none is = absurd is
  within (some us) is = within-is us is

  -- by what was read of the file
  pub record-here {ℓ} : {X : Type ℓ} (place : ℕ) → place ≡ undo_start w 0 k [] (part f undo.at undo.end) → (o : Option (List F.Undo)) → UndoFound w (body_in w f) o (Some undo) → k < undo.count
      → ((u : F.Undo) → listed o k ≡ in_file u → RecordHere w k f undo place u → X) → X
  record-here place e none is more g = absurd is
  record-here place e (some us) is more g =
      let d : List ℕ = part f undo.at undo.end in
      let few : k < length us = omega (arith, is.records) in
      let there : get_elem? us k ≡ some (get_or us k no_record) = item-some us k no_record few in
      let same : part (body_in w f) undo.at undo.end ≡ d = part-of-body w f undo.at undo.end is.order is.inside in
      g (get_or us k no_record) (pick-file false _ _ refl there)
      (record {
        within = within-is us is;
        found = ap (λ n. undo.at + n) (sym (e ∙ ap (undo_start w 0 k []) (sym same ∙ is.sized)));
        reads = rw e (shown-item w 0 k d us (length d) (rw same at is.reads) few ∙ item-is k us ∙ there);
      })

-- a record that is there is read again
pub record-there : (w : ℕ) (k : ℕ) (f : List ℕ) (undo : Place) (place : ℕ) (u : F.Undo) → RecordHere w k f undo place u → None ≡ shown place (undo_at w 0 (drop place (part f undo.at undo.end))) → ⊥
record-there w k f undo place u h e = let q = e ∙ ap (shown place) h.reads in absurd (cc)

-- where there is no record k
pub no-record-there : (w : ℕ) (k : ℕ) (f : List ℕ) (place : P.Option Place) (o : Option (List F.Undo)) → UndoFound w (body_in w f) o place → IfSome place (λ p. p.count ≤ k) → listed o k ≡ refused 18 0
no-record-there w k f place none is few = refl
no-record-there w k f None (some us) is few = absurd is
no-record-there w k f (Some p) (some us) is few = pick-none false _ (item-none us k (omega (arith, is.records)))

-- ---- the answer

module _ (w : ℕ) (k : ℕ) (f : List ℕ) (undo : Place) (found place : ℕ) (v : View F.Undo) (u : F.Undo) (is : v ≡ in_file u) (h : RecordHere w k f undo found u)
    (placed : undo.at + undo_start w 0 k [] (data_in undo.at (body_in w f)) ≡ place) (s : Code.Shown)
    (shows : Some s ≡ shown found (undo_at w 0 (drop found (part f undo.at undo.end))))
    (inside : s.path + s.path_length ≤ length (part f undo.at undo.end)) (wide : 1 ≤ w) (narrow : w ≤ 32) where
  pub undo-shows : UndoShows w place v f
      (Ok (record {
        shown = S.InFile (undo.at + s.path) s.path_length;
        first_mode = s.first.mode;
        second_mode = s.second.mode;
        third_mode = s.third.mode;
        first = s.first.object;
        second = s.second.object;
        third = s.third.object;
      }))
  unfolding undo_said name_in
  undo-shows =
      let d : List ℕ = part f undo.at undo.end in
      let both : Some s ≡ shown found (some u) = shows ∙ ap (shown found) h.reads in
      let q : s ≡ record { path = found; path_length = length u.path; first = stage_shown u.first.mode u.first.object; second = stage_shown u.second.mode u.second.object; third = stage_shown u.third.mode u.third.object } = cc in
      let long : length d ≤ undo.end - undo.at = simp length-take (omega arith) in
      let inner = h.within in
      let at : s.path ≡ found = ap (λ (x : Code.Shown). x.path) q in
      let size : s.path_length ≡ length u.path = ap (λ (x : Code.Shown). x.path_length) q in
      let fits : undo.at + s.path + s.path_length ≤ length f = omega arith in
      let name : part_in (undo.at + s.path) s.path_length f ≡ u.path =
      part_in_lem _ _ f fits
      ∙ ap (take s.path_length) (sym (drop-drop s.path undo.at f))
      ∙ sym (part-within (undo.end - undo.at) s.path s.path_length (drop undo.at f) (omega arith))
      ∙ rw (at, size) (shown-path w 0 (drop found d) u wide h.reads) in
      let zeros = missing-zeros w 0 (drop found d) u wide h.reads in
      let sizes = objects-long w 0 (drop found d) u h.reads in
      let blank : wide_object (replicate w 0) ≡ replicate 32 0 = wide-zeros w narrow in
      let own : undo.at + s.path ≡ place = ap (λ n. undo.at + n) at ∙ sym h.found ∙ placed in
      record {
        shows = λ work. record { whole = rw (is, own, q) refl; said = rw (name, q, wide-narrow w _ sizes.0, wide-narrow w _ sizes.1, wide-narrow w _ sizes.2, is) refl; inside = fits };
        zeros = rw q (λ e. ap wide_object (zeros.0 e) ∙ blank, λ e. ap wide_object (zeros.1 e) ∙ blank, λ e. ap wide_object (zeros.2 e) ∙ blank);
      }
