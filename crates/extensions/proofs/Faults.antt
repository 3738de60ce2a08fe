-- Every fault of the data of REUC is 17 at the extension's place.
use mathlib.Core.Path.{◌≡◌, refl}
use mathlib.Core.List.{List, [], ◌∷◌}
use mathlib.Core.Bool.{Bool, true, false, cond}
use mathlib.Core.Option.{Option, none, some}
use Prim.Native.Nat.{ℕ, zero, suc}
use native.Mathlib.Omega.{arith}
use lib.ListN.{length, take, drop, replicate}
use lib.Dec.{eqb, leb}
use Rattle.format.specs.Reading.{Read, bad, good, need, shift, bind}
use Rattle.format.specs.Reader.{read_text, need_some, read_mode, read_stage, read_stages, read_undo, read_undos}

-- where it is a refusal, it is n at p
pub record Faults {A : Type 0} (n p : ℕ) (r : Read A) : Type 0 where
  pub only : (a q : ℕ) → r ≡ bad a q → r ≡ bad n p

module _ {A : Type 0} (n p : ℕ) where
  good-faults : (a : A) (m : ℕ) → Faults n p (good a m)
  good-faults a m = record { only = λ b q e. let z : ◌≡◌ {A = ℕ} 0 1 = cc in absurd (omega arith) }

  bad-faults : Faults {A = A} n p (bad n p)
  bad-faults = record { only = λ a q e. refl }

  need-faults : (t : Bool) (r : Read A) → Faults n p r → Faults n p (need t n p r)
  unfolding need
  need-faults true r h = h
  need-faults false r h = bad-faults

  cond-faults : (t : Bool) (r s : Read A) → Faults n p r → Faults n p s → Faults n p (cond t r s)
  cond-faults true r s h i = h
  cond-faults false r s h i = i

  shift-faults : (k : ℕ) (r : Read A) → Faults n p r → Faults n p (shift k r)
  unfolding shift
  shift-faults k (bad a q) h = h
  shift-faults k (good a m) h = good-faults a _

  bind-faults : {B : Type 0} (r : Read B) (k : B → ℕ → Read A) → Faults n p r → ((b : B) (m : ℕ) → Faults n p (k b m)) → Faults n p (bind r k)
  unfolding bind
  bind-faults (bad a q) k h f = record { only = λ b j e. let i = h.only a q refl in cc }
  bind-faults (good b m) k h f = shift-faults m (k b m) (f b m)

  some-faults : {B : Type 0} (o : Option B) (k : B → Read A) → ((b : B) → Faults n p (k b)) → Faults n p (need_some o n p k)
  unfolding need_some
  some-faults none k f = bad-faults
  some-faults (some b) k f = f b

module _ (w p : ℕ) where
  text-faults : (s : List ℕ) → Faults 17 p (read_text 0 17 p s)
  unfolding read_text
  text-faults s = need-faults 17 p _ _ (good-faults 17 p _ _)

  mode-faults : (s : List ℕ) → Faults 17 p (read_mode p s)
  unfolding read_mode
  mode-faults s = bind-faults 17 p _ _ (text-faults s) λ t m. some-faults 17 p _ _ λ x. good-faults 17 p x 0

  stage-faults : (m : ℕ) (s : List ℕ) → Faults 17 p (read_stage w p m s)
  unfolding read_stage
  stage-faults m s =
      cond-faults 17 p (eqb m 0)
      (good (record { mode = 0; object = replicate w 0 }) 0)
      (need (leb w (length s)) 17 p (good (record { mode = m; object = take w s }) w))
      (good-faults 17 p _ _) (need-faults 17 p _ _ (good-faults 17 p _ _))

  stages-faults : (path : List ℕ) (a b c : ℕ) (s : List ℕ) → Faults 17 p (read_stages w p path a b c s)
  unfolding read_stages
  stages-faults path a b c s =
      bind-faults 17 p _ _ (stage-faults a s) λ x m.
      bind-faults 17 p _ _ (stage-faults b (drop m s)) λ y n.
      bind-faults 17 p _ _ (stage-faults c (drop n (drop m s))) λ z o. need-faults 17 p _ _ (good-faults 17 p _ _)

  undo-faults : (previous s : List ℕ) → Faults 17 p (read_undo w p previous s)
  unfolding read_undo
  undo-faults previous s =
      bind-faults 17 p _ _ (text-faults s) λ path m.
      need-faults 17 p _ _
      (bind-faults 17 p _ _ (mode-faults (drop m s)) λ a n.
      bind-faults 17 p _ _ (mode-faults (drop n (drop m s))) λ b o.
      bind-faults 17 p _ _ (mode-faults (drop o (drop n (drop m s)))) λ c q. stages-faults path a b c (drop q (drop o (drop n (drop m s)))))

  pub undos-faults : (fuel : ℕ) (previous s : List ℕ) → Faults 17 p (read_undos w p fuel previous s)
  unfolding read_undos
  undos-faults zero previous [] = good-faults 17 p _ _
  undos-faults (suc fuel) previous [] = good-faults 17 p _ _
  undos-faults zero previous (x ∷ s) = bad-faults 17 p
  undos-faults (suc fuel) previous (x ∷ s) =
      bind-faults 17 p _ _ (undo-faults previous (x ∷ s)) λ u m.
      bind-faults 17 p _ _ (undos-faults fuel u.path (drop m (x ∷ s))) λ us n. good-faults 17 p _ _
