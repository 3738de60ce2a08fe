-- A result whose refusal was given a place.
use mathlib.Core.Path.{◌≡◌, refl, sym, ◌∙◌}
use Prim.Native.Nat.{ℕ}
use Rattle.std.specs.Prelude.{Result, Ok, Err, MatchResult}
use Rattle.std.specs.Result.{IsErrAnd}
use Rattle.std.proofs.lemmas.Result.{err_from_is_err_and}
use Rattle.format.specs.declared.Refusal.{Refusal}
use Rattle.format.specs.declared.Fault.{Fault}
use Rattle.format.specs.Refusals.{fault_at}

module _ {A : Type 0} (place : ℕ) where
  abbrev pub Mapped : Result A Refusal → Result A Fault → Type 0
  Mapped r s = MatchResult r (λ x. s ≡ Ok x) (λ e. IsErrAnd s (λ f. f ≡ fault_at e place))

  pub mapped-ok : (r : Result A Refusal) (s : Result A Fault) → Mapped r s → (x : A) → s ≡ Ok x → r ≡ Ok x
  mapped-ok (Ok y) s h x e = let z : ◌≡◌ {A = Result A Fault} (Ok y) (Ok x) = sym h ∙ e in let same : y ≡ x = cc in rw same
  mapped-ok (Err y) s h x e = let p = err_from_is_err_and s h in let z : Ok x ≡ Err p.0 = sym e ∙ p.1 in cc

  pub mapped-err : (r : Result A Refusal) (s : Result A Fault) → Mapped r s → (f : Fault) → s ≡ Err f → (e : Refusal) × (r ≡ Err e) × (f ≡ fault_at e place)
  mapped-err (Ok y) s h f e = let z : Ok y ≡ Err f = sym h ∙ e in absurd (cc)
  mapped-err (Err y) s h f e = let p = err_from_is_err_and s h in let same : f ≡ p.0 = cc in (y, refl, same ∙ p.2)
