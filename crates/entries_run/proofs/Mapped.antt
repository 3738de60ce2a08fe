-- A refusal that is given its place by `map_err`.
use mathlib.Core.Path.{◌≡◌, refl, sym, ◌∙◌}
use Rattle.std.specs.Prelude.{Result, Ok, Err, MatchResult, IsErrAnd}
use Rattle.std.proofs.lemmas.Result.{err_from_is_err_and}
use Rattle.format.specs.declared.Refusal.{Refusal}
use Rattle.format.specs.declared.Fault.{Fault}

module _ {A : Type 0} (P : Refusal → Fault → Type 0) where
  pub mapped-ok : (r : Result A Refusal) (q : Result A Fault) (a : A) → MatchResult r (λ x. q ≡ Ok x) (λ e. IsErrAnd q (P e)) → q ≡ Ok a → r ≡ Ok a
  mapped-ok (Ok x) q a is e = let same : ◌≡◌ {A = Result A Fault} (Ok x) (Ok a) = sym is ∙ e in cc
  mapped-ok (Err d) q a is e = let p = err_from_is_err_and q is in absurd (cc (p.1, e))

  pub mapped-err : {X : Type 0} (r : Result A Refusal) (q : Result A Fault) (f : Fault) → MatchResult r (λ x. q ≡ Ok x) (λ e. IsErrAnd q (P e)) → q ≡ Err f
      → ((e : Refusal) → r ≡ Err e → P e f → X) → X
  mapped-err (Ok x) q f is e go = absurd (cc (is, e))
  mapped-err (Err d) q f is e go = go d refl (rw e at is)
