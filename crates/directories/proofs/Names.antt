-- Laws of names under a directory: which, and how many.
use mathlib.Core.Path.{◌≡◌, refl, sym, ◌∙◌}
use mathlib.Core.List.{List, [], ◌∷◌}
use mathlib.Core.Bool.{true, false}
use Prim.Native.Nat.{ℕ}
use lib.Dec.{eqb}
use borrow.Author.Tests.{eqb-true, eq-eqb}
use Rattle.format.specs.Bytes.{eq_list, lacks}
use Rattle.format.specs.Layout.{under}
use Rattle.format_laws.proofs.Tests.{false-true, clash, by-test, else-inv, head-inv}

-- a name under a directory has a "/"
pub under-slash : (d s : List ℕ) → under d s ≡ true → lacks 47 s ≡ false
unfolding under lacks
under-slash [] [] e = false-true e
under-slash [] (y ∷ s) e = rw e
under-slash (x ∷ d) [] e = false-true e
under-slash (x ∷ d) (y ∷ s) e = rw (under-slash d s (head-inv x y _ e).1) (by-test (eqb y 47) (λ h. rw h) (λ h. rw h))

-- a name is under one component only
pub under_one : (c d s : List ℕ) → lacks 47 c ≡ true → lacks 47 d ≡ true → under c s ≡ true → under d s ≡ true → eq_list c d ≡ true
unfolding under lacks eq_list
under_one [] [] s lc ld p q = refl
under_one [] (z ∷ d) [] lc ld p q = false-true p
under_one [] (z ∷ d) (y ∷ s) lc ld p q =
    clash (eq-eqb z 47 ((head-inv z y _ q).0 ∙ eqb-true y 47 p)) (else-inv (eqb z 47) _ ld).0
under_one (x ∷ c) [] [] lc ld p q = false-true p
under_one (x ∷ c) [] (y ∷ s) lc ld p q =
    clash (eq-eqb x 47 ((head-inv x y _ p).0 ∙ eqb-true y 47 q)) (else-inv (eqb x 47) _ lc).0
under_one (x ∷ c) (z ∷ d) [] lc ld p q = false-true p
under_one (x ∷ c) (z ∷ d) (y ∷ s) lc ld p q =
    let i = head-inv x y _ p in
    let j = head-inv z y _ q in
    let e : eqb x z ≡ true = eq-eqb x z (i.0 ∙ sym j.0) in
    rw (e, under_one c d s (else-inv (eqb x 47) _ lc).1 (else-inv (eqb z 47) _ ld).1 i.1 j.1)
