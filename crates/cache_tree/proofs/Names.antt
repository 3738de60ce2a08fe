-- Laws of the name of a node below the root.
use mathlib.Core.Path.{◌≡◌, refl, sym, ap, ◌∙◌}
use mathlib.Core.List.{List, [], ◌∷◌}
use mathlib.Core.Bool.{Bool, true, false, cond, not, ◌||◌}
use Prim.Native.Nat.{ℕ, ◌≤◌}
use native.Mathlib.Omega.{arith}
use borrow.Author.Tests.{le-leb, eqb-true, eqb-false}
use lib.ListN.{length}
use lib.Dec.{eqb}
use Rattle.std.specs.List.{list_any}
use Rattle.format.specs.Bytes.{lacks}
use Rattle.format.specs.Layout.{ok_node_name}

lacks-not : (b : ℕ) (s : List ℕ) → lacks b s ≡ not (list_any (λ y. eqb y b) s)
unfolding lacks
lacks-not b [] = refl
lacks-not b (x ∷ s) = ap (cond (eqb x b) false) (lacks-not b s) ∙ by (eqb x b) (list_any (λ y. eqb y b) s)
  where
    by : (t u : Bool) → cond t false (not u) ≡ not (t || u)
    by true u = refl
    by false u = refl

-- by whether it is empty
pub no_name : (s : List ℕ) → true ≡ eqb (length s) 0 → false ≡ ok_node_name s
unfolding ok_node_name
no_name [] e = refl
no_name (x ∷ s) e = absurd (omega (arith, eqb-true _ _ (sym e)))

pub some-name : (s : List ℕ) → false ≡ eqb (length s) 0 → not (list_any (λ y. eqb y 47) s) ≡ ok_node_name s
unfolding ok_node_name
some-name s e =
    let l : 1 ≤ length s = omega (arith, eqb-false _ _ (sym e)) in
    rw (le-leb _ _ l) (sym (lacks-not 47 s))
