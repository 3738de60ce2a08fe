-- The proof that `order_of` meets its contract. Names that have all their bytes in common are equal.
use mathlib.Core.Path.{◌≡◌, sym, ◌∙◌}
use mathlib.Core.List.{List}
use Prim.Native.Nat.{ℕ, ◌≤◌}
use native.Mathlib.Omega.{arith}
use lib.ListN.{length}
use lib.Seq.{take_all}
use Rattle.format.specs.Names.{common}
use Rattle.format_laws.proofs.Names.{common-take}
use Rattle.tree_search.proofs.cursors.order_of.Goals as goal

all-common : (s t : List ℕ) (n : ℕ) → n ≡ common s t → length s ≤ n → length t ≤ n → s ≡ t
all-common s t n is a b = sym (take_all n s a) ∙ rw is (common-take s t) ∙ take_all n t b

pub returns-then-t-n : goal.returns-then-t-n
returns-then-t-n c = λ e. all-common _ _ _ c.common-n.ensures.0 c.if-s-n.true c.if-t-n.true

pub returns-then-slash_below : goal.returns-then-slash_below
returns-then-slash_below c = λ e. let z : ◌≡◌ {A = ℕ} 0 1 = cc in absurd (omega arith)

pub returns : goal.returns
returns c = λ e. let z : ◌≡◌ {A = ℕ} 0 1 = cc in absurd (omega arith)
