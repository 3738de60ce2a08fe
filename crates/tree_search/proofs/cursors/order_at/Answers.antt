-- The proof that `order_at` meets its contract.
use mathlib.Core.Path.{◌≡◌, sym, ◌∙◌}
use Prim.Native.Nat.{ℕ}
use native.Mathlib.Omega.{arith}
use Rattle.format_laws.proofs.Lists.{eq-eq_list}
use Rattle.tree_nodes.proofs.Trees.{name_is}
use Rattle.tree_search.proofs.cursors.order_at.Goals as goal

pub returns-then-nul-place : goal.returns-then-nul-place
returns-then-nul-place c = λ e. let z : ◌≡◌ {A = ℕ} 0 1 = cc in absurd (omega arith)

pub returns : goal.returns
returns c = λ e. eq-eq_list _ _ (sym (c.order_of.ensures e) ∙ name_is _ _ _ c.find-nul.ensures.0)
