-- The cache-tree extension, from the reading of its data and the test of its counts.
use mathlib.Core.Path.{◌≡◌, refl, sym, ap, ◌∙◌}
use mathlib.Core.List.{List}
use mathlib.Core.Bool.{Bool, true, false}
use Prim.Native.Nat.{ℕ, ◌+◌}
use native.Mathlib.Omega.{arith}
use lib.ListN.{length}
use borrow.Author.Tests.{eqb-true}
use Rattle.format.specs.Records.{Tree, tree_items}
use Rattle.format.specs.Layout.{cache_tree, distinct, ok_tree_counts}
use Rattle.format.specs.Reading.{Read, bad, good, need, shift, bind}
use Rattle.format.specs.Reader.{read_nodes, read_tree}
use Rattle.format_laws.proofs.Lists.{part_length}
use Rattle.format_laws.proofs.Readings.{good-inv, need-inv, bind_inv, same_size}
use Rattle.cache_tree.specs.Shape.{read_shape, tree_of, placed}
use Rattle.cache_tree.proofs.Shape.{tree-counts}
use Rattle.cache_tree.proofs.Faults.{shape-placed, tree-fault}
use Rattle.extensions.specs.declared.Found.{Found}
use Rattle.std.specs.Prelude.{Ok, Some, None, is_some}
use Rattle.extensions.specs.Heads.{part, known, Inside}
use Rattle.extensions.specs.Steps.{OneAnswered}
use Rattle.extensions.proofs.Known.{known-bad, known-good, data-sized}

-- what the data have been tested for
shape-inv {ℓ} : (w : ℕ) {X : Type ℓ} (d : List ℕ) (t : Tree) (m : ℕ) → read_shape w 0 d ≡ good t m
    → (m ≡ length d → read_nodes w 0 d ≡ good t (length d) → distinct t.subtrees ≡ true → X) → X
unfolding read_shape
shape-inv w d t m e f =
    bind_inv (read_nodes w 0 d) _ _ _ e λ u i j nodes q size.
    need-inv _ _ _ _ _ _ q λ whole q₁.
    need-inv _ _ _ _ _ _ q₁ λ differ q₂.
    good-inv _ _ _ _ q₂ λ is none.
    let all : i ≡ length d = eqb-true _ _ whole in
    f (omega arith) (nodes ∙ cc) (rw is at differ)

tree-inv {ℓ} : {X : Type ℓ} (n : ℕ) (r : Read Tree) → Some n ≡ tree_of r → ((t : Tree) (m : ℕ) → r ≡ good t m → n ≡ length (tree_items t) → X) → X
unfolding tree_of
tree-inv n (bad a p) e f = let z : ◌≡◌ {A = ℕ} 0 1 = cc in absurd (omega arith)
tree-inv n (good t m) e f = f t m refl (cc)

-- the same reading at another place, and the test of the counts
shape_at : (w : ℕ) (p : ℕ) (d : List ℕ) (t : Tree) (m : ℕ) → read_shape w 0 d ≡ good t m → read_shape w p d ≡ good t m
shape_at w p d t m e = shape-placed p w d ∙ ap (placed p) e

tree-read : (w : ℕ) (ns : List (List ℕ)) (p : ℕ) (d : List ℕ) (t : Tree) (m : ℕ) → read_shape w 0 d ≡ good t m → read_tree w ns p d ≡ shift m (need (ok_tree_counts ns t) 16 p (good t 0))
unfolding bind
tree-read w ns p d t m e = tree-counts w ns p d ∙ rw (shape_at w p d t m e)

module _ (w : ℕ) (b : List ℕ) (at end : ℕ) (inside : Inside b at end) (found : Found) (new : found.tree ≡ None) (ns : List (List ℕ)) where
  pub tree-refused : ((p : ℕ) → None ≡ tree_of (read_shape w p (part b (at + 8) end)))
      → known (is_some found.tree) at (read_tree w ns at (part b (at + 8) end)) cache_tree ≡ bad 15 at
  unfolding bind
  tree-refused e =
      let d : List ℕ = part b (at + 8) end in
      known-bad at _ cache_tree _ (ap is_some new) 15 (tree-counts w ns at d ∙ rw (tree-fault w at d (e at)))

  -- counted is what the test of the counts says of the tree in the data
  module _ (n : ℕ) (counted : Bool) (e : (p : ℕ) → Some n ≡ tree_of (read_shape w p (part b (at + 8) end)))
      (test : (t : Tree) (m : ℕ) → read_nodes w 0 (part b (at + 8) end) ≡ good t m → distinct t.subtrees ≡ true → counted ≡ ok_tree_counts ns t) where
    pub tree-miscounted : counted ≡ false → known (is_some found.tree) at (read_tree w ns at (part b (at + 8) end)) cache_tree ≡ bad 16 at
    unfolding shift need
    tree-miscounted wrong =
        let d : List ℕ = part b (at + 8) end in
        tree-inv n (read_shape w 0 d) (e 0) λ t m q number.
        shape-inv w d t m q λ size nodes differ.
        let miscounts : ok_tree_counts ns t ≡ false = sym (test t _ nodes differ) ∙ wrong in
        known-bad at _ cache_tree _ (ap is_some new) 16 (tree-read w ns at d t m q ∙ rw miscounts)

    pub tree-added : counted ≡ true
        → OneAnswered w b at found (known (is_some found.tree) at (read_tree w ns at (part b (at + 8) end)) cache_tree)
        (Ok (end, record { tree = Some (record { at = at + 8; end = end; count = n }); undo = found.undo }))
    unfolding shift need
    tree-added right =
        let d : List ℕ = part b (at + 8) end in
        tree-inv n (read_shape w 0 d) (e 0) λ t m q number.
        shape-inv w d t m q λ size nodes differ.
        let l = part_length b (at + 8) end inside.1 in
        let counts : ok_tree_counts ns t ≡ true = sym (test t _ nodes differ) ∙ right in
        let reads : read_tree w ns at d ≡ good t (m + 0) = tree-read w ns at d t m q ∙ rw counts in (
          cache_tree t,
          known-good at _ cache_tree _ (ap is_some new) t (m + 0) reads ∙ same_size (omega arith),
          (
            new,
            record {
              order = omega arith;
              inside = inside.1;
              sized = data-sized b at end inside;
              reads = nodes;
              nodes = number;
            },
            refl,
            refl,
          ),
        )
