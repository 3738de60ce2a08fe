-- The proof that `sibling_at` meets its contract.
use mathlib.Core.Path.{◌≡◌, sym, ap, ◌∙◌}
use Prim.Native.Nat.{ℕ, ◌+◌, ◌-◌}
use native.Mathlib.Omega.{arith}
use lib.ListN.{drop}
use Rattle.tree_nodes.specs.Flat.{trees_length}
use Rattle.tree_nodes.proofs.Nodes.{NodeIs, node-is}
use Rattle.tree_nodes.proofs.Trees.{name_is, node-name-is}
use Rattle.tree_nodes.proofs.Flat.{trees-more, trees-stop}
use Rattle.tree_nodes.proofs.passes.sibling_at.Goals as goal
use Rattle.tree_nodes.proofs.passes.sibling_at.Goals.{In-Some}

-- the node that was read
node_of : (c : In-Some) → NodeIs c.args.w c.args.d.now c.args.at c.in-Some.node
node_of c = node-is _ _ c.requires.0 _ c.in-Some.ensures

pub after_trees-requires : goal.after_trees-requires
after_trees-requires c = ((node_of c).within, c.requires.1)

pub returns-in-None : goal.returns-in-None
returns-in-None c =
    record {
      ends = record { least = omega (arith, c.find.ensures.0); most = c.find.ensures.1; name = name_is _ _ _ c.find.ensures.0 };
      after = sym (trees-stop _ _ _ 1 (omega arith) c.requires.0 c.in-None.ensures);
      within = omega arith;
    }

pub returns-in-Some : goal.returns-in-Some
returns-in-Some c =
    let is = node_of (goal.at.returns-in-Some c).In-Some in
    let node = c.in-Some.node in
    let d = c.args.d.now in
    let w = c.args.w in
    let t = c.after_trees.ensures in
    let e : node.subtrees ≡ 1 - 1 + node.subtrees = omega arith in
    record {
      ends = record { least = is.named; most = omega (arith, is.ended, is.within); name = node-name-is _ _ _ is };
      after = t.0 ∙ ap (λ (n : ℕ). node.next + trees_length w n (drop node.next d)) e ∙ sym (trees-more _ _ _ 1 (omega arith) _ is);
      within = t.1;
    }
