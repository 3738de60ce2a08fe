-- The proof that `put_invalid_tree` meets its contract: the root, and then its subtrees.
use native.Mathlib.Omega.{arith}
use Rattle.tree_nodes.proofs.Nodes.{node-is}
use Rattle.tree_write.specs.Written.{NodeHere}
use Rattle.tree_write.proofs.Wholes.{whole-none, whole-invalid}
use Rattle.tree_write.proofs.put_invalid_tree.Goals as goal
use Rattle.tree_write.proofs.put_invalid_tree.Goals.{In-Some}

here_of : (c : In-Some) → NodeHere c.args.w c.args.d.now 0 c.in-Some.root
here_of c = record { read = c.in-Some.ensures }

pub put_path-requires : goal.put_path-requires
put_path-requires c =
    let p = c.requires in
    let is = node-is _ _ p.inside _ (here_of (goal.at.put_path-requires c).In-Some).read in
    let short = c.put_invalid-end.ensures.short in
    record { inside = is.within; few = p.few; near = omega arith; wide = p.wide }

pub returns-in_default : goal.returns-in_default
returns-in_default c =
    let none = c.in_default.ensures in
    record { wrote = λ t m q differ. whole-none _ _ t m q none; short = omega arith }

pub returns : goal.returns
returns c =
    let short = c.put_invalid-end.ensures.short in
    let rest = c.put_path.ensures in
    let further = rest.short in
    record {
      wrote = λ t m q differ. whole-invalid _ _ t m q _ (here_of (goal.at.returns c).In-Some) differ _ _ _ _ _ _ _ c.put_invalid-end.ensures rest;
      short = omega arith;
    }
