use Rattle.std.specs.Prelude.{Some}
use Rattle.cache_tree.proofs.Shape.{nodes-no-root, nodes-named, nodes-rooted}
use Rattle.cache_tree.proofs.Lists.{rooted_all, list-is, forest-sized}
use Rattle.tree_nodes.proofs.Nodes.{NodeIs, node-is}
use Rattle.format.specs.Layout.{distinct}
use native.Mathlib.Omega.{arith}
use mathlib.Core.Path.{sym, ap, ◌∙◌}
use Rattle.cache_tree.proofs.read_nodes.Goals as goal
use Rattle.cache_tree.proofs.read_nodes.Goals.{In_ok-root}

root-of : (c : In_ok-root) → NodeIs c.args.w c.args.d.now 0 c.in_ok-root.root
root-of c = node-is _ 0 (omega arith) _ c.in_ok-root.ensures

pub returns-in_err-root : goal.returns-in_err-root
returns-in_err-root c = (c.from_residual.ensures ∙ sym (nodes-no-root _ _ c.in_err-root.ensures), c.requires.1)

pub returns-then-root-ne0 : goal.returns-then-root-ne0
returns-then-root-ne0 c = (sym (nodes-named _ _ _ (root-of (goal.at.returns-then-root-ne0 c).In_ok-root) c.if-root-ne0.true), c.requires.1)

pub read_list-requires : goal.read_list-requires
read_list-requires c = ((root-of (goal.at.read_list-requires c).In_ok-root).within, c.requires.0, omega arith, c.requires.1)

pub returns-in_err-below : goal.returns-in_err-below
returns-in_err-below c =
    let r = root-of (goal.at.returns-in_err-below c).In_ok-root in
    (c.from_residual-in_err-below.ensures ∙ ap rooted_all c.in_err-below.ensures.0 ∙ sym (nodes-rooted _ _ _ r c.if-root-ne0.false), c.read_list.ensures.1)

pub with_root-requires : goal.with_root-requires
with_root-requires c =
    let r = root-of (goal.at.with_root-requires c).In_ok-root in
    let is = list-is distinct c.args.d.now _ c.in_ok-below.below r.within _ (forest-sized _ _ _ _) c.in_ok-below.ensures.0 in
    let few = is.few in
    let within = is.within in
    let p = c.requires in
    omega arith

pub returns : goal.returns
returns c =
    let r = root-of (goal.at.returns c).In_ok-root in
    (ap Some c.with_root.ensures ∙ ap rooted_all c.in_ok-below.ensures.0 ∙ sym (nodes-rooted _ _ _ r c.if-root-ne0.false), c.read_list.ensures.1)
