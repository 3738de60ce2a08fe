use Rattle.cache_tree.proofs.Siblings.{still-same, still-other}
use Rattle.tree_nodes.proofs.Trees.{name_is}
use Rattle.cache_tree.specs.Orders.{slash_below, length_below}
use mathlib.Core.Bool.{true, false}
use mathlib.Core.Path.{ap₂, ◌∙◌}
use Rattle.cache_tree.proofs.orders.rise.Goals as goal

pub returns-then-a-b : goal.returns-then-a-b
returns-then-a-b c = (still-same false _ _ _ _ c.if-a-b.true, still-same true _ _ _ _ c.if-a-b.true)

pub returns : goal.returns
returns c =
    let d = c.args.d.now in
    let s = name_is d _ _ c.find-x.ensures.0 in
    let t = name_is d _ _ c.find-y.ensures.0 in
    let other = c.if-a-b.false in
    (still-other false d _ _ _ other _ (c.slash_below-by_slash.ensures ∙ ap₂ slash_below s t), still-other true d _ _ _ other _ (c.length_below-by_length.ensures ∙ ap₂ length_below s t))
