-- The proof that `tree_node` meets its contract.
use Rattle.std.proofs.lemmas.Result.{err_from_is_err_and}
use Rattle.kinds.proofs.Laws.{width-most}
use Rattle.index.proofs.Views.{node-is, node-refused}
use Rattle.index.proofs.Places.{node-place}
use Rattle.index.proofs.tree_node.Goals as goal

pub returns-in_err-found : goal.returns-in_err-found
returns-in_err-found c =
    let p = err_from_is_err_and c.from_residual.result c.from_residual.ensures.1 in
    (rw (p.1, p.2) (node-refused _ _ _ c.args.file.now _ _ (node-is _ c.args.k _ _ c.in_err-found.ensures.0)), c.read_cleared.ensures.1)

pub show_node-requires : goal.show_node-requires
show_node-requires c =
    let h = c.in_ok-found.ensures.0 in
    rw c.width_of.ensures.0 ((h.contents.records.cache_tree, h.tree), width-most _)

pub returns : goal.returns
returns c =
    let a = c.args in
    let h = c.in_ok-found.ensures.0 in
    (rw (node-is a.work.now a.k _ _ h.read) (rw c.width_of.ensures.0 at c.show_node.ensures h.contents.records.cache_tree _ h.tree (node-place _ _ _ _ h a.k)), c.read_cleared.ensures.1)
