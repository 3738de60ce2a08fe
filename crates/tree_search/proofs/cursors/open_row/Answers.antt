-- The proof that `open_row` meets its contract.
use mathlib.Core.Path.{◌≡◌, sym, ◌∙◌}
use Prim.Native.Nat.{◌+◌, ◌*◌}
use native.Mathlib.Omega.{arith}
use Rattle.tree_search.proofs.Rows.{row-is-of, row_new, mark_set}
use Rattle.tree_search.proofs.cursors.open_row.Goals as goal

pub returns-then-is_of : goal.returns-then-is_of
returns-then-is_of c = λ w d inside known.
    row-is-of d _ _ _ _ c.requires.0 inside c.requires.1 _ c.list_of-list.ensures (sym c.is_of.ensures ∙ c.if-is_of.true) known

pub returns : goal.returns
returns c = λ w d inside known.
    let e = c.list_of-list.ensures in
    let mark : c.list_of-list.result + 2 ≡ 3078 + c.args.level * 3 + 2 = omega arith in
    let new = row_new d _ _ _ _ c.clear.new.t inside known c.requires.0 c.requires.1 _ c.cell_of-row.ensures _ c.list_of-list.ensures c.clear.ensures.0 c.clear.ensures.1 c.clear.ensures.2 in
    rw (c.set_list-2.ensures, c.set_list.ensures) (mark_set d _ _ _ _ new _ mark 0)
