-- The proof that `take_part` meets its contract.
use mathlib.Core.Path.{refl, sym, ◌∙◌}
use native.Mathlib.Omega.{arith}
use Rattle.tree_nodes.proofs.Nodes.{node-is}
use Rattle.tree_check.proofs.Parts.{look-at, part-files, part-missing, part-lost}
use Rattle.tree_check.proofs.walk.take_part.Goals as goal

pub read_node-requires : goal.read_node-requires
read_node-requires c =
    let look = rw c.in-Some.is at c.look_up.ensures in
    (look-at _ _ _ _ _ _ _ _ _ look.0 c.in-Some-node.is).most

pub enter-requires : goal.enter-requires
enter-requires c =
    let look = rw c.in-Some.is at c.look_up.ensures in
    let found = look-at _ _ _ _ _ _ _ _ _ look.0 c.in-Some-node.is in
    let is = node-is _ _ found.most _ (sym c.in-Some-read_node.is ∙ c.read_node.ensures) in
    (omega (arith, is.within, c.requires.0.small), omega (arith, found.within, c.requires.0.fits.inside.short), c.requires.0.few)

pub returns-in_default : goal.returns-in_default
returns-in_default c =
    let look = rw c.in_default.is at c.look_up.ensures in
    (record { is = part-files _ _ _ _ _ _ _ _ c.requires.0 look.0 _ c.pass_files.ensures }, look.1)

pub returns-in_default-node : goal.returns-in_default-node
returns-in_default-node c =
    let look = rw c.in-Some.is at c.look_up.ensures in
    (record { is = part-missing _ _ _ _ _ _ _ _ c.requires.0 _ (look-at _ _ _ _ _ _ _ _ _ look.0 c.in_default-node.is) _ c.pass.ensures _ c.is_none.ensures }, look.1)

pub returns-in_default-read_node : goal.returns-in_default-read_node
returns-in_default-read_node c =
    let look = rw c.in-Some.is at c.look_up.ensures in
    let found = look-at _ _ _ _ _ _ _ _ _ look.0 c.in-Some-node.is in
    (record { is = part-lost _ _ _ _ _ _ _ c.args.work.now c.requires.0 _ _ found (sym c.in_default-read_node.is ∙ c.read_node.ensures) }, look.1)

pub returns : goal.returns
returns c =
    let look = rw c.in-Some.is at c.look_up.ensures in
    let found = look-at _ _ _ _ _ _ _ _ _ look.0 c.in-Some-node.is in
    (record { is = rw c.enter.ensures record { same = refl; place = _; node = _; read = sym c.in-Some-read_node.is ∙ c.read_node.ensures; look = found; is = refl } }, look.1)
