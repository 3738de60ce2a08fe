-- The proof that `look_up` meets its contract.
use native.Mathlib.Omega.{arith}
use Rattle.entries_directory.proofs.First.{fits-length}
use Rattle.tree_check.proofs.Components.{ahead-file, ahead-child}
use Rattle.tree_check.proofs.look.look_up.Goals as goal

pub find-e-requires : goal.find-e-requires
find-e-requires c =
    omega (arith, fits-length c.args.v c.args.b.now c.args.work.now c.args.s c.requires.2 c.requires.3 _ c.name_at-name.ensures, c.requires.4)

pub returns-then-e-name : goal.returns-then-e-name
returns-then-e-name c =
    (ahead-file _ _ _ _ _ c.requires.2 c.requires.3 _ c.name_at-name.ensures _ c.requires.4 _ c.find-e.ensures.0 _ _ _ c.if-e-name.true, c.requires.5)

pub returns : goal.returns
returns c =
    (ahead-child _ _ _ _ _ c.requires.2 c.requires.3 _ c.name_at-name.ensures _ c.requires.4 _ c.find-e.ensures.0 _ _ _ c.if-e-name.false c.find-e.ensures.1 _ c.find_child-node.ensures.0, c.find_child-node.ensures.1)
