-- The proof that `put_first` meets its contract.
use native.Mathlib.Omega.{arith}
use Rattle.entries_directory.proofs.First.{fits-length}
use Rattle.tree_check.proofs.gather.put_first.Goals as goal

pub put_component-requires : goal.put_component-requires
put_component-requires c =
    let n = fits-length c.args.v c.args.b.now c.args.work.now c.args.s c.requires.0 c.requires.1 _ c.name_at-name.ensures in
    (omega (arith, n, c.requires.2), c.requires.3)
