-- The proof that `is_file` meets its contract.
use mathlib.Core.Path.{sym, ◌∙◌}
use native.Mathlib.Omega.{arith}
use borrow.Author.Tests.{eqb-true}
use Rattle.format_laws.proofs.Tests.{false-true}
use Rattle.entries_directory.proofs.First.{fits-length, name-file}
use Rattle.entries_directory.proofs.is_file.Goals as goal

pub find-requires : goal.find-requires
find-requires c =
    let n = fits-length c.args.v c.args.b.now c.args.work.now c.args.s c.requires.0 c.requires.1 _ c.name_at-name.ensures in
    omega (arith, n, c.requires.0.short)

pub returns-then-stays : goal.returns-then-stays
returns-then-stays c = λ is.
    let n = fits-length c.args.v c.args.b.now c.args.work.now c.args.s c.requires.0 c.requires.1 _ c.name_at-name.ensures in
    record {
      stays = sym c.stays.ensures ∙ c.if-stays.true;
      alone = rw (← c.name_at-name.ensures) (name-file _ _ _ c.find.ensures.0 (omega (arith, n, c.requires.0.short)) (eqb-true _ _ is));
    }

pub returns : goal.returns
returns c = λ e. false-true e
