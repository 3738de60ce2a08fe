-- The proof that `pass_entry` meets its contract.
use Rattle.format_laws.proofs.Tests.{false-true}
use Rattle.entries_run.proofs.pass_entry.Goals as goal

pub entry_at-requires : goal.entry_at-requires
entry_at-requires c = (c.requires.0, c.requires.1, λ e. false-true e, c.requires.2)

pub returns : goal.returns
returns c = c.entry_at.ensures.later
