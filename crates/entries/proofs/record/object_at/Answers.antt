-- The proof that `object_at` meets its contract.
use mathlib.Core.Path.{refl, ◌∙◌}
use Prim.Native.Nat.{◌+◌}
use Rattle.format_laws.proofs.Lists.{copied-over}
use Rattle.entries.proofs.record.object_at.Goals as goal

pub returns : goal.returns
returns c =
    let a = c.args in
    c.copy_to.ensures ∙ copied-over 32 a.w a.at (a.at + a.w) a.b.now refl
