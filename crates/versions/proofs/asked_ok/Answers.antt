-- The proof that `asked_ok` meets its contract.
use mathlib.Core.Path.{refl}
use Rattle.format.specs.Requests.{ok_asked}
use Rattle.versions.proofs.asked_ok.Goals as goal

pub returns : goal.returns
unfolding ok_asked
returns c = refl
