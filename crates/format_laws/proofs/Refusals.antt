-- Laws of the numbers of refusals.
use Prim.Native.Nat.{◌<◌}
use native.Mathlib.Omega.{arith}
use Rattle.format.specs.declared.Refusal.{Refusal}
use Rattle.format.specs.declared.Refusal.TheVariants as R
use Rattle.format.specs.Refusals.{number_of}

-- a refusal has a number, and 0 is none
pub number-some : (e : Refusal) → 0 < number_of e
number-some R.TooShort = omega arith
number-some R.TooLong = omega arith
number-some R.Signature = omega arith
number-some R.Version = omega arith
number-some R.Checksum = omega arith
number-some R.EntryCut = omega arith
number-some R.EntryMode = omega arith
number-some R.EntryFlags = omega arith
number-some R.EntryName = omega arith
number-some R.EntryLayout = omega arith
number-some R.EntryOrder = omega arith
number-some R.ExtensionCut = omega arith
number-some R.ExtensionUnknown = omega arith
number-some R.ExtensionTwice = omega arith
number-some R.TreeMalformed = omega arith
number-some R.TreeCount = omega arith
number-some R.UndoMalformed = omega arith
number-some R.NotThere = omega arith
number-some R.WorkspaceShort = omega arith
number-some R.OutputShort = omega arith
number-some R.NeedsVersion3 = omega arith
number-some R.Kind = omega arith
