-- The number of each refusal, and answers of code with numbers in place of refusals, as the readers give them.
use Rattle.std.specs.Prelude.{ℕ, Result, Ok, Err}
use Rattle.format.specs.declared.Refusal.{Refusal}
use Rattle.format.specs.declared.Refusal.TheVariants as R
use Rattle.format.specs.declared.Fault.{Fault}

abbrev pub number_of : Refusal → ℕ
number_of R.TooShort = 1
number_of R.TooLong = 2
number_of R.Signature = 3
number_of R.Version = 4
number_of R.Checksum = 5
number_of R.EntryCut = 6
number_of R.EntryMode = 7
number_of R.EntryFlags = 8
number_of R.EntryName = 9
number_of R.EntryLayout = 10
number_of R.EntryOrder = 11
number_of R.ExtensionCut = 12
number_of R.ExtensionUnknown = 13
number_of R.ExtensionTwice = 14
number_of R.TreeMalformed = 15
number_of R.TreeCount = 16
number_of R.UndoMalformed = 17
number_of R.NotThere = 18
number_of R.WorkspaceShort = 19
number_of R.OutputShort = 20
number_of R.NeedsVersion3 = 21
number_of R.Kind = 29

abbrev pub fault_at : Refusal → ℕ → Fault
fault_at e p = record { refusal = e; place = p }

-- a number and a place, in place of a refusal
pub record Numbered : Type 0 where
  pub number : ℕ
  pub place : ℕ

abbrev pub denied : {A : Type 0} → ℕ → ℕ → Result A Numbered
denied n p = Err (record { number = n; place = p })

-- an answer with its refusal's number
abbrev pub numbered : {A : Type 0} → Result A Refusal → Result A ℕ
numbered (Ok a) = Ok a
numbered (Err e) = Err (number_of e)

-- and with its place
abbrev pub numbered_at : {A : Type 0} → Result A Fault → Result A Numbered
numbered_at (Ok a) = Ok a
numbered_at (Err f) = denied (number_of f.refusal) f.place

-- 0 where nothing is refused
abbrev pub refusal_number : {A : Type 0} → Result A Refusal → ℕ
refusal_number (Ok a) = 0
refusal_number (Err e) = number_of e
