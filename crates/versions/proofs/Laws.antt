-- Laws of the version that is asked for.
use mathlib.Core.Path.{◌≡◌, refl}
use mathlib.Core.Bool.{Bool, true, false}
use Prim.Native.Nat.{ℕ}
use lib.Dec.{eqb}
use Rattle.format.specs.Requests.{version_of}
use Rattle.format_laws.proofs.Tests.{by-test}

-- whether the file is of version 4 is known before its entries are: a file can be measured in the version for entries that need the word
pub four-known : (asked : ℕ) (t : Bool) → eqb (version_of asked t) 4 ≡ eqb (version_of asked true) 4
unfolding version_of
four-known asked true = refl
four-known asked false = by-test (eqb asked 0) (λ free. rw free) (λ fixed. by-test (eqb asked 1) (λ lowest. rw (fixed, lowest)) (λ other. rw (fixed, other)))
