-- All that does not apply in a reply is 0, of a refusal, whose number is not 0, and of a success.
use mathlib.Core.Path.{◌≡◌, refl}
use mathlib.Core.List.{List, ◌∷◌, ◌++◌}
use Prim.Native.Nat.{ℕ, ◌<◌}
use native.Mathlib.Omega.{arith}
use lib.ListN.{drop, get_or, replicate}
use Rattle.std.proofs.Common.{Option, Some, None, Result, Ok, Err, is_some}
use Rattle.std.specs.Option.{unwrap_or}
use Rattle.format.specs.Layout.{bit}
use Rattle.format.specs.Refusals.{Numbered, denied}
use Rattle.answers.specs.declared.Summary.{Summary}
use Rattle.answers.specs.declared.Shown.{Shown}
use Rattle.answers.specs.declared.Shown.TheVariants as S
use Rattle.replies.specs.Arrays.{name_reply, check_reply, start_reply, refusal_in, place_in}

-- ---- the statements

-- of a success the place is 0; a refusal has its number, its place, and n zeros after them
pub record Zeros (n : ℕ) (reply : List ℕ) : Type 0 where
  pub success : refusal_in reply ≡ 0 → place_in reply ≡ 0
  pub refused : 0 < refusal_in reply → reply ≡ refusal_in reply ∷ place_in reply ∷ replicate n 0

-- no name has no place and no length; one in the workspace is at its start
pub record NameZeros (reply : List ℕ) : Type 0 where
  pub none : get_or reply 2 0 ≡ 0 → (get_or reply 3 0 ≡ 0) × (get_or reply 4 0 ≡ 0)
  pub workspace : get_or reply 2 0 ≡ 2 → get_or reply 3 0 ≡ 0

-- check: a count is 0 without its extension, and so are the last six numbers
pub record CheckZeros (reply : List ℕ) : Type 0 where
  pub zeros : Zeros 14 reply
  pub nodes : get_or reply 5 0 ≡ 0 → get_or reply 6 0 ≡ 0
  pub records : get_or reply 7 0 ≡ 0 → get_or reply 8 0 ≡ 0
  pub later : drop 10 reply ≡ replicate 6 0

-- ---- the proofs

-- of a refusal, whose number is not 0, and of a success
pub denied-zeros : (n i p : ℕ) → 0 < i → Zeros n (i ∷ p ∷ replicate n 0)
denied-zeros n i p some = record { success = λ e. absurd (omega arith); refused = λ _. refl }

pub done : (n : ℕ) (more : List ℕ) → Zeros n (0 ∷ 0 ∷ more)
done n more = record { success = λ _. refl; refused = λ some. absurd (omega arith) }

pub name-zeros : (s : Shown) (more : List ℕ) → NameZeros (name_reply s ++ more)
name-zeros (S.InFile at n) more = record { none = λ e. absurd (omega arith); workspace = λ e. absurd (omega arith) }
name-zeros (S.InWorkspace n) more = record { none = λ e. absurd (omega arith); workspace = λ e. refl }

pub denied-name : (n p : ℕ) (more : List ℕ) → NameZeros (n ∷ p ∷ 0 ∷ 0 ∷ 0 ∷ more)
denied-name n p more = record { none = λ e. (refl, refl); workspace = λ e. refl }

pub no-refusal {ℓ} : {X : Type ℓ} (reply : List ℕ) → refusal_in reply ≡ 0 → 0 < refusal_in reply → X
no-refusal reply e some = absurd (omega arith)

pub succeeded : (n : ℕ) (reply : List ℕ) → (refusal_in reply ≡ 0) × (place_in reply ≡ 0) → Zeros n reply
succeeded n reply (number, place) = record { success = λ _. place; refused = no-refusal reply number }

-- a count that is absent, or invalid
pub count-zero : (c : Option ℕ) → bit (is_some c) ≡ 0 → unwrap_or c 0 ≡ 0
count-zero None e = refl
count-zero (Some n) e = absurd (omega arith)

pub check-by : (x : Result Summary Numbered) → ((n p : ℕ) → x ≡ denied n p → 0 < n) → CheckZeros (check_reply x)
check-by (Err y) h = record { zeros = denied-zeros 14 y.number y.place (h y.number y.place refl); nodes = λ _. refl; records = λ _. refl; later = refl }
check-by (Ok s) h = record { zeros = done 14 _; nodes = count-zero s.nodes; records = count-zero s.records; later = refl }

pub start-by : (x : Result ℕ Numbered) → ((n p : ℕ) → x ≡ denied n p → 0 < n) → Zeros 2 (start_reply x)
start-by (Err y) h = denied-zeros 2 y.number y.place (h y.number y.place refl)
start-by (Ok n) h = done 2 _
