-- What a reader answers: a value and the number of bytes that it took, or a refusal with its number and its place in the file.
use Rattle.std.specs.Prelude.{Bool, true, false, ℕ, ◌+◌}

pub data Read (A : Type 0) : Type 0 where
  bad : ℕ → ℕ → Read A
  good : A → ℕ → Read A

-- go on where the test holds; else refuse with the number n at the place p
unfoldable pub need : {A : Type 0} → Bool → ℕ → ℕ → Read A → Read A
need true n p k = k
need false n p k = bad n p

-- an answer after k bytes more
unfoldable pub shift : {A : Type 0} → ℕ → Read A → Read A
shift k (bad n p) = bad n p
shift k (good a m) = good a (k + m)

-- one part and then the next, which is told how many bytes the first took
unfoldable pub bind : {A B : Type 0} → Read A → (A → ℕ → Read B) → Read B
unfolding shift
bind (bad n p) k = bad n p
bind (good a m) k = shift m (k a m)
