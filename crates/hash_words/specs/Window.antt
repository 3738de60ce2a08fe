-- A schedule in sixteen words (6.1.3, 6.2.3): word k of the schedule is at k % 16, until word k + 16 takes its place.
use Rattle.std.specs.Prelude.{◌≡◌, ℕ, ◌+◌, ◌%◌, ◌<◌, ◌≤◌, max, List, length, slice_index}

-- w is the window before round t of the schedule s: its first sixteen words before round 16, then the words t - 16 .. t - 1
pub record Holds (s : List ℕ) (t : ℕ) (w : List ℕ) : Type 0 where
  pub long : length w ≡ 16
  pub window : (k : ℕ) → k < max t 16 → t ≤ k + 16 → slice_index w (k % 16) ≡ slice_index s k
