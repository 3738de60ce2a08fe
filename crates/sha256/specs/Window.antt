-- A block between two rounds. The schedule is held in sixteen words (6.2.3).
use Rattle.std.specs.Prelude.{List, ◌≡◌, ℕ, length}
use Rattle.hash_words.specs.Window.{Holds}
use Rattle.sha256.specs.Sha256.{schedule, rounds}
use Rattle.sha256.specs.declared.State.{State}

-- before round t of the block m, from the state h: the window is w, and the working variables are s
pub record At (h : State) (m : List ℕ) (t : ℕ) (w : List ℕ) (s : State) : Type 0 where
  pub sized : length m ≡ 16
  pub holds : Holds (schedule m) t w
  pub vars : s ≡ rounds h (schedule m) t
