-- Laws of the body's length, of a workspace that is cleared, and of one that may be too small.
use mathlib.Core.Path.{◌≡◌, ◌∙◌}
use mathlib.Core.List.{List, ◌++◌}
use Prim.Native.Nat.{ℕ, ◌+◌, ◌-◌, ◌≤◌, ◌<◌}
use native.Mathlib.Omega.{arith}
use lib.ListN.{length, drop, replicate, length-take}
use borrow.Author.Tests.{ltb-false}
use Rattle.format.specs.Reading.{Read, bad, good}
use Rattle.format.specs.Reader.{Contents}
use Rattle.format.specs.Places.{body_in}
use Rattle.fields.specs.Workspace.{Frame}
use Rattle.entries_run.specs.Steps.{Room}
use Rattle.answers.specs.Answers.{too_small, in_room, cleared}
use Rattle.answers.proofs.Laws.{small, large, room_small, room-large, room-inv, cleared-large}

-- the body's length
pub file-long : (w : ℕ) (f : List ℕ) → w ≤ 32 → 12 ≤ length (body_in w f) → 12 + w ≤ length f
file-long w f narrow h = let l = length-take (length f - w) f in omega arith

pub body-room : (w : ℕ) (f work : List ℕ) → 12 + w ≤ length f → length f ≤ 16777216 → 8192 ≤ length work → Room (body_in w f) work
body-room w f work long short room = let l = length-take (length f - w) f in record { least = omega arith; most = omega arith; room = room }

pub cleared_by : (work written after : List ℕ) → 8192 ≤ length work → Frame work written → after ≡ replicate 8192 0 ++ drop 8192 written → after ≡ cleared work
cleared_by work written after room frame e = e ∙ rw (frame.past, cleared-large work room)

pub in-room : (work : List ℕ) (x : Read Contents) → 8192 ≤ length work → in_room work x ≡ x
in-room work x h = room-large work x (large work h)

pub no_room : (work : List ℕ) (x : Read Contents) → length work < 8192 → in_room work x ≡ bad 19 0
no_room work x h = room_small work x (small work h)

pub room_of : (work : List ℕ) (x : Read Contents) (c : Contents) (m : ℕ) → in_room work x ≡ good c m → 8192 ≤ length work
unfolding too_small
room_of work x c m e = room-inv work x c m e λ large is. ltb-false (length work) 8192 large
