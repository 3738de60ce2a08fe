-- Laws of the start of a walk.
use mathlib.Core.Path.{◌≡◌, ap, ◌∙◌}
use mathlib.Core.List.{List}
use Rattle.std.proofs.Common.{Ok}
use Prim.Native.Nat.{ℕ}
use borrow.Author.Tests.{ne_eqb}
use Rattle.format.specs.Reading.{Read}
use Rattle.format.specs.Refusals.{denied}
use Rattle.format.specs.Reader.{Contents}
use Rattle.answers.specs.Answers.{in_room}
use Rattle.file_read.specs.declared.Parts.{Parts}
use Rattle.file_read.specs.Contents.{Contains}
use Rattle.walk.specs.Walks.{started_of, start_answer}

module _ (work : List ℕ) (x : Read Contents) where
  -- from the reading with a workspace that may be too small
  pub start_is : (y : Read Contents) → in_room work x ≡ y → start_answer work x ≡ started_of y
  unfolding start_answer
  start_is y e = ap started_of e

  module _ (w : ℕ) (b : List ℕ) (parts : Parts) (h : Contains w (in_room work x) b parts) where
    pub starts-four : parts.version ≡ 4 → start_answer work x ≡ denied 4 0
    starts-four e = start_is _ h.read ∙ rw (h.version, e)

    pub starts-ready : (parts.version ≡ 4 → ⊥) → start_answer work x ≡ Ok parts.count
    starts-ready e = start_is _ h.read ∙ rw (h.version, ne_eqb parts.version 4 e, h.counted)
