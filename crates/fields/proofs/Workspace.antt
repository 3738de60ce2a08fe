-- Laws of what calls leave of the workspace.
use mathlib.Core.Path.{refl, ◌∙◌}
use mathlib.Core.List.{List}
use Prim.Native.Nat.{ℕ}
use Rattle.fields.specs.Workspace.{Frame}

-- no call
pub frame_same : (w : List ℕ) → Frame w w
frame_same w = record { long = refl; past = refl }

-- one call after another
pub frame_then : {w w₁ w₂ : List ℕ} → Frame w w₁ → Frame w₁ w₂ → Frame w w₂
frame_then f g = record { long = g.long ∙ f.long; past = g.past ∙ f.past }
