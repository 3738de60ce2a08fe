-- Laws of the beginnings of names.
use mathlib.Core.Path.{◌≡◌, refl, sym, ap, ◌∙◌}
use mathlib.Core.List.{List, [], ◌∷◌, ◌++◌, append_assoc, append-nil}
use mathlib.Core.Bool.{Bool, true, false, cond}
use Prim.Native.Nat.{ℕ, ◌≤◌, zero-le}
use lib.ListN.{length, take, drop, take-append-drop}
use Rattle.format.specs.Bytes.{eq_list, lacks}
use Rattle.format.specs.Names.{components_from, components, ok_component, ok_components, ok_name, common}
use Rattle.format_laws.proofs.Names.{common-take}
use Rattle.fields.specs.Begun.{Begun}

-- no byte begins "a"
pub begun-none : Begun []
unfolding eq_list lacks components_from components ok_component ok_components ok_name
begun-none = record { rest = 97 ∷ []; ok = refl }

pub begun-name : (s : List ℕ) → ok_name s ≡ true → Begun s
begun-name s e = record { rest = []; ok = ap ok_name (append-nil s) ∙ e }

pub begun-take : (k : ℕ) (s : List ℕ) → Begun s → Begun (take k s)
begun-take k s h =
    let parts : take k s ++ (drop k s ++ h.rest) ≡ s ++ h.rest = sym (append_assoc (take k s) (drop k s) h.rest) ∙ ap (λ (l : List ℕ). l ++ h.rest) (take-append-drop k s) in
    record { rest = drop k s ++ h.rest; ok = ap ok_name parts ∙ h.ok }

-- what a name has in common with a sound one
pub begun-common : (s t : List ℕ) → Begun s → Begun (take (common s t) t)
begun-common s t h = rw (common-take s t) at (begun-take (common s t) s h)

-- as many bytes as are kept, none where nothing is known of them
pub begun_kept : (known : Bool) (k : ℕ) (s : List ℕ) → k ≤ length s → (known ≡ true → Begun (take k s)) → (cond known k 0 ≤ length s) × Begun (take (cond known k 0) s)
begun_kept true k s fits h = (fits, h refl)
begun_kept false k s fits h = (zero-le, begun-none)
