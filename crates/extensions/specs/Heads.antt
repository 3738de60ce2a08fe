-- The head of an extension, and what is left to read after it. at is the extension's place in the body b.
use Rattle.std.specs.Prelude.{◌≡◌, List, [], Bool, not, ℕ, ◌+◌, ◌-◌, ◌≤◌, length, take, drop, Result, Ok, Err}
use Rattle.format.specs.Bytes.{be32}
use Rattle.format.specs.Records.{Undo}
use Rattle.format.specs.Layout.{Extension, cache_tree, resolve_undo, other}
use Rattle.format.specs.Reading.{Read, bad, good, need, shift, bind}
use Rattle.format.specs.Reader.{Seen, read_tree, read_undos, read_extension}
use Rattle.format.specs.declared.Refusal.{Refusal}
use Rattle.format.specs.Refusals.{number_of}
use Rattle.extensions.specs.declared.Kind.{Kind}
use Rattle.extensions.specs.declared.Kind.TheVariants as K
use Rattle.extensions.specs.declared.Head.{Head}

-- the bytes from a to e
abbrev pub part : List ℕ → ℕ → ℕ → List ℕ
part b a e = take (e - a) (drop a b)

-- all resolve-undo records of the data d
abbrev pub undos_in : ℕ → ℕ → List ℕ → Read (List Undo)
undos_in w p d = read_undos w p (length d) [] d

-- an extension of a known kind, by what its data say; seen tells whether one of the kind has been read
unfoldable pub known : {A : Type 0} → Bool → ℕ → Read A → (A → Extension) → Read Extension
known seen p x kind = shift 8 (need (not seen) 14 p (bind x λ a m. good (kind a) 0))

-- what the reader answers of an extension of a kind, whose data end at e
abbrev pub told_of : ℕ → List (List ℕ) → Seen → List ℕ → ℕ → ℕ → Kind → Read Extension
told_of w ns k b at e K.Tree = known k.cache_tree at (read_tree w ns at (part b (at + 8) e)) cache_tree
told_of w ns k b at e K.Undo = known k.resolve_undo at (undos_in w at (part b (at + 8) e)) resolve_undo
told_of w ns k b at e K.Other = good (other (take 4 (drop at b)) (part b (at + 8) e)) (e - at)

-- what it answers, by the head
abbrev pub told : ℕ → List (List ℕ) → Seen → List ℕ → ℕ → Result Head Refusal → Read Extension
told w ns k b at (Err e) = bad (number_of e) at
told w ns k b at (Ok h) = told_of w ns k b at h.end h.kind

-- the data of the extension at a place end at e, by the size before them, and in the body
abbrev pub Inside : List ℕ → ℕ → ℕ → Type 0
Inside b at e = (e ≡ at + 8 + be32 b (at + 4)) × (e ≤ length b)

abbrev pub HeadInside : List ℕ → ℕ → Result Head Refusal → Type 0
HeadInside b at (Err e) = Unit
HeadInside b at (Ok h) = Inside b at h.end

pub record Headed (b : List ℕ) (at : ℕ) (r : Result Head Refusal) : Type 0 where
  pub same : (w : ℕ) (ns : List (List ℕ)) (k : Seen) → read_extension w ns k at (drop at b) ≡ told w ns k b at r
  pub inside : HeadInside b at r
