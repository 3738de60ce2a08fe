-- Siblings that differ and whose names have no "/": a name is under one of them at most.
use mathlib.Core.Path.{◌≡◌, refl}
use mathlib.Core.List.{List}
use mathlib.Core.Bool.{true, false, not}
use Prim.Native.Nat.{ℕ}
use lib.ListN.{length}
use lib.Dec.{leb}
use borrow.Author.Tests.{not-true}
use Rattle.format.specs.Bytes.{eq_list, lacks}
use Rattle.format.specs.Records.{Node, Forest, nil, tree}
use Rattle.format.specs.Layout.{ok_node_name, has, distinct, under}
use Rattle.format_laws.proofs.Tests.{clash, by-test, and-inv, and-inv₃}
use Rattle.tree_counts.specs.Counts.{plain, reached, SoundForest}
use Rattle.tree_counts.proofs.Tests.{or-false-inv}
use Rattle.directories.proofs.Names.{under-slash, under_one}

-- what holds of a list of siblings holds of its parts
module _ (n : Node) (kids after : Forest) (h : SoundForest (tree n kids after)) where
  plain-parts : (ok_node_name n.name ≡ true) × (plain kids ≡ true) × (plain after ≡ true)
  unfolding plain
  plain-parts = and-inv₃ (ok_node_name n.name) (plain kids) (plain after) h.plainly

  distinct-parts : (not (has n.name after) ≡ true) × (distinct kids ≡ true) × (distinct after ≡ true)
  unfolding distinct
  distinct-parts = and-inv₃ (not (has n.name after)) (distinct kids) (distinct after) h.differ

  pub sound-name : lacks 47 n.name ≡ true
  unfolding ok_node_name
  sound-name = (and-inv (leb 1 (length n.name)) (lacks 47 n.name) plain-parts.0).1

  pub sound-new : has n.name after ≡ false
  sound-new = not-true (has n.name after) distinct-parts.0

  pub sound-kids : SoundForest kids
  sound-kids = record { plainly = plain-parts.1; differ = distinct-parts.1 }

  pub sound-after : SoundForest after
  sound-after = record { plainly = plain-parts.2; differ = distinct-parts.2 }

-- a name is under no sibling but the one with its component
pub unreached : (c s : List ℕ) (f : Forest) → lacks 47 c ≡ true → under c s ≡ true → SoundForest f → has c f ≡ false → reached s f ≡ false
unfolding reached has
unreached c s nil lc u h e = refl
unreached c s (tree n kids after) lc u h e =
    let i = or-false-inv (eq_list c n.name) (has c after) e in
    by-test (under n.name s)
    (λ v. clash (under_one c n.name s lc (sound-name n kids after h) u v) i.0)
    (λ v. rw v (unreached c s after lc u (sound-after n kids after h) i.1))

-- a name with no "/" is under none
pub file-unreached : (s : List ℕ) (f : Forest) → lacks 47 s ≡ true → reached s f ≡ false
unfolding reached
file-unreached s nil e = refl
file-unreached s (tree n kids after) e = by-test (under n.name s) (λ v. clash e (under-slash n.name s v)) (λ v. rw v (file-unreached s after e))
