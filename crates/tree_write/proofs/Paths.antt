-- Siblings of which those on the path to a name's directory are made invalid. w is the width of an object name.
use mathlib.Core.Path.{◌≡◌, refl, ap}
use mathlib.Core.List.{List, ◌++◌, append_assoc, append-nil}
use mathlib.Core.Bool.{true, false}
use Prim.Native.Nat.{ℕ, suc, ◌+◌}
use lib.ListN.{length, drop}
use Rattle.format.specs.Records.{Node, Forest, nil, tree, width}
use Rattle.format.specs.Layout.{under}
use Rattle.format.specs.Writer.{write_node, write_forest}
use Rattle.format.specs.Requests.{invalid_node, invalid_path}
use Rattle.tree_counts.specs.Counts.{reached, SoundForest}
use Rattle.format_laws.proofs.Tests.{by-test}
use Rattle.tree_counts.proofs.Tests.{or-false-inv}
use Rattle.tree_counts.proofs.Siblings.{sound-name, sound-new, sound-after, unreached}
use Rattle.tree_nodes.proofs.Trees.{chain}
use Rattle.tree_write.proofs.Trees.{write-nil, write-tree, write-chain}

module _ (w : ℕ) (name : List ℕ) where
  -- where the name is in no directory of theirs they stay
  path-stays : (f : Forest) → reached name f ≡ false → invalid_path w name f ≡ f
  unfolding reached invalid_path
  path-stays nil e = refl
  path-stays (tree n kids after) e =
      let i = or-false-inv (under n.name name) (reached name after) e in
      rw (i.0, path-stays after i.1)

  pub path-width : (f : Forest) → width (invalid_path w name f) ≡ width f
  unfolding invalid_path width
  path-width nil = refl
  path-width (tree n kids after) = by-test (under n.name name) (λ e. rw e (ap suc (path-width after))) (λ e. rw e (ap suc (path-width after)))

-- what is written of siblings, and then of trees
module _ (w : ℕ) (name : List ℕ) where
  pub path-none : (trees : Forest) → write_forest (invalid_path w name nil) ++ write_forest trees ≡ write_forest trees
  unfolding invalid_path
  path-none trees = rw write-nil

  module _ (n : Node) (kids after trees : Forest) where
    abbrev below : List ℕ
    below = drop (length n.name + 1) name

    -- the siblings after one whose directory the name is in stay
    tree-enters : under n.name name ≡ true → SoundForest (tree n kids after) → invalid_path w name (tree n kids after) ≡ tree (invalid_node w n) (invalid_path w below kids) after
    unfolding invalid_path
    tree-enters e h =
        let free = unreached n.name name after (sound-name n kids after h) e (sound-after n kids after h) (sound-new n kids after h) in
        rw (e, path-stays w name after free)

    pub path-enters : (k : ℕ) → under n.name name ≡ true → SoundForest (tree n kids after) → width kids ≡ k
        → write_forest (invalid_path w name (tree n kids after)) ++ write_forest trees
        ≡ write_node (invalid_node w n) k ++ (write_forest (invalid_path w (drop (length n.name + 1) name) kids) ++ write_forest (chain after trees))
    path-enters k e h l =
        rw (tree-enters e h, write-tree (invalid_node w n) (invalid_path w below kids) after, path-width w below kids, l, write-chain after trees)
        (simp append_assoc)

    tree-passes : under n.name name ≡ false → invalid_path w name (tree n kids after) ≡ tree n kids (invalid_path w name after)
    unfolding invalid_path
    tree-passes e = rw e

    pub path-passes : under n.name name ≡ false
        → write_forest (invalid_path w name (tree n kids after)) ++ write_forest trees
        ≡ write_forest (tree n kids nil) ++ (write_forest (invalid_path w name after) ++ write_forest trees)
    path-passes e =
        rw (tree-passes e, write-tree n kids (invalid_path w name after), write-tree n kids nil, write-nil, append-nil (write_forest kids))
        (simp append_assoc)
