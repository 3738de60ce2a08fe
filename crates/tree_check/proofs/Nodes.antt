-- What the walk tests of the node at a place.
use Rattle.std.proofs.Common.{is_some}
use mathlib.Core.Path.{◌≡◌, refl}
use Prim.Native.Nat.{ℕ}
use Rattle.format.specs.Records.{Count, valid, invalid}
use Rattle.format.specs.Layout.{is_valid}
use Rattle.format.specs.Reader.{Head}
use Rattle.tree_counts.specs.Counts.{says, weight}
use Rattle.tree_nodes.specs.declared.node.Node as Code
use Rattle.tree_nodes.specs.Answers.{counted}
use Rattle.tree_nodes.proofs.Trees.{NodeAt}
use Rattle.tree_check.specs.Nodes.{agrees_with, weight_of}

valid_is : (c : Count) → is_some (counted c) ≡ is_valid c
valid_is (valid n) = refl
valid_is invalid = refl

weight_is : (c : Count) → weight_of (counted c) ≡ weight c
weight_is (valid n) = refl
weight_is invalid = refl

says_is : (c : Count) (m : ℕ) → agrees_with (counted c) m ≡ says c m
says_is (valid n) m = refl
says_is invalid m = refl

module _ (node : Code.Node) (place own : ℕ) (h : Head) (here : NodeAt node place own h) where
  pub node-valid : is_some node.count ≡ is_valid h.node.count
  node-valid = rw here.count (valid_is h.node.count)

  pub node-weighs : weight_of node.count ≡ weight h.node.count
  node-weighs = rw here.count (weight_is h.node.count)

  pub node-says : (m : ℕ) → agrees_with node.count m ≡ says h.node.count m
  node-says m = rw here.count (says_is h.node.count m)
