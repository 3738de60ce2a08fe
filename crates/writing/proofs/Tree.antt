-- A sound cache tree spells what is written of it, and one that is spelled is sound.
use mathlib.Core.Path.{◌≡◌, refl}
use mathlib.Core.List.{List, [], ◌∷◌}
use mathlib.Core.Bool.{true}
use Prim.Native.Nat.{ℕ}
use native.Mathlib.Omega.{arith}
use Rattle.format.specs.Bytes.{digits, decimal, value_from, value}
use Rattle.format.specs.Records.{Count, valid, invalid, Node, Forest, Tree, width}
use Rattle.format.specs.Layout.{CountText, ObjectBytes, IsNode, Siblings, siblings_end, siblings_more, IsTree, ok_tree_counts}
use Rattle.format.specs.Writer.{decimal_of, write_count, write_object, write_node, write_forest, write_tree}
use Rattle.writing.specs.Sound.{SoundCount, SoundNode, SoundSiblings, siblings_none, siblings_next, SoundTree}
use Rattle.writing.proofs.Decimals.{decimal-decimal_of, value-decimal_of}

-- ---- what is written is spelled

-- the text "1"
one : (decimal (49 ∷ []) ≡ true) × (value (49 ∷ []) ≡ 1)
unfolding decimal digits value value_from
one = (refl, refl)

count-written : (w : ℕ) (c : Count) (object : List ℕ) → SoundCount w c object → CountText c (write_count c)
unfolding write_count
count-written w (valid n) object h = (decimal-decimal_of n, value-decimal_of n, h.0)
count-written w invalid object h = let (is, says) = one in (49 ∷ [], refl, is, omega arith, omega arith)

object-written : (w : ℕ) (c : Count) (object : List ℕ) → SoundCount w c object → ObjectBytes w c object (write_object c object)
unfolding write_object
object-written w (valid n) object h = (h.1, refl)
object-written w invalid object h = (h, refl)

node-written : {w : ℕ} {n : Node} {k : ℕ} → SoundNode w n k → IsNode w n k (write_node n k)
unfolding write_node
node-written {w} {n} {k} h = record {
  named = h.named;
  count_text = write_count n.count;
  counted = count-written w n.count n.object h.counted;
  subtrees_text = decimal_of k;
  subtrees_decimal = decimal-decimal_of k;
  subtrees_value = value-decimal_of k;
  subtrees_fit = h.subtrees_fit;
  tail = write_object n.count n.object;
  object = object-written w n.count n.object h.counted;
  bytes = refl;
}

siblings-written : {w levels : ℕ} {f : Forest} → SoundSiblings w levels f → Siblings w levels f (write_forest f)
unfolding write_forest
siblings-written siblings_none = siblings_end
siblings-written (siblings_next named h kids after) = siblings_more named (node-written h) (siblings-written kids) (siblings-written after)

pub tree-written : {w : ℕ} {ns : List (List ℕ)} {t : Tree} → SoundTree w ns t → IsTree w t (write_tree t)
unfolding write_tree
tree-written {t = t} h = record {
  root_bytes = write_node t.root (width t.subtrees);
  rest_bytes = write_forest t.subtrees;
  root_name = h.root_name;
  root_node = node-written h.root_node;
  rest = siblings-written h.rest;
  differ = h.differ;
  bytes = refl;
}

-- ---- what is spelled is sound

count-sound : (w : ℕ) (c : Count) (text object tail : List ℕ) → CountText c text → ObjectBytes w c object tail → SoundCount w c object
count-sound w (valid n) text object tail h o = (h.2, o.0)
count-sound w invalid text object tail h o = o.0

node-sound : {w : ℕ} {n : Node} {k : ℕ} {a : List ℕ} → IsNode w n k a → SoundNode w n k
node-sound {w} {n} h = record {
  named = h.named;
  counted = count-sound w n.count h.count_text n.object h.tail h.counted h.object;
  subtrees_fit = h.subtrees_fit;
}

siblings-sound : {w levels : ℕ} {f : Forest} {a : List ℕ} → Siblings w levels f a → SoundSiblings w levels f
siblings-sound siblings_end = siblings_none
siblings-sound (siblings_more named h kids after) = siblings_next named (node-sound h) (siblings-sound kids) (siblings-sound after)

pub tree-sound : {w : ℕ} {ns : List (List ℕ)} {t : Tree} {a : List ℕ} → IsTree w t a → ok_tree_counts ns t ≡ true → SoundTree w ns t
tree-sound h counts = record {
  root_name = h.root_name;
  root_node = node-sound h.root_node;
  rest = siblings-sound h.rest;
  differ = h.differ;
  counts = counts;
}
