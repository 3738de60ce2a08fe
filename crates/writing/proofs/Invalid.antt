-- A cache tree stays sound where entries of one name change and the path to that name is made invalid.
use mathlib.Core.Path.{◌≡◌, refl, ap, ◌∙◌}
use mathlib.Core.List.{List}
use mathlib.Core.Bool.{true, cond}
use mathlib.Core.Option.{Option, none, some}
use Prim.Native.Nat.{ℕ, suc, ◌+◌}
use lib.ListN.{length, drop}
use Rattle.format.specs.Bytes.{eq_list}
use Rattle.format.specs.Records.{Node, Forest, nil, tree, Tree, width}
use Rattle.format.specs.Layout.{has, distinct, under}
use Rattle.format.specs.Requests.{invalid_node, invalid_path, invalid_tree, invalid_cache_tree}
use Rattle.format_laws.proofs.Tests.{by_cond}
use Rattle.format_laws.proofs.Readings.{none-some}
use Rattle.writing.specs.Sound.{SoundNode, SoundSiblings, siblings_none, siblings_next, SoundTree}
use Rattle.writing.proofs.Counts.{AlikeBut, tree-counts-kept}

-- ---- what stays

width-kept : (w : ℕ) (s : List ℕ) (f : Forest) → width (invalid_path w s f) ≡ width f
unfolding width invalid_path
width-kept w s nil = refl
width-kept w s (tree n kids after) =
    by_cond (λ g. width g ≡ suc (width after)) (under n.name s) _ _
    (λ e. ap suc (width-kept w s after))
    (λ e. ap suc (width-kept w s after))

has_kept : (w : ℕ) (s x : List ℕ) (f : Forest) → has x (invalid_path w s f) ≡ has x f
unfolding has invalid_path invalid_node
has_kept w s x nil = refl
has_kept w s x (tree n kids after) =
    by_cond (λ g. has x g ≡ has x (tree n kids after)) (under n.name s) _ _
    (λ e. ap (cond (eq_list x n.name) true) (has_kept w s x after))
    (λ e. ap (cond (eq_list x n.name) true) (has_kept w s x after))

distinct-kept : (w : ℕ) (s : List ℕ) (f : Forest) → distinct (invalid_path w s f) ≡ distinct f
unfolding distinct invalid_path invalid_node
distinct-kept w s nil = refl
distinct-kept w s (tree n kids after) =
    by_cond (λ g. distinct g ≡ distinct (tree n kids after)) (under n.name s) _ _
    (λ e. rw (has_kept w s n.name after, distinct-kept w (drop (length n.name + 1) s) kids, distinct-kept w s after) refl)
    (λ e. rw (has_kept w s n.name after, distinct-kept w s after) refl)

node-invalid : {w : ℕ} {n : Node} {k : ℕ} (j : ℕ) → j ≡ k → SoundNode w n k → SoundNode w (invalid_node w n) j
unfolding invalid_node
node-invalid j same h = record { named = h.named; counted = refl; subtrees_fit = rw same h.subtrees_fit }

siblings-kept : {w levels : ℕ} (s : List ℕ) {f : Forest} → SoundSiblings w levels f → SoundSiblings w levels (invalid_path w s f)
unfolding invalid_path invalid_node
siblings-kept s siblings_none = siblings_none
siblings-kept {w} s (siblings_next {levels = levels} {n = n} {kids = kids} named h below beside) =
    by_cond (SoundSiblings w (suc levels)) (under n.name s) _ _
    (λ e. siblings_next named (node-invalid _ (width-kept w (drop (length n.name + 1) s) kids) h) (siblings-kept (drop (length n.name + 1) s) below) (siblings-kept s beside))
    (λ e. siblings_next named h below (siblings-kept s beside))

module _ {w : ℕ} (s : List ℕ) {ss ts : List (List ℕ)} (alike : AlikeBut s ss ts) where
  tree-kept : (t : Tree) → SoundTree w ss t → SoundTree w ts (invalid_tree w s t)
  unfolding invalid_tree invalid_node
  tree-kept t h = record {
    root_name = h.root_name;
    root_node = node-invalid _ (width-kept w s t.subtrees) h.root_node;
    rest = siblings-kept s h.rest;
    differ = distinct-kept w s t.subtrees ∙ h.differ;
    counts = tree-counts-kept w s t alike h.counts;
  }

  pub cache_tree-kept : (o : Option Tree) → ((t : Tree) → o ≡ some t → SoundTree w ss t) → (t : Tree) → invalid_cache_tree w s o ≡ some t → SoundTree w ts t
  unfolding invalid_cache_tree
  cache_tree-kept none sound t e = none-some e
  cache_tree-kept (some t₁) sound t e =
      let same : invalid_tree w s t₁ ≡ t = cc in
      rw (← same) (tree-kept t₁ (sound t₁ refl))
