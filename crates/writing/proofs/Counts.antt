-- The counts of a cache tree hold on where entries of one name change and the nodes on the path to that name are made invalid.
use mathlib.Core.Path.{◌≡◌, refl, sym}
use mathlib.Core.List.{List, [], ◌∷◌}
use mathlib.Core.Bool.{true, false, ◌&&◌}
use Prim.Native.Nat.{ℕ, ◌+◌}
use lib.ListN.{length, drop}
use Rattle.format.specs.Records.{Forest, nil, tree, Tree}
use Rattle.format.specs.Layout.{under, inside, ok_count, ok_counts, ok_tree_counts}
use Rattle.format.specs.Requests.{invalid_node, invalid_path, invalid_tree}
use Rattle.format_laws.proofs.Tests.{and-inv, and_both, by-test, by_cond}

-- ---- two lists of names that differ in occurrences of s alone

pub data AlikeBut (s : List ℕ) : List (List ℕ) → List (List ℕ) → Type 0 where
  alike_end : AlikeBut s [] []
  alike_same : {a : List ℕ} {ss ts : List (List ℕ)} → AlikeBut s ss ts → AlikeBut s (a ∷ ss) (a ∷ ts)
  alike_left : {ss ts : List (List ℕ)} → AlikeBut s ss ts → AlikeBut s (s ∷ ss) ts
  alike_right : {ss ts : List (List ℕ)} → AlikeBut s ss ts → AlikeBut s ss (s ∷ ts)

pub alike_self : (s : List ℕ) (ss : List (List ℕ)) → AlikeBut s ss ss
alike_self s [] = alike_end
alike_self s (a ∷ ss) = alike_same (alike_self s ss)

-- a directory that s is not in has the same names
inside-same : (d : List ℕ) {s : List ℕ} {ss ts : List (List ℕ)} → under d s ≡ false → AlikeBut s ss ts → inside d ss ≡ inside d ts
unfolding inside
inside-same d out alike_end = refl
inside-same d out (alike_same h) = rw (inside-same d out h) refl
inside-same d out (alike_left h) = rw out (inside-same d out h)
inside-same d out (alike_right h) = rw out (inside-same d out h)

-- one that it is in has names that differ in the rest of s alone
inside-alike : (d : List ℕ) {s : List ℕ} {ss ts : List (List ℕ)} → under d s ≡ true → AlikeBut s ss ts
    → AlikeBut (drop (length d + 1) s) (inside d ss) (inside d ts)
unfolding inside
inside-alike d within alike_end = alike_end
inside-alike d within (alike_same {a = a} h) =
    by-test (under d a) (λ e. rw e (alike_same (inside-alike d within h))) (λ e. rw e (inside-alike d within h))
inside-alike d within (alike_left h) = rw within (alike_left (inside-alike d within h))
inside-alike d within (alike_right h) = rw within (alike_right (inside-alike d within h))

-- ---- the counts

counts-kept : (w : ℕ) (s : List ℕ) (f : Forest) {ss ts : List (List ℕ)} → AlikeBut s ss ts → ok_counts ss f ≡ true → ok_counts ts (invalid_path w s f) ≡ true
unfolding ok_counts ok_count invalid_path invalid_node
counts-kept w s nil alike h = refl
counts-kept w s (tree n kids after) {ss} {ts} alike h =
    let d : List ℕ = n.name in
    let (own, rest) = and-inv (ok_count n.count (inside d ss) kids) (ok_counts (inside d ss) kids && ok_counts ss after) h in
    let (below, beside) = and-inv (ok_counts (inside d ss) kids) (ok_counts ss after) rest in
    let others : ok_counts ts (invalid_path w s after) ≡ true = counts-kept w s after alike beside in
    by_cond (λ g. ok_counts ts g ≡ true) (under d s) _ _
    (λ e. and_both _ _ (counts-kept w (drop (length d + 1) s) kids (inside-alike d e alike) below) others)
    (λ e.
    let same : inside d ts ≡ inside d ss = sym (inside-same d e alike) in
    rw same (and_both _ _ own (and_both _ _ below others)))

pub tree-counts-kept : (w : ℕ) (s : List ℕ) (t : Tree) {ss ts : List (List ℕ)} → AlikeBut s ss ts → ok_tree_counts ss t ≡ true
    → ok_tree_counts ts (invalid_tree w s t) ≡ true
unfolding ok_tree_counts ok_count invalid_tree invalid_node
tree-counts-kept w s t {ss} {ts} alike h =
    counts-kept w s t.subtrees alike (and-inv (ok_count t.root.count ss t.subtrees) (ok_counts ss t.subtrees) h).1
