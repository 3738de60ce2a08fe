-- The counts of a cache tree are right exactly where the tests of a walk over the entries pass.
use mathlib.Core.Path.{◌≡◌, refl, sym, ap, ap₂, ◌∙◌}
use mathlib.Core.List.{List, [], ◌∷◌}
use mathlib.Core.Bool.{Bool, true, false, cond, not, ◌&&◌, ◌||◌, and_assoc, and_comm, and-true}
use Prim.Native.Nat.{ℕ, zero, suc, ◌+◌, ◌≤◌}
use native.Mathlib.Nat.{zero-add}
use native.Mathlib.Omega.{arith}
use lib.ListN.{length}
use lib.Dec.{eqb, leb}
use borrow.Author.Tests.{eqb-true, eqb-false, eq-eqb, ne_eqb, le-leb}
use Rattle.format.specs.Bytes.{lacks}
use Rattle.format.specs.Records.{Count, valid, invalid, Node, Forest, nil, tree, Tree}
use Rattle.format.specs.Layout.{bit, distinct, under, inside, files, is_valid, all_valid, sum, ok_count, ok_counts, ok_tree_counts}
use Rattle.format_laws.proofs.Tests.{false-true, by-test, and-inv, and-inv₃, and-left-comm}
use Rattle.tree_counts.specs.Counts.{weight, plain, valid_below, positive, reached, covered, counted, hit, counts_hold_each, counts_hold, matched, counts_all, SoundForest}
use Rattle.tree_counts.proofs.Tests.{and-when, sums-equal}
use Rattle.tree_counts.proofs.Siblings.{sound-name, sound-new, sound-kids, sound-after, unreached, file-unreached}

-- ---- how many names are under the siblings

-- how many siblings s is under
tally : List ℕ → Forest → ℕ
tally s nil = 0
tally s (tree n kids after) = bit (under n.name s) + tally s after

tally-bit : (s : List ℕ) (f : Forest) → SoundForest f → tally s f ≡ bit (reached s f)
unfolding tally reached
tally-bit s nil h = refl
tally-bit s (tree n kids after) h =
    by-test (under n.name s)
    (λ u. rw (
      u,
      tally-bit s after (sound-after n kids after h),
      unreached n.name s after (sound-name n kids after h) u (sound-after n kids after h) (sound-new n kids after h),
    ))
    (λ u. rw (u, tally-bit s after (sound-after n kids after h)) (zero-add _))

-- how many names are under each sibling, in all
below : List (List ℕ) → Forest → ℕ
below names nil = 0
below names (tree n kids after) = length (inside n.name names) + below names after

inside-length : (d s : List ℕ) (ss : List (List ℕ)) → length (inside d (s ∷ ss)) ≡ bit (under d s) + length (inside d ss)
unfolding inside
inside-length d s ss = by-test (under d s) (λ u. rw u (omega arith)) (λ u. rw u (omega arith))

below_none : (f : Forest) → below [] f ≡ 0
unfolding below inside
below_none nil = refl
below_none (tree n kids after) = zero-add (below [] after) ∙ below_none after

below_more : (s : List ℕ) (ss : List (List ℕ)) (f : Forest) → below (s ∷ ss) f ≡ tally s f + below ss f
unfolding below tally
below_more s ss nil = refl
below_more s ss (tree n kids after) = omega (arith, inside-length n.name s ss, below_more s ss after)

-- how many names with a further "/" are under none
gap : List (List ℕ) → Forest → ℕ
gap [] f = 0
gap (s ∷ ss) f = bit (not (lacks 47 s || reached s f)) + gap ss f

one_name : (s : List ℕ) (f : Forest) → SoundForest f → cond (lacks 47 s) 1 0 + (tally s f + bit (not (lacks 47 s || reached s f))) ≡ 1
one_name s f h =
    rw (tally-bit s f h)
    (by-test (lacks 47 s)
    (λ e. rw (e, file-unreached s f e))
    (λ e. rw e (by-test (reached s f) (λ r. rw r) (λ r. rw r))))

parts : (names : List (List ℕ)) (f : Forest) → SoundForest f → length names ≡ files names + below names f + gap names f
unfolding files gap
parts [] f h = rw (below_none f)
parts (s ∷ ss) f h = omega (arith, parts ss f h, below_more s ss f, one_name s f h)

gap-covered : (names : List (List ℕ)) (f : Forest) → eqb (gap names f) 0 ≡ covered names f
unfolding gap covered
gap-covered [] f = refl
gap-covered (s ∷ ss) f =
    by-test (lacks 47 s || reached s f)
    (λ e. rw (e, zero-add (gap ss f)) (gap-covered ss f))
    (λ e. rw e (ne_eqb (1 + gap ss f) 0 (λ z. omega arith)))

-- the names are as many as those with no further "/" and those under siblings exactly where all are covered
full : (names : List (List ℕ)) (f : Forest) → SoundForest f → eqb (length names) (files names + below names f) ≡ covered names f
full names f h = by-test (eqb (gap names f) 0) yes no ∙ gap-covered names f
  where
    yes : eqb (gap names f) 0 ≡ true → eqb (length names) (files names + below names f) ≡ eqb (gap names f) 0
    yes e = eq-eqb (length names) (files names + below names f) (omega (arith, parts names f h, eqb-true (gap names f) 0 e)) ∙ sym e

    no : eqb (gap names f) 0 ≡ false → eqb (length names) (files names + below names f) ≡ eqb (gap names f) 0
    no e = ne_eqb (length names) (files names + below names f) (λ z. eqb-false (gap names f) 0 e (omega (arith, parts names f h))) ∙ sym e

-- ---- one node

-- the steps of all_valid and sum, by the tests and numbers of Counts
number : Count → ℕ
number (valid c) = c
number invalid = 0

module _ (n : Node) (kids after : Forest) where
  pub valid-step : all_valid (tree n kids after) ≡ (is_valid n.count && all_valid after)
  unfolding all_valid
  valid-step = refl

  sum_step : sum (tree n kids after) ≡ number n.count + sum after
  unfolding sum number
  sum_step = go n.count
    where
      go : (c : Count) → sum (tree (record { name = n.name; count = c; object = n.object }) kids after) ≡ number c + sum after
      go (valid c) = refl
      go invalid = refl

count-length : (c : Count) (names : List (List ℕ)) (kids : Forest) → is_valid c ≡ true → ok_count c names kids ≡ true → number c ≡ length names
unfolding ok_count number
count-length (valid c) names kids v e = eqb-true c (length names) (and-inv (eqb c (length names)) (all_valid kids && eqb c (files names + sum kids)) e).0
count-length invalid names kids v e = false-true v

-- valid siblings whose counts are right count the names that are under them
sum_below : (names : List (List ℕ)) (f : Forest) → all_valid f ≡ true → ok_counts names f ≡ true → sum f ≡ below names f
unfolding sum below ok_counts
sum_below names nil v e = refl
sum_below names (tree n kids after) v e =
    let i = and-inv (is_valid n.count) (all_valid after) (sym (valid-step n kids after) ∙ v) in
    let j = and-inv₃ (ok_count n.count (inside n.name names) kids) (ok_counts (inside n.name names) kids) (ok_counts names after) e in
    sum_step n kids after ∙ ap₂ ◌+◌ (count-length n.count (inside n.name names) kids i.0 j.0) (sum_below names after i.1 j.2)

-- one node, where the counts below it are right
node-count : (c : Count) (names : List (List ℕ)) (kids : Forest) → SoundForest kids → ok_counts names kids ≡ true
    → ok_count c names kids ≡ (counts_all c names kids && cond (is_valid c) (covered names kids) true)
unfolding ok_count
node-count invalid names kids h e = refl
node-count (valid c) names kids h e = by-test (eqb c (length names)) same (λ p. rw p)
  where
    last : eqb c (length names) ≡ true → all_valid kids ≡ true → eqb c (files names + sum kids) ≡ covered names kids
    last p v =
        ap₂ eqb (eqb-true c (length names) p) (ap (λ (k : ℕ). files names + k) (sum_below names kids v e)) ∙ full names kids h

    same : eqb c (length names) ≡ true
        → (eqb c (length names) && (all_valid kids && eqb c (files names + sum kids))) ≡ ((eqb c (length names) && all_valid kids) && covered names kids)
    same p = rw p (by-test (all_valid kids) (λ v. rw (v, last p v)) (λ v. rw v))

-- a node that no name is under counts nothing
count-hit : (c : Count) (names : List (List ℕ)) (kids : Forest)
    → counts_all c names kids ≡ (cond (is_valid c) (all_valid kids) true && (counted c names && eqb (hit c names) (weight c)))
count-hit invalid [] kids = refl
count-hit invalid (s ∷ ss) kids = refl
count-hit (valid c) [] kids = rw (none c) (and_comm (eqb 0 (bit (leb 1 c))) (all_valid kids))
  where
    none : (c : ℕ) → eqb c 0 ≡ eqb 0 (bit (leb 1 c))
    none zero = refl
    none (suc c) =
        let h : 1 ≤ suc c = omega arith in
        rw (ne_eqb (suc c) 0 (λ e. omega arith), le-leb 1 (suc c) h)
count-hit (valid c) (s ∷ ss) kids =
    rw (eq-eqb (bit (leb 1 c)) (bit (leb 1 c)) refl, and-true (eqb c (length (s ∷ ss)))) (and_comm (eqb c (length (s ∷ ss))) (all_valid kids))

-- ---- all nodes

hit-most : (c : Count) (names : List (List ℕ)) → hit c names ≤ weight c
hit-most c [] = omega arith
hit-most c (s ∷ ss) = omega arith

-- each node is counted at most once
pub matched-most : (names : List (List ℕ)) (f : Forest) → matched names f ≤ positive f
unfolding matched positive
matched-most names nil = omega arith
matched-most names (tree n kids after) =
    omega (arith, hit-most n.count (inside n.name names), matched-most (inside n.name names) kids, matched-most names after)

-- the tests of one node and of those below and after it, in the order of ok_counts and in that of the walk
regroup : (v c m o tk ek mk ta ea ma : Bool)
    → ((((v && (c && m)) && o) && (tk && (ek && mk))) && (ta && (ea && ma))) ≡ ((v && (tk && ta)) && (((c && (o && ek)) && ea) && (m && (mk && ma))))
regroup v c m o tk ek mk ta ea ma = simp (and_assoc, and-left-comm)

counts_each : (names : List (List ℕ)) (f : Forest) → SoundForest f
    → ok_counts names f ≡ (valid_below f && (counts_hold_each names f && eqb (matched names f) (positive f)))
unfolding ok_counts valid_below counts_hold_each matched positive
counts_each names nil h = refl
counts_each names (tree n kids after) h =
    let own = inside n.name names in
    sym (and_assoc (ok_count n.count own kids) (ok_counts own kids) (ok_counts names after))
    ∙ ap (λ (b : Bool). b && ok_counts names after) (and-when _ _ (ok_counts own kids) (node-count n.count own kids (sound-kids n kids after h)))
    ∙ rw (
      count-hit n.count own kids,
      counts_each own kids (sound-kids n kids after h),
      counts_each names after (sound-after n kids after h),
      sums-equal (hit n.count own) (matched own kids + matched names after) (weight n.count) (positive kids + positive after)
          (hit-most n.count own) (two own),
      sums-equal (matched own kids) (matched names after) (positive kids) (positive after) (matched-most own kids) (matched-most names after),
    )
    (regroup
    (cond (is_valid n.count) (all_valid kids) true)
    (counted n.count own)
    (eqb (hit n.count own) (weight n.count))
    (cond (is_valid n.count) (covered own kids) true)
    (valid_below kids) (counts_hold_each own kids) (eqb (matched own kids) (positive kids))
    (valid_below after) (counts_hold_each names after) (eqb (matched names after) (positive after)))
  where
    two : (own : List (List ℕ)) → matched own kids + matched names after ≤ positive kids + positive after
    two own = omega (arith, matched-most own kids, matched-most names after)

-- the counts of a tree are right exactly where the root counts all names, the subtrees of valid nodes are valid, the walk tests every directory
-- that names are in, and every node with a count of at least 1 is counted
pub counts-tested : (names : List (List ℕ)) (t : Tree) → plain t.subtrees ≡ true → distinct t.subtrees ≡ true
    → ok_tree_counts names t
    ≡ (counts_all t.root.count names t.subtrees
    && (valid_below t.subtrees
    && (counts_hold (is_valid t.root.count) names t.subtrees && eqb (matched names t.subtrees) (positive t.subtrees))))
unfolding ok_tree_counts counts_hold
counts-tested names t p d = go t.root.count t.subtrees (record { plainly = p; differ = d })
  where
    go : (c : Count) (f : Forest) → SoundForest f → (ok_count c names f && ok_counts names f)
        ≡ (counts_all c names f && (valid_below f && ((cond (is_valid c) (covered names f) true && counts_hold_each names f) && eqb (matched names f) (positive f))))
    go c f h =
        and-when (ok_count c names f) _ (ok_counts names f) (λ e. node-count c names f h e)
        ∙ rw (counts_each names f h) (simp (and_assoc, and-left-comm))
