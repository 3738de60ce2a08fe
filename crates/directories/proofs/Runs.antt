-- The names in a directory, and the run of those in one of its directories.
use mathlib.Core.Path.{◌≡◌, refl, sym, ap, ap₂, ◌∙◌}
use mathlib.Core.List.{List, [], ◌∷◌, ◌++◌}
use mathlib.Core.Bool.{Bool, true, false, ◌&&◌}
use Prim.Native.Nat.{ℕ, ◌+◌, ◌≤◌}
use native.Mathlib.Omega.{arith}
use lib.ListN.{length, drop, length-append}
use lib.Seq.{drop-drop}
use Rattle.format.specs.Names.{compare}
use Rattle.format.specs.Layout.{under, inside}
use Rattle.format_laws.proofs.Tests.{by-test, and-inv}
use Rattle.directories.specs.Names.{not_above, sorted_from, begins, leads, every, span, beyond, within, enter, run_in}
use Rattle.directories.proofs.Order.{under-begins}
use Rattle.directories.proofs.Prefixes.{begins-append, compare-cut, first-least}

module _ (p : List ℕ → Bool) where
  pub beyond-leads : (ss : List (List ℕ)) → leads p (beyond p ss) ≡ false
  unfolding beyond leads
  beyond-leads [] = refl
  beyond-leads (s ∷ ss) = by-test (p s) (λ e. rw e (beyond-leads ss)) (λ e. rw e e)

pub within-top : (ss : List (List ℕ)) → within [] ss ≡ ss
unfolding within span begins
within-top [] = refl
within-top (s ∷ ss) = ap (λ (l : List (List ℕ)). s ∷ l) (within-top ss)

pub within_end : (q : List ℕ) (ss : List (List ℕ)) → leads (begins q) ss ≡ false → within q ss ≡ []
unfolding within span leads
within_end q [] e = refl
within_end q (s ∷ ss) e = rw e

module _ (q s : List ℕ) (ss : List (List ℕ)) (b : begins q s ≡ true) where
  pub within_step : within q (s ∷ ss) ≡ drop (length q) s ∷ within q ss
  unfolding within span
  within_step = rw b

  pub beyond-step : beyond (begins q) (s ∷ ss) ≡ beyond (begins q) ss
  unfolding beyond
  beyond-step = rw b

within-after : (q s : List ℕ) (ss : List (List ℕ)) → begins q s ≡ true → sorted_from s ss ≡ true → sorted_from (drop (length q) s) (within q ss) ≡ true
unfolding sorted_from within span
within-after q s [] b h = refl
within-after q s (t ∷ ss) b h =
    let i = and-inv (not_above (compare s t)) (sorted_from t ss) h in
    by-test (begins q t)
    (λ e. rw (e, compare-cut q s t b e, i.0) (within-after q t ss e i.1))
    (λ e. rw e)

pub within-sorted : (q a : List ℕ) (ss : List (List ℕ)) → sorted_from a ss ≡ true → sorted_from [] (within q ss) ≡ true
unfolding sorted_from within span
within-sorted q a [] h = refl
within-sorted q a (s ∷ ss) h =
    let i = and-inv (not_above (compare a s)) (sorted_from s ss) h in
    by-test (begins q s)
    (λ e. rw (e, first-least (drop (length q) s)) (within-after q s ss e i.1))
    (λ e. rw e)

-- a run is of the names of the directory one further down
pub enter-begins : (q c s : List ℕ) → begins (enter q c) s ≡ (begins q s && under c (drop (length q) s))
enter-begins q c s = begins-append q (c ++ (47 ∷ [])) s ∙ rw (under-begins c (drop (length q) s))

module _ (q c : List ℕ) where
  pub run_in-every : (ss : List (List ℕ)) → every (under c) (run_in q c ss) ≡ true
  unfolding run_in span every
  run_in-every [] = refl
  run_in-every (s ∷ ss) =
      by-test (begins (enter q c) s)
      (λ e. rw (e, (and-inv (begins q s) (under c (drop (length q) s)) (sym (enter-begins q c s) ∙ e)).1) (run_in-every ss))
      (λ e. rw e)

  pub run_in-inside : (ss : List (List ℕ)) → inside c (run_in q c ss) ≡ within (enter q c) ss
  unfolding run_in within span inside
  run_in-inside [] = refl
  run_in-inside (s ∷ ss) =
      by-test (begins (enter q c) s)
      (λ e.
      rw (e, (and-inv (begins q s) (under c (drop (length q) s)) (sym (enter-begins q c s) ∙ e)).1)
      (ap₂ ◌∷◌ (drop-drop (length c + 1) (length q) s ∙ ap (λ (n : ℕ). drop n s) further) (run_in-inside ss)))
      (λ e. rw e)
    where
      further : length q + (length c + 1) ≡ length (enter q c)
      further = omega (arith, length-append q (c ++ (47 ∷ [])), length-append c (47 ∷ []))

  pub within-run : (ss : List (List ℕ)) → within q ss ≡ run_in q c ss ++ within q (beyond (begins (enter q c)) ss)
  unfolding run_in within span beyond
  within-run [] = refl
  within-run (s ∷ ss) =
      by-test (begins (enter q c) s)
      (λ e.
      rw (e, (and-inv (begins q s) (under c (drop (length q) s)) (sym (enter-begins q c s) ∙ e)).0)
      (ap (λ (l : List (List ℕ)). drop (length q) s ∷ l) (within-run ss)))
      (λ e. rw e)

  pub beyond-run : (ss : List (List ℕ)) → beyond (begins q) (beyond (begins (enter q c)) ss) ≡ beyond (begins q) ss
  unfolding beyond
  beyond-run [] = refl
  beyond-run (s ∷ ss) =
      by-test (begins (enter q c) s)
      (λ e. rw (e, (and-inv (begins q s) (under c (drop (length q) s)) (sym (enter-begins q c s) ∙ e)).0) (beyond-run ss))
      (λ e. rw e)

  pub within-leads : (ss : List (List ℕ)) → leads (under c) (within q ss) ≡ leads (begins (enter q c)) ss
  unfolding within span leads
  within-leads [] = refl
  within-leads (s ∷ ss) = rw (enter-begins q c s) (by-test (begins q s) (λ e. rw e) (λ e. rw e))

-- past the run of a sibling's names, which is what is left of the names in its directory
pub run_in-some : (q c s : List ℕ) (ss : List (List ℕ)) → begins (enter q c) s ≡ true → 1 ≤ length (run_in q c (s ∷ ss))
unfolding run_in span
run_in-some q c s ss b = rw b (omega arith)

-- where the next name is outside the directory, or there is none, all of its names have been passed
pub beyond-end : (p : List ℕ → Bool) (ss : List (List ℕ)) → leads p ss ≡ false → beyond p ss ≡ ss
unfolding leads beyond
beyond-end p [] e = refl
beyond-end p (s ∷ ss) e = rw e
