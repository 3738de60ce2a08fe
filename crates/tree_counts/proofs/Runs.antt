-- Runs of names under one component, in a directory whose names rise, and a walk from one to the next.
use mathlib.Core.Path.{◌≡◌, refl, sym, ap, subst, ◌∙◌}
use mathlib.Core.List.{List, [], ◌∷◌, ◌++◌, append-nil, append_assoc}
use mathlib.Core.Bool.{Bool, true, false, ◌&&◌}
use mathlib.Core.Option.{some}
use Prim.Native.Nat.{ℕ, ◌+◌, ◌≤◌}
use native.Mathlib.Omega.{arith}
use lib.ListN.{length, drop}
use Rattle.format.specs.Bytes.{eq_list, lacks}
use Rattle.format.specs.Records.{Forest, Tree}
use Rattle.format.specs.Layout.{has, under, is_valid}
use Rattle.format_laws.proofs.Tests.{clash, by-test, and-inv}
use Rattle.format_laws.proofs.Lists.{eq_list-true}
use Rattle.tree_counts.specs.Counts.{says, weight, child, reached, counts_hold, matched, SoundForest}
use Rattle.directories.specs.Names.{sorted_from, begins, leads, trails, every, beyond, within, enter, run_in}
use Rattle.tree_counts.specs.Runs.{Run, Boundary, NamesPassed}
use Rattle.directories.proofs.Names.{under_one}
use Rattle.tree_counts.proofs.Walk.{inside-length, has-reached, child-some, counts-hold-found, matched-found}
use Rattle.directories.proofs.Order.{under-convex, done-clear}
use Rattle.directories.proofs.Runs.{beyond-leads, within_end, within_step, beyond-step, within-sorted, run_in-every, run_in-inside, within-run, beyond-run, within-leads, beyond-end, run_in-some}

-- ---- a run

-- ---- from one run to the next

trails-append : (p : List ℕ → Bool) (done : List (List ℕ)) (s : List ℕ) (ss : List (List ℕ)) → trails p (done ++ (s ∷ ss)) ≡ trails p (s ∷ ss)
unfolding trails
trails-append p [] s ss = refl
trails-append p (d ∷ []) s ss = refl
trails-append p (d ∷ e ∷ done) s ss = trails-append p (e ∷ done) s ss

trails-every : (b c s : List ℕ) (ss : List (List ℕ)) → lacks 47 b ≡ true → lacks 47 c ≡ true → eq_list b c ≡ false → every (under b) (s ∷ ss) ≡ true
    → trails (under c) (s ∷ ss) ≡ false
unfolding trails every
trails-every b c s [] lb lc n h =
    by-test (under c s) (λ u. clash (under_one b c s lb lc (and-inv (under b s) true h).0 u) n) (λ u. u)
trails-every b c s (t ∷ ss) lb lc n h = trails-every b c t ss lb lc n (and-inv (under b s) (under b t && every (under b) ss) h).1

pub boundary_start : (f : Forest) (rest : List (List ℕ)) → Boundary f [] rest
unfolding trails
boundary_start f rest = record { apart = λ c lc k h. refl }

-- after a name that is under no sibling
pub boundary-pass : (f : Forest) (done : List (List ℕ)) (s : List ℕ) (rest : List (List ℕ)) → reached s f ≡ false → Boundary f (done ++ (s ∷ [])) rest
unfolding trails
boundary-pass f done s rest free =
    record { apart = λ c lc k h. trails-append (under c) done s [] ∙ by-test (under c s) (λ u. clash (has-reached c s f k u) free) (λ u. u) }

-- after a run that is as long as can be
pub boundary-run : (f : Forest) (b : List ℕ) (done run rest : List (List ℕ)) → Run b done run → leads (under b) rest ≡ false → Boundary f (done ++ run) rest
boundary-run f b done [] rest r n = absurd (omega (arith, r.some))
boundary-run f b done (s ∷ run) rest r n = record {
  apart = λ c lc k h.
      trails-append (under c) done s run
      ∙ by-test (eq_list b c)
      (λ e. clash h (rw (eq_list-true b c e) at n))
      (λ e. trails-every b c s run r.component lc e r.all);
}

-- where names rise, those under one component that follow a boundary are a run
pub run_at : (f : Forest) (c a : List ℕ) (done run rest : List (List ℕ)) → lacks 47 c ≡ true → has c f ≡ true → sorted_from a (done ++ (run ++ rest)) ≡ true
    → 1 ≤ length run → every (under c) run ≡ true → Boundary f done (run ++ rest) → Run c done run
unfolding every leads
run_at f c a done [] rest lc k sorted l all h = absurd (omega arith)
run_at f c a done (t ∷ run) rest lc k sorted l all h = record {
  component = lc;
  new = done-clear (under c) (under-convex c) a done t (run ++ rest) sorted (h.apart c lc k first) first;
  all = all;
  some = l;
}
  where
    first : under c t ≡ true
    first = (and-inv (under c t) (every (under c) run) all).0

-- ---- whole names

-- ---- a walk over the names in a directory

pub passed_start : (f : Forest) (q : List ℕ) (ss : List (List ℕ)) → NamesPassed f q ss [] ss
passed_start f q ss = record { joined = refl; left = refl; edge = boundary_start f (within q ss) }

-- past a name that is under no sibling
pub passed-name : (f : Forest) (q : List ℕ) (whole done : List (List ℕ)) (s : List ℕ) (ss : List (List ℕ)) → begins q s ≡ true
    → reached (drop (length q) s) f ≡ false → NamesPassed f q whole done (s ∷ ss) → NamesPassed f q whole (done ++ (drop (length q) s ∷ [])) ss
passed-name f q whole done s ss b free h = record {
  joined =
      append_assoc done (drop (length q) s ∷ []) (within q ss)
      ∙ ap (λ (l : List (List ℕ)). done ++ l) (sym (within_step q s ss b))
      ∙ h.joined;
  left = sym (beyond-step q s ss b) ∙ h.left;
  edge = boundary-pass f done (drop (length q) s) (within q ss) free;
}

module _ (f : Forest) (q c a : List ℕ) (whole done : List (List ℕ)) (s : List ℕ) (ss : List (List ℕ)) (t : Tree) (lc : lacks 47 c ≡ true)
    (found : child c f ≡ some t) (sorted : sorted_from a whole ≡ true) (b : begins (enter q c) s ≡ true) (h : NamesPassed f q whole done (s ∷ ss)) where
  sorted-here : sorted_from [] (done ++ (run_in q c (s ∷ ss) ++ within q (beyond (begins (enter q c)) (s ∷ ss)))) ≡ true
  sorted-here =
      ap (λ (l : List (List ℕ)). sorted_from [] (done ++ l)) (sym (within-run q c (s ∷ ss)))
      ∙ ap (sorted_from []) h.joined
      ∙ within-sorted q a whole sorted

  run-here : Run c done (run_in q c (s ∷ ss))
  run-here =
      run_at f c [] done (run_in q c (s ∷ ss)) (within q (beyond (begins (enter q c)) (s ∷ ss))) lc (child-some c f t found) sorted-here
      (run_in-some q c s ss b) (run_in-every q c (s ∷ ss)) (subst (Boundary f done) (within-run q c (s ∷ ss)) h.edge)

  pub passed-run : NamesPassed f q whole (done ++ run_in q c (s ∷ ss)) (beyond (begins (enter q c)) (s ∷ ss))
  passed-run = record {
    joined =
        append_assoc done (run_in q c (s ∷ ss)) (within q (beyond (begins (enter q c)) (s ∷ ss)))
        ∙ ap (λ (l : List (List ℕ)). done ++ l) (sym (within-run q c (s ∷ ss)))
        ∙ h.joined;
    left = beyond-run q c (s ∷ ss) ∙ h.left;
    edge =
        boundary-run f c done (run_in q c (s ∷ ss)) (within q (beyond (begins (enter q c)) (s ∷ ss))) run-here
        (within-leads q c (beyond (begins (enter q c)) (s ∷ ss)) ∙ beyond-leads (begins (enter q c)) (s ∷ ss));
  }

  run_length : length (run_in q c (s ∷ ss)) ≡ length (within (enter q c) (s ∷ ss))
  run_length = sym (inside-length c (run_in q c (s ∷ ss)) (run_in-every q c (s ∷ ss))) ∙ ap length (run_in-inside q c (s ∷ ss))

  pub counts-hold-run : SoundForest f → (v : Bool)
      → counts_hold v (done ++ run_in q c (s ∷ ss)) f
      ≡ (counts_hold v done f
      && (says t.root.count (length (within (enter q c) (s ∷ ss))) && counts_hold (is_valid t.root.count) (within (enter q c) (s ∷ ss)) t.subtrees))
  counts-hold-run d v = counts-hold-found c done (run_in q c (s ∷ ss)) f run-here d v t found ∙ rw (run_length, run_in-inside q c (s ∷ ss))

  pub matched-run : SoundForest f
      → matched (done ++ run_in q c (s ∷ ss)) f ≡ matched done f + (weight t.root.count + matched (within (enter q c) (s ∷ ss)) t.subtrees)
  matched-run d = matched-found c done (run_in q c (s ∷ ss)) f run-here d t found ∙ rw (run_in-inside q c (s ∷ ss))

pub passed-end : (f : Forest) (q : List ℕ) (whole done ss : List (List ℕ)) → leads (begins q) ss ≡ false → NamesPassed f q whole done ss
    → (done ≡ within q whole) × (ss ≡ beyond (begins q) whole)
passed-end f q whole done ss e h = (
  sym (append-nil done) ∙ ap (λ (l : List (List ℕ)). done ++ l) (sym (within_end q ss e)) ∙ h.joined,
  sym (beyond-end (begins q) ss e) ∙ h.left,
)
