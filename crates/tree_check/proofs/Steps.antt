-- Laws of the walk over the names in a directory: one part of it.
use mathlib.Core.Path.{◌≡◌, refl, sym, ap, ap₂, subst, ◌∙◌}
use mathlib.Core.List.{List, [], ◌∷◌, ◌++◌, append-nil, append_assoc}
use mathlib.Core.Bool.{Bool, true, false, not, ◌&&◌, and-true}
use mathlib.Core.Option.{none, some}
use Prim.Native.Nat.{ℕ, ◌+◌, ◌≤◌}
use native.Mathlib.Omega.{arith}
use lib.ListN.{length, drop}
use Rattle.format.specs.Bytes.{lacks}
use Rattle.format.specs.Records.{Forest, Tree}
use Rattle.format.specs.Layout.{under, is_valid}
use Rattle.format_laws.proofs.Tests.{by-test, and-inv}
use Rattle.tree_counts.specs.Counts.{says, weight, child, reached, counts_hold, matched, SoundForest}
use Rattle.directories.specs.Names.{sorted_from, begins, every, span, beyond, within, enter, run_in}
use Rattle.tree_counts.specs.Runs.{NamesPassed}
use Rattle.directories.proofs.Names.{under-slash}
use Rattle.tree_counts.proofs.Siblings.{file-unreached}
use Rattle.tree_counts.proofs.Walk.{child-free, counts-hold-pass, matched-pass, counts-hold-file, matched-file}
use Rattle.directories.proofs.Runs.{enter-begins, run_in-every}
use Rattle.tree_counts.proofs.Runs.{passed-name, passed-run, counts-hold-run, matched-run}
use Rattle.entries_directory.specs.declared.Front.{Front}
use Rattle.entries_directory.specs.Ahead.{DirectoryPassed, Files, files_none, files_more, FilesPassed}
use Rattle.tree_check.specs.Steps.{Moved}

-- ---- names under a component that no sibling has

module _ (c : List ℕ) (f : Forest) (free : (s : List ℕ) → under c s ≡ true → reached s f ≡ false) where
  one-tested : (v : Bool) (done : List (List ℕ)) (y : List ℕ) → under c y ≡ true → counts_hold v (done ++ (y ∷ [])) f ≡ (counts_hold v done f && not v)
  one-tested v done y u = counts-hold-pass done y f (free y u) v ∙ rw (under-slash c y u)

  names-tested : (v : Bool) (done run : List (List ℕ)) → every (under c) run ≡ true → 1 ≤ length run → counts_hold v (done ++ run) f ≡ (counts_hold v done f && not v)
  unfolding every
  names-tested v done [] h l = absurd (omega arith)
  names-tested v done (y ∷ []) h l = one-tested v done y (and-inv (under c y) true h).0
  names-tested v done (y ∷ z ∷ run) h l =
      let i = and-inv (under c y) (under c z && every (under c) run) h in
      ap (λ (t : List (List ℕ)). counts_hold v t f) (sym (append_assoc done (y ∷ []) (z ∷ run)))
      ∙ names-tested v (done ++ (y ∷ [])) (z ∷ run) i.1 (omega arith)
      ∙ ap (λ (t : Bool). t && not v) (one-tested v done y i.0)
      ∙ twice (counts_hold v done f) v
    where
      twice : (j v : Bool) → ((j && not v) && not v) ≡ (j && not v)
      twice true true = refl
      twice true false = refl
      twice false v = refl

  names-matched : (done run : List (List ℕ)) → every (under c) run ≡ true → matched (done ++ run) f ≡ matched done f
  unfolding every
  names-matched done [] h = rw (append-nil done)
  names-matched done (y ∷ run) h =
      let i = and-inv (under c y) (every (under c) run) h in
      ap (λ (t : List (List ℕ)). matched t f) (sym (append_assoc done (y ∷ []) run))
      ∙ names-matched (done ++ (y ∷ [])) run i.1
      ∙ matched-pass done y f (free y i.0)

  names-passed : (q : List ℕ) (whole done ss : List (List ℕ)) → NamesPassed f q whole done ss → NamesPassed f q whole (done ++ run_in q c ss) (beyond (begins (enter q c)) ss)
  unfolding run_in span beyond
  names-passed q whole done [] h = rw (append-nil done) h
  names-passed q whole done (s ∷ ss) h =
      by-test (begins (enter q c) s)
      (λ e.
      let i = and-inv (begins q s) (under c (drop (length q) s)) (sym (enter-begins q c s) ∙ e) in
      rw e (subst (λ (t : List (List ℕ)). NamesPassed f q whole t (beyond (begins (enter q c)) ss)) (append_assoc done (drop (length q) s ∷ []) (run_in q c ss))
      (names-passed q whole (done ++ (drop (length q) s ∷ [])) ss (passed-name f q whole done s ss i.0 (free (drop (length q) s) i.1) h))))
      (λ e. rw (e, append-nil done) h)

-- ---- files of a directory

-- those up to rest, after the names done
record Filed (valid : Bool) (f : Forest) (q : List ℕ) (whole done : List (List ℕ)) (rest : List (List ℕ)) : Type 0 where
  now_done : List (List ℕ)
  passed : NamesPassed f q whole now_done rest
  tested : counts_hold valid now_done f ≡ counts_hold valid done f
  sum : matched now_done f ≡ matched done f

module _ (w : ℕ) (valid : Bool) (f : Forest) (q : List ℕ) (whole done ss : List (List ℕ)) (h : NamesPassed f q whole done ss) where
  files-passed : (rest : List (List ℕ)) → Files q ss rest → Filed valid f q whole done rest
  files-passed _ files_none = record { now_done = done; passed = h; tested = refl; sum = refl }
  files-passed _ (files_more {x = x} {xs = xs} before file) =
      let i = files-passed _ before in
      record {
        now_done = i.now_done ++ (drop (length q) x ∷ []);
        passed = passed-name f q whole i.now_done x xs file.in_it (file-unreached _ f file.alone) i.passed;
        tested = counts-hold-file i.now_done _ f file.alone valid ∙ i.tested;
        sum = matched-file i.now_done _ f file.alone ∙ i.sum;
      }

  pub moved-files : (v : ℕ) (b work : List ℕ) (front : Front) → FilesPassed w v b work front q ss → Moved w valid f q whole done v b work true 0 front
  moved-files v b work front left =
      let i = files-passed _ left.files in
      record {
        now_done = i.now_done;
        rest = left.rest;
        last = left.last;
        passed = i.passed;
        tested = i.tested ∙ sym (and-true (counts_hold valid done f));
        sum = omega (arith, i.sum);
        in_it = left.is_file.in_it;
        after = left.after;
      }

-- ---- one part of a directory

pub part_in_lem : (q c x : List ℕ) → begins q x ≡ true → under c (drop (length q) x) ≡ true → begins (enter q c) x ≡ true
part_in_lem q c x in-q uc = enter-begins q c x ∙ ap₂ ◌&&◌ in-q uc

module _ (w : ℕ) (valid : Bool) (f : Forest) (q x : List ℕ) (xs whole done : List (List ℕ)) (v : ℕ) (b work : List ℕ) (front : Front)
    (in-q : begins q x ≡ true) (h : NamesPassed f q whole done (x ∷ xs)) where
  -- the names under the component c
  module _ (sound : SoundForest f) (c : List ℕ) (lc : lacks 47 c ≡ true) (uc : under c (drop (length q) x) ≡ true) (left : DirectoryPassed w v b work front (enter q c) (x ∷ xs)) where
    in-part : begins (enter q c) x ≡ true
    in-part = part_in_lem q c x in-q uc

    part-last : (s : List ℕ) → begins (enter q c) s ≡ true → begins q s ≡ true
    part-last s i = (and-inv (begins q s) (under c (drop (length q) s)) (sym (enter-begins q c s) ∙ i)).0

    run-some : 1 ≤ length (run_in q c (x ∷ xs))
    unfolding run_in span
    run-some = rw in-part (omega arith)

    -- where no sibling has it
    pub moved-missing : child c f ≡ none → Moved w valid f q whole done v b work (not valid) 0 front
    moved-missing absent =
        let free : (s : List ℕ) → under c s ≡ true → reached s f ≡ false = λ s u. child-free c s f sound lc absent u in
        record {
          now_done = done ++ run_in q c (x ∷ xs);
          rest = beyond (begins (enter q c)) (x ∷ xs);
          last = left.last;
          passed = names-passed c f free q whole done (x ∷ xs) h;
          tested = names-tested c f free valid done (run_in q c (x ∷ xs)) (run_in-every q c (x ∷ xs)) run-some;
          sum = omega (arith, names-matched c f free done (run_in q c (x ∷ xs)) (run_in-every q c (x ∷ xs)));
          in_it = part-last left.last left.in_it;
          after = left.after;
        }

    -- where a sibling has it
    pub moved-found : (t : Tree) → child c f ≡ some t → (a : List ℕ) → sorted_from a whole ≡ true
        → Moved w valid f q whole done v b work
        (says t.root.count (length (within (enter q c) (x ∷ xs))) && counts_hold (is_valid t.root.count) (within (enter q c) (x ∷ xs)) t.subtrees)
        (weight t.root.count + matched (within (enter q c) (x ∷ xs)) t.subtrees)
        front
    moved-found t found a sorted = record {
      now_done = done ++ run_in q c (x ∷ xs);
      rest = beyond (begins (enter q c)) (x ∷ xs);
      last = left.last;
      passed = passed-run f q c a whole done x xs t lc found sorted in-part h;
      tested = counts-hold-run f q c a whole done x xs t lc found sorted in-part h sound valid;
      sum = matched-run f q c a whole done x xs t lc found sorted in-part h sound;
      in_it = part-last left.last left.in_it;
      after = left.after;
    }
