-- One step of the walk over the names in a directory: a name with no further "/", or a run of names under one component.
use mathlib.Core.Path.{◌≡◌, refl, sym, ap, ap₂, ◌∙◌}
use mathlib.Core.List.{List, [], ◌∷◌, ◌++◌, append-nil}
use mathlib.Core.Bool.{Bool, true, false, cond, not, ◌&&◌, ◌||◌, and_assoc, and_comm, and-true, and-false}
use mathlib.Core.Option.{none, some}
use Prim.Native.Nat.{ℕ, suc, ◌+◌, ◌≤◌}
use native.Mathlib.Nat.{zero-add, add_comm, add_assoc}
use native.Mathlib.Omega.{arith}
use lib.ListN.{length}
use borrow.Author.Tests.{not-true}
use Rattle.format.specs.Bytes.{eq_list, lacks}
use Rattle.format.specs.Records.{Count, Node, Forest, nil, tree, Tree}
use Rattle.format.specs.Layout.{has, under, inside, is_valid}
use Rattle.format_laws.proofs.Tests.{false-true, clash, by-test, and-inv}
use Rattle.format_laws.proofs.Lists.{eq_list-true}
use Rattle.format_laws.proofs.Readings.{none-some}
use Rattle.tree_counts.specs.Counts.{says, weight, child, reached, covered, counted, hit, counts_hold_each, counts_hold, matched, SoundForest}
use Rattle.directories.specs.Names.{every, never}
use Rattle.tree_counts.specs.Runs.{Run}
use Rattle.tree_counts.proofs.Tests.{or-false-inv}
use Rattle.directories.proofs.Names.{under-slash, under_one}
use Rattle.tree_counts.proofs.Siblings.{sound-name, sound-new, sound-kids, sound-after, unreached, file-unreached}

-- ---- the names in a directory

cons-append : (b : Bool) (x : List ℕ) (s t : List (List ℕ)) → cond b (x ∷ (s ++ t)) (s ++ t) ≡ cond b (x ∷ s) s ++ t
cons-append true x s t = refl
cons-append false x s t = refl

pub inside-append : (d : List ℕ) (s t : List (List ℕ)) → inside d (s ++ t) ≡ inside d s ++ inside d t
unfolding inside
inside-append d [] t = refl
inside-append d (x ∷ s) t = rw (inside-append d s t) (cons-append (under d x) _ (inside d s) (inside d t))

pub inside-never : (c : List ℕ) (ss : List (List ℕ)) → never (under c) ss ≡ true → inside c ss ≡ []
unfolding inside never
inside-never c [] h = refl
inside-never c (s ∷ ss) h =
    let i = and-inv (not (under c s)) (never (under c) ss) h in
    rw (not-true (under c s) i.0) (inside-never c ss i.1)

inside-pass : (d : List ℕ) (done : List (List ℕ)) (s : List ℕ) → under d s ≡ false → inside d (done ++ (s ∷ [])) ≡ inside d done
unfolding inside
inside-pass d done s u = inside-append d done (s ∷ []) ∙ rw u (append-nil (inside d done))

pub inside-length : (c : List ℕ) (ss : List (List ℕ)) → every (under c) ss ≡ true → length (inside c ss) ≡ length ss
unfolding inside every
inside-length c [] h = refl
inside-length c (s ∷ ss) h =
    let i = and-inv (under c s) (every (under c) ss) h in
    rw i.0 (ap suc (inside-length c ss i.1))

-- names under one component are under no other
inside-other : (c d : List ℕ) (ss : List (List ℕ)) → lacks 47 c ≡ true → lacks 47 d ≡ true → eq_list c d ≡ false → every (under c) ss ≡ true → inside d ss ≡ []
unfolding inside every
inside-other c d [] lc ld e h = refl
inside-other c d (s ∷ ss) lc ld e h =
    let i = and-inv (under c s) (every (under c) ss) h in
    by-test (under d s) (λ u. clash (under_one c d s lc ld i.0 u) e) (λ u. rw u (inside-other c d ss lc ld e i.1))

-- ---- a sibling of a name

pub child-has : (c : List ℕ) (f : Forest) → child c f ≡ none → has c f ≡ false
unfolding child has
child-has c nil e = refl
child-has c (tree n kids after) e =
    by-test (eq_list c n.name)
    (λ q. none-some (sym (rw q at e)))
    (λ q. rw q (child-has c after (rw q at e)))

-- then a name under that component is under no sibling
pub child-free : (c s : List ℕ) (f : Forest) → SoundForest f → lacks 47 c ≡ true → child c f ≡ none → under c s ≡ true → reached s f ≡ false
child-free c s f h lc e u = unreached c s f lc u h (child-has c f e)

-- it is the first sibling, or one after it
child-inv : {X : Type 0} (c : List ℕ) (n : Node) (kids after : Forest) (t : Tree) → child c (tree n kids after) ≡ some t
    → (c ≡ n.name → record { root = n; subtrees = kids } ≡ t → X) → (eq_list c n.name ≡ false → child c after ≡ some t → X) → X
unfolding child
child-inv c n kids after t e first later =
    by-test (eq_list c n.name) (λ q. first (eq_list-true c n.name q) (same (rw q at e))) (λ q. later q (rw q at e))
  where
    same : {a b : Tree} → some a ≡ some b → a ≡ b
    same e = cc

child-nil : {X : Type 0} (c : List ℕ) (t : Tree) → child c nil ≡ some t → X
unfolding child
child-nil c t e = let z : ◌≡◌ {A = ℕ} 0 1 = cc in absurd (omega arith)

pub child-sound : (c : List ℕ) (f : Forest) (t : Tree) → SoundForest f → child c f ≡ some t → SoundForest t.subtrees
child-sound c nil t h e = child-nil c t e
child-sound c (tree n kids after) t h e =
    child-inv c n kids after t e
    (λ q p. rw (← p) (sound-kids n kids after h))
    (λ q p. child-sound c after t (sound-after n kids after h) p)

pub child-some : (c : List ℕ) (f : Forest) (t : Tree) → child c f ≡ some t → has c f ≡ true
unfolding child has
child-some c nil t e = child-nil c t e
child-some c (tree n kids after) t e = by-test (eq_list c n.name) (λ q. rw q) (λ q. rw q (child-some c after t (rw q at e)))

-- a name under the component c is under a sibling where one has that name
pub has-reached : (c s : List ℕ) (f : Forest) → has c f ≡ true → under c s ≡ true → reached s f ≡ true
unfolding has reached
has-reached c s nil e u = false-true e
has-reached c s (tree n kids after) e u =
    by-test (eq_list c n.name)
    (λ q. rw (rw (eq_list-true c n.name q) at u))
    (λ q. rw (has-reached c s after (rw q at e) u) (by-test (under n.name s) (λ v. rw v) (λ v. rw v)))

-- ---- what is gathered over siblings from the names under each

module _ {A : Type 0} (op : A → A → A) (unit : A) (one : Count → List (List ℕ) → Forest → A) where
  over : List (List ℕ) → Forest → A
  over names nil = unit
  over names (tree n kids after) = op (one n.count (inside n.name names) kids) (over names after)

  over-pass : (done : List (List ℕ)) (s : List ℕ) (f : Forest) → reached s f ≡ false → over (done ++ (s ∷ [])) f ≡ over done f
  unfolding over reached
  over-pass done s nil e = refl
  over-pass done s (tree n kids after) e =
      let i = or-false-inv (under n.name s) (reached s after) e in
      rw (inside-pass n.name done s i.0, over-pass done s after i.1)

  module _ (nothing : (k : Count) (kids : Forest) → one k [] kids ≡ unit) (left : (x : A) → op unit x ≡ x)
      (comm : (x y : A) → op x y ≡ op y x) (assoc : (x y z : A) → op (op x y) z ≡ op x (op y z)) where
    module _ (c : List ℕ) (done run : List (List ℕ)) (r : Run c done run) where
      elsewhere : (d : List ℕ) → lacks 47 d ≡ true → eq_list c d ≡ false → inside d (done ++ run) ≡ inside d done
      elsewhere d ld e = inside-append d done run ∙ rw (inside-other c d run r.component ld e r.all) (append-nil (inside d done))

      here : inside c (done ++ run) ≡ inside c run
      here = inside-append c done run ∙ rw (inside-never c done r.new)

      over-absent : (f : Forest) → SoundForest f → has c f ≡ false → over (done ++ run) f ≡ over done f
      unfolding over has
      over-absent nil h e = refl
      over-absent (tree n kids after) h e =
          let i = or-false-inv (eq_list c n.name) (has c after) e in
          rw (elsewhere n.name (sound-name n kids after h) i.0, over-absent after (sound-after n kids after h) i.1)

      over-found : (f : Forest) (t : Tree) → SoundForest f → child c f ≡ some t
          → over (done ++ run) f ≡ op (over done f) (one t.root.count (inside c run) t.subtrees)
      unfolding over
      over-found nil t h e = child-nil c t e
      over-found (tree n kids after) t h e =
          child-inv c n kids after t e
          (λ q p.
          rw (
            ← p,
            ← q,
            here,
            over-absent after (sound-after n kids after h) (rw (← q) at (sound-new n kids after h)),
            inside-never c done r.new,
            nothing n.count kids,
            left (over done after),
          )
          (comm (one n.count (inside c run) kids) (over done after)))
          (λ q p.
          rw (elsewhere n.name (sound-name n kids after h) q, over-found after t (sound-after n kids after h) p)
          (sym (assoc (one n.count (inside n.name done) kids) (over done after) (one t.root.count (inside c run) t.subtrees))))

-- ---- counts_hold and matched gather over siblings

counts_hold_one : Count → List (List ℕ) → Forest → Bool
counts_hold_one k names kids = counted k names && counts_hold (is_valid k) names kids

matched_one : Count → List (List ℕ) → Forest → ℕ
matched_one k names kids = hit k names + matched names kids

each_over : (names : List (List ℕ)) (f : Forest) → counts_hold_each names f ≡ over ◌&&◌ true counts_hold_one names f
unfolding counts_hold_each counts_hold over counts_hold_one
each_over names nil = refl
each_over names (tree n kids after) = rw (each_over names after)

matched-over : (names : List (List ℕ)) (f : Forest) → matched names f ≡ over ◌+◌ 0 matched_one names f
unfolding matched over matched_one
matched-over names nil = refl
matched-over names (tree n kids after) = omega (arith, matched-over names after)

-- ---- the steps

-- no name has been passed
always : (v : Bool) → cond v true true ≡ true
always true = refl
always false = refl

each_start : (f : Forest) → counts_hold_each [] f ≡ true
unfolding counts_hold_each inside covered
each_start nil = refl
each_start (tree n kids after) = rw (always (is_valid n.count), each_start kids, each_start after)

pub counts-hold-start : (v : Bool) (f : Forest) → counts_hold v [] f ≡ true
unfolding counts_hold covered
counts-hold-start v f = rw (always v, each_start f)

pub matched-start : (f : Forest) → matched [] f ≡ 0
unfolding matched inside
matched-start nil = refl
matched-start (tree n kids after) = omega (arith, matched-start kids, matched-start after)

covered-append : (s t : List (List ℕ)) (f : Forest) → covered (s ++ t) f ≡ (covered s f && covered t f)
unfolding covered
covered-append [] t f = refl
covered-append (x ∷ s) t f = rw (covered-append s t f) (sym (and_assoc (lacks 47 x || reached x f) (covered s f) (covered t f)))

-- a name that is under no sibling
module _ (done : List (List ℕ)) (s : List ℕ) (f : Forest) (free : reached s f ≡ false) where
  each-pass : counts_hold_each (done ++ (s ∷ [])) f ≡ counts_hold_each done f
  each-pass = each_over (done ++ (s ∷ [])) f ∙ over-pass ◌&&◌ true counts_hold_one done s f free ∙ sym (each_over done f)

  pub matched-pass : matched (done ++ (s ∷ [])) f ≡ matched done f
  matched-pass = matched-over (done ++ (s ∷ [])) f ∙ over-pass ◌+◌ 0 matched_one done s f free ∙ sym (matched-over done f)

  pub counts-hold-pass : (v : Bool) → counts_hold v (done ++ (s ∷ [])) f ≡ (counts_hold v done f && (lacks 47 s || not v))
  unfolding counts_hold covered
  counts-hold-pass v = rw (covered-append done (s ∷ []) f, free, each-pass) (go v (lacks 47 s))
    where
      go : (v l : Bool)
          → (cond v (covered done f && ((l || false) && true)) true && counts_hold_each done f) ≡ ((cond v (covered done f) true && counts_hold_each done f) && (l || not v))
      go true true = rw (and-true (covered done f), and-true (covered done f && counts_hold_each done f))
      go true false = rw (and-false (covered done f), and-false (covered done f && counts_hold_each done f))
      go false true = sym (and-true (counts_hold_each done f))
      go false false = sym (and-true (counts_hold_each done f))

-- a name with no further "/" is one
module _ (done : List (List ℕ)) (s : List ℕ) (f : Forest) (file : lacks 47 s ≡ true) where
  pub counts-hold-file : (v : Bool) → counts_hold v (done ++ (s ∷ [])) f ≡ counts_hold v done f
  counts-hold-file v = counts-hold-pass done s f (file-unreached s f file) v ∙ rw file (and-true (counts_hold v done f))

  pub matched-file : matched (done ++ (s ∷ [])) f ≡ matched done f
  matched-file = matched-pass done s f (file-unreached s f file)

-- a run of names under one component, where a sibling has that name and where none has
counts_hold_one-none : (k : Count) (kids : Forest) → counts_hold_one k [] kids ≡ true
unfolding counts_hold_one
counts_hold_one-none k kids = counts-hold-start (is_valid k) kids

matched_one-none : (k : Count) (kids : Forest) → matched_one k [] kids ≡ 0
unfolding matched_one
matched_one-none k kids = zero-add (matched [] kids) ∙ matched-start kids

counts_hold_one-some : (k : Count) (names : List (List ℕ)) (kids : Forest) → 1 ≤ length names
    → counts_hold_one k names kids ≡ (says k (length names) && counts_hold (is_valid k) names kids)
unfolding counts_hold_one
counts_hold_one-some k [] kids h = absurd (omega arith)
counts_hold_one-some k (s ∷ ss) kids h = refl

matched_one-some : (k : Count) (names : List (List ℕ)) (kids : Forest) → 1 ≤ length names → matched_one k names kids ≡ weight k + matched names kids
unfolding matched_one
matched_one-some k [] kids h = absurd (omega arith)
matched_one-some k (s ∷ ss) kids h = refl

run-covered : (c : List ℕ) (ss : List (List ℕ)) (f : Forest) (t : Tree) → every (under c) ss ≡ true → child c f ≡ some t → covered ss f ≡ true
unfolding every covered
run-covered c [] f t h e = refl
run-covered c (s ∷ ss) f t h e =
    let i = and-inv (under c s) (every (under c) ss) h in
    rw (under-slash c s i.0, has-reached c s f (child-some c f t e) i.0) (run-covered c ss f t i.1 e)

module _ (c : List ℕ) (done run : List (List ℕ)) (f : Forest) (r : Run c done run) (h : SoundForest f) where
  some-inside : 1 ≤ length (inside c run)
  some-inside = rw (inside-length c run r.all) r.some

  each-found : (t : Tree) → child c f ≡ some t
      → counts_hold_each (done ++ run) f
      ≡ (counts_hold_each done f && (says t.root.count (length run) && counts_hold (is_valid t.root.count) (inside c run) t.subtrees))
  each-found t e =
      each_over (done ++ run) f
      ∙ over-found ◌&&◌ true counts_hold_one counts_hold_one-none (λ x. refl) and_comm and_assoc c done run r f t h e
      ∙ ap₂ ◌&&◌ (sym (each_over done f))
      (counts_hold_one-some t.root.count (inside c run) t.subtrees some-inside ∙ rw (inside-length c run r.all))

  pub counts-hold-found : (v : Bool) (t : Tree) → child c f ≡ some t
      → counts_hold v (done ++ run) f
      ≡ (counts_hold v done f && (says t.root.count (length run) && counts_hold (is_valid t.root.count) (inside c run) t.subtrees))
  unfolding counts_hold
  counts-hold-found v t e =
      rw (covered-append done run f, run-covered c run f t r.all e, and-true (covered done f), each-found t e)
      (sym (and_assoc (cond v (covered done f) true) (counts_hold_each done f) _))

  pub matched-found : (t : Tree) → child c f ≡ some t
      → matched (done ++ run) f ≡ matched done f + (weight t.root.count + matched (inside c run) t.subtrees)
  matched-found t e =
      matched-over (done ++ run) f
      ∙ over-found ◌+◌ 0 matched_one matched_one-none zero-add add_comm add_assoc c done run r f t h e
      ∙ ap₂ ◌+◌ (sym (matched-over done f)) (matched_one-some t.root.count (inside c run) t.subtrees some-inside)
