-- Laws of one step of a walk and of many, for any width and any kind.
use mathlib.Core.Path.{◌≡◌, refl, sym, ap, ◌∙◌}
use mathlib.Core.List.{List, [], ◌∷◌, map}
use mathlib.Core.Bool.{true, false, ◌||◌}
use Prim.Native.Nat.{ℕ, zero, suc, ◌+◌, ◌-◌, ◌≤◌}
use native.Mathlib.Nat.{add-zero}
use native.Mathlib.Omega.{arith}
use lib.ListN.{length, take, drop, get_elem?}
use lib.Seq.{drop-drop}
use lib.Dec.{eqb, leb, ltb}
use borrow.Author.Tests.{ne_eqb, eqb-true, lt-ltb, leb-true}
use Rattle.format.specs.Bytes.{be32, eq_list}
use Rattle.format.specs.Records.{Entry, Key, key_of, start}
use Rattle.format.specs.Layout.{DIRC}
use Rattle.format.specs.Reading.{Read, good, bad, need, shift, bind}
use Rattle.format.specs.Reader.{read_entry, read_entries}
use Rattle.format.specs.Places.{body_in, taken, entry_place, name_place, entry_name_place}
use Rattle.format_laws.proofs.Tests.{and-inv₃, or-inv}
use Rattle.format_laws.proofs.Readings.{good-inv, bind_inv, same_size}
use Rattle.kinds.specs.Kinds.{ok_kind, width_of}
use Rattle.kinds.proofs.Laws.{known_read, unknown-refused}
use Rattle.answers.specs.Answers.{View, in_file, pick}
use Rattle.walk.specs.declared.Place.{Place}
use Rattle.walk.specs.Walks.{place_at, walkable, or18, walk_read, step_read, view_in, walk_answer, place_after, place_after_all, walk_over}
use Rattle.walk.proofs.Plain.{any-key}

-- ---- a header of version 2 or 3

module _ (w : ℕ) (f : List ℕ) (ok : walkable w f ≡ true) where
  tests : (leb (12 + w) (length f) ≡ true) × (eq_list (take 4 f) DIRC ≡ true) × ((eqb (be32 f 4) 2 || eqb (be32 f 4) 3) ≡ true)
  unfolding walkable
  tests = and-inv₃ (leb (12 + w) (length f)) (eq_list (take 4 f) DIRC) (eqb (be32 f 4) 2 || eqb (be32 f 4) 3) ok

  pub walkable-long : 12 + w ≤ length f
  walkable-long = leb-true (12 + w) (length f) tests.0

  pub walkable-old : eqb (be32 f 4) 4 ≡ false
  walkable-old =
      or-inv (eqb (be32 f 4) 2) (eqb (be32 f 4) 3) tests.2
      (λ two. ne_eqb (be32 f 4) 4 (λ four. omega (arith, eqb-true (be32 f 4) 2 two)))
      (λ three. ne_eqb (be32 f 4) 4 (λ four. omega (arith, eqb-true (be32 f 4) 3 three)))

-- ---- one step

pub walk-on : (w : ℕ) (f : List ℕ) (at left : ℕ) → ltb 0 left ≡ true → walkable w f ≡ true → walk_read w f at left ≡ or18 (read_entry w (be32 f 4) start at (drop at (body_in w f)))
unfolding walk_read need
walk-on w f at left more ok = rw (more, ok)

module _ (kind : ℕ) (f : List ℕ) (at : ℕ) where
  module _ (left : ℕ) where
    -- of a known kind the file is read, any other refuses
    pub step-known : ok_kind kind ≡ true → step_read kind f at left ≡ walk_read (width_of kind) f at left
    unfolding step_read
    step-known known = known_read kind (walk_read (width_of kind) f at left) known

    pub step-unknown : ok_kind kind ≡ false → step_read kind f at left ≡ bad 29 0
    unfolding step_read
    step-unknown unknown = unknown-refused kind (walk_read (width_of kind) f at left) unknown

    pub view-is : (x : Read Entry) → step_read kind f at left ≡ x → walk_answer kind f at left ≡ view_in x
    unfolding walk_answer
    view-is x e = ap view_in e

    pub place_is : (x : Read Entry) → step_read kind f at left ≡ x → place_after kind f at left ≡ place_at (at + taken x) (left - 1)
    unfolding place_after
    place_is x e = rw e

  after_more : (left k : ℕ) (p : Place) → place_after kind f at left ≡ p → place_after_all kind f (suc k) (place_at at left) ≡ place_after_all kind f k p
  unfolding place_after_all
  after_more left k p e = ap (place_after_all kind f k) e

  -- none remain
  module _ (known : ok_kind kind ≡ true) where
    step-none : step_read kind f at 0 ≡ bad 18 0
    unfolding walk_read need
    step-none = step-known 0 known

    stays : place_after kind f at 0 ≡ place_at at 0
    stays = place_is 0 _ step-none ∙ rw (add-zero at)

    stays_all : (k : ℕ) → place_after_all kind f k (place_at at 0) ≡ place_at at 0
    unfolding place_after_all
    stays_all zero = refl
    stays_all (suc k) = rw stays (stays_all k)

-- ---- the entries that remain are read well

module _ (kind : ℕ) (known : ok_kind kind ≡ true) (f : List ℕ) (ok : walkable (width_of kind) f ≡ true) where
  -- so the next one is seen, and the others after it
  next-entry : {X : Type 0} (n : ℕ) (k : Key) (at : ℕ) (es : List Entry) (m : ℕ) → read_entries (width_of kind) (be32 f 4) (suc n) k at (drop at (body_in (width_of kind) f)) ≡ good es m
      → ((e : Entry) (i : ℕ) (fs : List Entry) (j : ℕ) → e ∷ fs ≡ es → read_entry (width_of kind) (be32 f 4) k at (drop at (body_in (width_of kind) f)) ≡ good e i
      → step_read kind f at (suc n) ≡ good e i → read_entries (width_of kind) (be32 f 4) n (key_of e) (at + i) (drop (at + i) (body_in (width_of kind) f)) ≡ good fs j → X) → X
  unfolding read_entries
  next-entry n k at es m q g =
      bind_inv _ _ _ _ q λ e i j q₁ q₂ m-is.
      bind_inv _ _ _ _ q₂ λ fs c d q₃ q₄ j-is.
      good-inv _ _ _ _ q₄ λ es-is d-is.
      g e i fs c es-is q₁
      (step-known kind f at (suc n) known ∙ walk-on (width_of kind) f at (suc n) (lt-ltb 0 (suc n) (omega arith)) ok ∙ ap or18 (any-key (width_of kind) (be32 f 4) at (walkable-old (width_of kind) f ok) k (drop at (body_in (width_of kind) f)) e i q₁))
      (rw drop-drop at q₃)

  moves : (at n i : ℕ) (e : Entry) → step_read kind f at (suc n) ≡ good e i → place_after kind f at (suc n) ≡ place_at (at + i) n
  moves at n i e q = let less : suc n - 1 ≡ n = omega arith in place_is kind f at (suc n) _ q ∙ rw less

  -- step k shows entry k
  pub steps-show : (n : ℕ) (key : Key) (at : ℕ) (es : List Entry) (m : ℕ) → read_entries (width_of kind) (be32 f 4) n key at (drop at (body_in (width_of kind) f)) ≡ good es m
      → (k : ℕ) → let p : Place = place_after_all kind f k (place_at at n) in walk_answer kind f p.at p.left ≡ pick false (get_elem? es k)
  unfolding read_entries
  steps-show zero key at es m q k =
      good-inv _ _ _ _ q λ es-is m-is. rw (← es-is, stays_all kind f at known k) (view-is kind f at 0 _ (step-none kind f at known))
  steps-show (suc n) key at es m q zero =
      next-entry n key at es m q λ e i fs j es-is reads is rest. unfold place_after_all in rw (← es-is) (view-is kind f at (suc n) _ is)
  steps-show (suc n) key at es m q (suc k) =
      next-entry n key at es m q λ e i fs j es-is reads is rest.
      rw (← es-is, after_more kind f at (suc n) k _ (moves at n i e is)) (steps-show n (key_of e) (at + i) fs j rest k)

  -- step k is at entry k
  more-taken : (k : ℕ) (key : Key) (at i : ℕ) (e : Entry) (es : List Entry) (j : ℕ) → read_entry (width_of kind) (be32 f 4) key at (drop at (body_in (width_of kind) f)) ≡ good e i
      → read_entries (width_of kind) (be32 f 4) k (key_of e) (at + i) (drop (at + i) (body_in (width_of kind) f)) ≡ good es j
      → read_entries (width_of kind) (be32 f 4) (suc k) key at (drop at (body_in (width_of kind) f)) ≡ good (e ∷ es) (i + j)
  unfolding read_entries bind shift
  more-taken k key at i e es j q r = rw (q, drop-drop i at (body_in (width_of kind) f), r) (same_size (omega arith))

  steps-place : (n : ℕ) (key : Key) (at : ℕ) (es : List Entry) (m : ℕ) → read_entries (width_of kind) (be32 f 4) n key at (drop at (body_in (width_of kind) f)) ≡ good es m
      → (k : ℕ) → k ≤ n
      → (fs : List Entry) × (j : ℕ) × (read_entries (width_of kind) (be32 f 4) k key at (drop at (body_in (width_of kind) f)) ≡ good fs j) × ((place_after_all kind f k (place_at at n)).at ≡ at + j)
  unfolding place_after_all read_entries
  steps-place n key at es m q zero few = ([], 0, refl, sym (add-zero at))
  steps-place zero key at es m q (suc k) few = absurd (omega arith)
  steps-place (suc n) key at es m q (suc k) few =
      next-entry n key at es m q λ e i gs j es-is reads is rest.
      let (fs, o, r, p) = steps-place n (key_of e) (at + i) gs j rest k (omega arith) in
      (e ∷ fs, i + o, more-taken k key at i e fs o reads r, ap (λ (x : Place). (place_after_all kind f k x).at) (moves at n i e is) ∙ p ∙ omega arith)

  -- so the name that it shows is where entry k has it
  pub steps-named : (n : ℕ) (es : List Entry) (m : ℕ) → read_entries (width_of kind) (be32 f 4) n start 12 (drop 12 (body_in (width_of kind) f)) ≡ good es m
      → (k : ℕ) → k ≤ n → name_place (width_of kind) (place_after_all kind f k (place_at 12 n)).at (body_in (width_of kind) f) ≡ entry_name_place (width_of kind) k f
  unfolding entry_name_place entry_place
  steps-named n es m q k few =
      let (fs, j, reads, place) = steps-place n start 12 es m q k few in
      ap (λ (p : ℕ). name_place (width_of kind) p (body_in (width_of kind) f)) (place ∙ ap (λ (x : Read (List Entry)). 12 + taken x) (sym reads))

  -- and n steps show them all
  pub steps-show-all : (n : ℕ) (key : Key) (at : ℕ) (es : List Entry) (m : ℕ) → read_entries (width_of kind) (be32 f 4) n key at (drop at (body_in (width_of kind) f)) ≡ good es m
      → walk_over kind f n (place_at at n) ≡ map in_file es
  unfolding read_entries walk_over
  steps-show-all zero key at es m q = good-inv _ _ _ _ q λ es-is m-is. rw (← es-is)
  steps-show-all (suc n) key at es m q =
      next-entry n key at es m q λ e i fs j es-is reads is rest.
      rw (← es-is, moves at n i e is, view-is kind f at (suc n) _ is) (ap (λ (l : List (View Entry)). in_file e ∷ l) (steps-show-all n (key_of e) (at + i) fs j rest))
