-- Laws of the names of siblings, one after another. w is the width of an object name.
use mathlib.Core.Path.{◌≡◌, refl, sym, ap, ◌∙◌}
use mathlib.Core.List.{List, [], ◌∷◌}
use mathlib.Core.Bool.{Bool, true, false, ◌&&◌, true≢false}
use borrow.Author.Tests.{eq-eqb, ne_eqb}
use Prim.Native.Nat.{ℕ, zero, suc, ◌+◌, ◌-◌, ◌≤◌, ◌<◌}
use native.Mathlib.Omega.{arith}
use lib.ListN.{drop}
use lib.Seq.{drop-drop}
use Rattle.format.specs.Bytes.{eq_list}
use Rattle.tree_nodes.specs.Flat.{trees_length, name_of, rest_of, names_of, has_name, names_differ}
use Rattle.cache_tree.specs.Orders.{name_below, rises_from, still_rises}
use Rattle.cache_tree.proofs.Below.{rises-differ}

pub rest_at : (w : ℕ) (d : List ℕ) (a r : ℕ) → r ≡ a + trees_length w 1 (drop a d) → drop r d ≡ rest_of w (drop a d)
unfolding rest_of
rest_at w d a r is = ap (λ (n : ℕ). drop n d) is ∙ sym (drop-drop (trees_length w 1 (drop a d)) a d)

pub names-none : (w k : ℕ) (s : List ℕ) → k ≤ 0 → names_of w k s ≡ []
unfolding names_of
names-none w k s h = let z : k ≡ 0 = omega arith in rw z

pub names_more : (w k : ℕ) (s : List ℕ) → 0 < k → names_of w k s ≡ name_of s ∷ names_of w (k - 1) (rest_of w s)
unfolding names_of
names_more w zero s h = absurd (omega arith)
names_more w (suc k) s h = let e : suc k - 1 ≡ k = omega arith in rw e

-- ---- the names from a place on; r is the place after the first tree

module _ (w : ℕ) (x d : List ℕ) (a k : ℕ) where
  pub has-none : k ≤ 0 → has_name x (names_of w k (drop a d)) ≡ false
  unfolding has_name
  has-none h = rw (names-none w k (drop a d) h)

  module _ (some : 0 < k) where
    pub has_first : eq_list x (name_of (drop a d)) ≡ true → has_name x (names_of w k (drop a d)) ≡ true
    unfolding has_name
    has_first e = rw (names_more w k (drop a d) some, e)

    pub has-later : (r : ℕ) → r ≡ a + trees_length w 1 (drop a d) → eq_list x (name_of (drop a d)) ≡ false → has_name x (names_of w k (drop a d)) ≡ has_name x (names_of w (k - 1) (drop r d))
    unfolding has_name
    has-later r is e = rw (names_more w k (drop a d) some, e, rest_at w d a r is)

module _ (w : ℕ) (b : Bool) (x d : List ℕ) (a k : ℕ) where
  rises-none : k ≤ 0 → rises_from b x (names_of w k (drop a d)) ≡ true
  unfolding rises_from
  rises-none h = rw (names-none w k (drop a d) h)

  rises-more : 0 < k → (r : ℕ) → r ≡ a + trees_length w 1 (drop a d) → name_below b x (name_of (drop a d)) ≡ true
      → rises_from b x (names_of w k (drop a d)) ≡ rises_from b (name_of (drop a d)) (names_of w (k - 1) (drop r d))
  unfolding rises_from
  rises-more some r is e = rw (names_more w k (drop a d) some, e, rest_at w d a r is)

module _ (w : ℕ) (d : List ℕ) (a k : ℕ) where
  pub differ-none : k ≤ 0 → names_differ (names_of w k (drop a d)) ≡ true
  unfolding names_differ
  differ-none h = rw (names-none w k (drop a d) h)

  differ-rising : 0 < k → (r : ℕ) → r ≡ a + trees_length w 1 (drop a d) → (b : Bool) → rises_from b (name_of (drop a d)) (names_of w (k - 1) (drop r d)) ≡ true → names_differ (names_of w k (drop a d)) ≡ true
  differ-rising some r is b e = rw (names_more w k (drop a d) some, ← (rest_at w d a r is)) (rises-differ b (name_of (drop a d)) (names_of w (k - 1) (drop r d)) e)

-- ---- siblings that are read one after another, and whether they rise

-- Rises w b d at k previous place left rises: of the k siblings at a place, the one at `previous` was read last, and `left` are from `place` on. Where
-- names rise so far, all differ if those that are left rise too
pub data Rises (w : ℕ) (b : Bool) (d : List ℕ) (at k : ℕ) : ℕ → ℕ → ℕ → Bool → Type 0 where
  at_first : {rises : Bool} → Rises w b d at k at at k rises
  later :
      {previous place left : ℕ} {rises : Bool} →
      previous < place →
      (rises ≡ true → rises_from b (name_of (drop previous d)) (names_of w left (drop place d)) ≡ true → names_differ (names_of w k (drop at d)) ≡ true) →
      Rises w b d at k previous place left rises

module _ (b : Bool) (d : List ℕ) (x y : ℕ) (so_far : Bool) where
  pub still-same : x ≡ y → so_far ≡ still_rises b d x y so_far
  unfolding still_rises
  still-same e = rw (eq-eqb x y e)

  pub still-other : (x ≡ y → ⊥) → (below : Bool) → below ≡ name_below b (name_of (drop x d)) (name_of (drop y d)) → (so_far && below) ≡ still_rises b d x y so_far
  unfolding still_rises
  still-other e below is = rw (ne_eqb x y e, is)

still_both : (x y : Bool) → (x && y) ≡ true → (x ≡ true) × (y ≡ true)
still_both true true e = (refl, refl)
still_both true false e = absurd (true≢false (sym e))
still_both false y e = absurd (true≢false (sym e))

module _ (w : ℕ) (b : Bool) (d : List ℕ) (at k : ℕ) where
  still-later : (previous place : ℕ) (rises : Bool) → previous < place → still_rises b d previous place rises ≡ true → (rises ≡ true) × (name_below b (name_of (drop previous d)) (name_of (drop place d)) ≡ true)
  unfolding still_rises
  still-later previous place rises l e = still_both rises _ (rw (ne_eqb previous place (λ i. omega arith)) at e)

  pub rises_next : (previous place left next : ℕ) (rises then : Bool) → Rises w b d at k previous place left rises → 0 < left → place < next
      → next ≡ place + trees_length w 1 (drop place d) → then ≡ still_rises b d previous place rises → Rises w b d at k place next (left - 1) then
  rises_next _ _ _ next rises then at_first some more is e = later more (λ f q. differ-rising w d at k some next is b q)
  rises_next previous place left next rises then (later less so_far) some more is e =
      later more λ f q.
      let i = still-later previous place rises less (sym e ∙ f) in
      so_far i.0 (rises-more w b (name_of (drop previous d)) d place left some next is i.1 ∙ q)

  pub rises-all : (previous place left : ℕ) (rises : Bool) → Rises w b d at k previous place left rises → left ≤ 0 → rises ≡ true → names_differ (names_of w k (drop at d)) ≡ true
  rises-all _ _ _ rises at_first none e = differ-none w d at k none
  rises-all previous place left rises (later less so_far) none e = so_far e (rises-none w b (name_of (drop previous d)) d place left none)
