-- Laws of what a table tells of a name. w is the width of an object name.
use Rattle.std.proofs.Common.{Some, None}
use mathlib.Core.Path.{◌≡◌, sym, subst, ◌∙◌}
use mathlib.Core.List.{List}
use mathlib.Core.Bool.{true, false, not}
use mathlib.Core.Option.{none}
use Prim.Native.Nat.{ℕ, ◌+◌, ◌-◌, ◌≤◌, ◌<◌}
use native.Mathlib.Omega.{arith}
use lib.ListN.{length, get_or, drop}
use lib.Dec.{eqb}
use borrow.Author.Tests.{eqb-true, eqb-false, not-true}
use Rattle.format.specs.Bytes.{eq_list}
use Rattle.format.specs.Records.{Forest, nil}
use Rattle.format.specs.Layout.{distinct}
use Rattle.tree_counts.specs.Counts.{child}
use Rattle.format_laws.proofs.Tests.{and-inv₃}
use Rattle.tree_nodes.specs.Flat.{name_of, Reads}
use Rattle.tree_table.specs.Keys.{key_in, slot_in, is_of}
use Rattle.tree_search.specs.declared.table.Region.{Region}
use Rattle.tree_search.specs.Siblings.{FoundAt, AnswerHolds}
use Rattle.tree_search.specs.Table.{place_at, Inside, PutDown, TableKnown, Known, first_slot, slots_of, list_of}
use Rattle.tree_search.proofs.Siblings.{child-none, last-here}
use Rattle.tree_search.proofs.Places.{has_key, number-for}
use Rattle.tree_search.proofs.Tables.{known-table}

-- it is of the k siblings at a place
module _ (t : List ℕ) (list at k : ℕ) (of : is_of t list at k ≡ true) where
  of_parts : (eqb k 0 ≡ false) × (eqb (get_or t list 0) at ≡ true) × (eqb (get_or t (list + 1) 0) k ≡ true)
  unfolding is_of
  of_parts = let i = and-inv₃ (not (eqb k 0)) (eqb (get_or t list 0) at) (eqb (get_or t (list + 1) 0) k) of in (not-true _ i.0, i.1, i.2)

  pub of-place : get_or t list 0 ≡ at
  of-place = eqb-true _ _ of_parts.1

  pub of_number : get_or t (list + 1) 0 ≡ k
  of_number = eqb-true _ _ of_parts.2

  pub of_some : 1 ≤ get_or t (list + 1) 0
  of_some = let z : k ≡ 0 → ⊥ = eqb-false k 0 of_parts.0 in omega (arith, of_number)

-- its key is in slot i, and all siblings f were put down
module _ {w : ℕ} (from slots : ℕ) (d t : List ℕ) (f : Forest) (put : PutDown w from slots d f t nil) (name : List ℕ) (key i : ℕ) (is_key : key ≡ key_in t name) (is-slot : i ≡ slot_in from slots t key) (there : get_or t i 0 ≡ key) where
  told_none : place_at slots t i ≡ 0 → child name f ≡ none
  told_none e = put.none name (has_key from slots t name key i is_key is-slot there) (sym (number-for from slots t name key i is_key is-slot) ∙ e) ∙ child-none name

  module _ (some-place : 2 ≤ place_at slots t i) where
    told_here : from ≤ i → i < from + slots → eq_list name (name_of (drop (place_at slots t i - 2) d)) ≡ true → FoundAt w d f name (place_at slots t i - 2)
    told_here a b e = last-here d f (place_at slots t i - 2) 1 (put.last i a b some-place) (omega arith) name e

    told-other : eq_list name (name_of (drop (place_at slots t i - 2) d)) ≡ false → child name f ≡ none
    told-other e =
        let n = number-for from slots t name key i is_key is-slot in
        put.one name (has_key from slots t name key i is_key is-slot there) (subst (λ (x : ℕ). 2 ≤ x) n some-place) (subst (λ (x : ℕ). eq_list name (name_of (drop (x - 2) d)) ≡ false) n e)
        ∙ child-none name

-- the number put down for a name's key is right for the k siblings at a place
pub record Tells (w : ℕ) (d : List ℕ) (at k : ℕ) (name : List ℕ) (number : ℕ) : Type 0 where
  pub most : number ≤ length d + 2
  pub least : 2 ≤ number → at + 2 ≤ number
  pub missing : (f : Forest) (m : ℕ) → distinct f ≡ true → Reads w (drop at d) f k m → number ≡ 0 → child name f ≡ none
  pub here : (f : Forest) (m : ℕ) → distinct f ≡ true → Reads w (drop at d) f k m → 2 ≤ number → eq_list name (name_of (drop (number - 2) d)) ≡ true → FoundAt w d f name (number - 2)
  pub other : (f : Forest) (m : ℕ) → distinct f ≡ true → Reads w (drop at d) f k m → 2 ≤ number → eq_list name (name_of (drop (number - 2) d)) ≡ false → child name f ≡ none

-- that of the slot that the key is in
module _ {w : ℕ} (region : Region) (d t : List ℕ) (known : Known w d t) (at k : ℕ) (name : List ℕ) (list from slots key i : ℕ)
    (is-list : list ≡ list_of region) (is-from : from ≡ first_slot region) (is-slots : slots ≡ slots_of region) (of : is_of t list at k ≡ true) where
  table_is : TableKnown w from slots list d t
  table_is = rw (is-list, is-from, is-slots) (known-table region d t known)

  inside_is : Inside from slots d at t
  inside_is = let e = of-place t list at k of in let x = table_is.inside (of_some t list at k of) in rw e at x

  put_is : (f : Forest) (m : ℕ) → distinct f ≡ true → Reads w (drop at d) f k m → PutDown w from slots d f t nil
  put_is f m differ r = table_is.is (of_some t list at k of) f m differ (rw (of-place t list at k of, of_number t list at k of) r)

  pub slot-tells : key ≡ key_in t name → i ≡ slot_in from slots t key → from ≤ i → i < from + slots → get_or t i 0 ≡ key → Tells w d at k name (place_at slots t i)
  slot-tells is_key is-slot least most there = record {
    most = inside_is.most i least most;
    least = inside_is.least i least most;
    missing = λ f m differ r. told_none from slots d t f (put_is f m differ r) name key i is_key is-slot there;
    here = λ f m differ r some. told_here from slots d t f (put_is f m differ r) name key i is_key is-slot there some least most;
    other = λ f m differ r some. told-other from slots d t f (put_is f m differ r) name key i is_key is-slot there some;
  }

module _ {w : ℕ} (d : List ℕ) (at k : ℕ) (name : List ℕ) (number : ℕ) (x : Tells w d at k name number) where
  pub tells_none : at ≤ length d → number ≡ 0 → AnswerHolds w d at k name (Some None)
  tells_none l e = record { least = l; most = omega arith; is = λ f m differ r. x.missing f m differ r e }

  -- the place of one
  module _ (some : 2 ≤ number) (place : ℕ) (is : place ≡ number - 2) where
    pub tells-here : eq_list name (name_of (drop place d)) ≡ true → AnswerHolds w d at k name (Some (Some place))
    tells-here e = record { least = omega (arith, x.least some); most = omega (arith, x.most); is = λ f m differ r. rw is (x.here f m differ r some (rw is at e)) }

    pub tells-other : at ≤ length d → eq_list name (name_of (drop place d)) ≡ false → AnswerHolds w d at k name (Some None)
    tells-other l e = record { least = l; most = omega arith; is = λ f m differ r. x.other f m differ r some (rw is at e) }
