-- Laws of siblings in the data: the first of them, and the search for one by its name. w is the width of an object name.
use mathlib.Core.Path.{◌≡◌, refl, sym, ap, subst, ◌∙◌}
use mathlib.Core.List.{List, []}
use mathlib.Core.Bool.{true, false, not}
use mathlib.Core.Option.{none, some}
use Prim.Native.Nat.{ℕ, ◌+◌, ◌-◌, ◌≤◌, ◌<◌}
use native.Mathlib.Omega.{arith}
use lib.ListN.{drop}
use lib.Seq.{drop-drop}
use borrow.Author.Tests.{not-true}
use Rattle.format.specs.Bytes.{eq_list}
use Rattle.format.specs.Records.{Node, Forest, nil, tree, Tree}
use Rattle.format.specs.Layout.{has, distinct}
use Rattle.tree_counts.specs.Counts.{child}
use Rattle.format_laws.proofs.Tests.{clash, by-test, and-inv₃}
use Rattle.format_laws.proofs.Lists.{eq_list-true}
use Rattle.format_laws.proofs.Readings.{none-some}
use Rattle.tree_counts.proofs.Walk.{child-some}
use Rattle.tree_nodes.specs.Flat.{trees_length, name_of, Reads, reads_none, reads_more}
use Rattle.tree_search.specs.Siblings.{Last, FoundAt}
use Rattle.tree_nodes.proofs.Trees.{First, reads_first, reads-empty, first-length, first-named}

-- ---- a search by name

module _ (name : List ℕ) (n : Node) (kids after : Forest) where
  child-here : eq_list name n.name ≡ true → child name (tree n kids after) ≡ some (record { root = n; subtrees = kids })
  unfolding child
  child-here e = rw e

  child-on : eq_list name n.name ≡ false → child name (tree n kids after) ≡ child name after
  unfolding child
  child-on e = rw e

  distinct-parts : distinct (tree n kids after) ≡ true → (has n.name after ≡ false) × (distinct after ≡ true)
  unfolding distinct
  distinct-parts d = let i = and-inv₃ (not (has n.name after)) (distinct kids) (distinct after) d in (not-true _ i.0, i.2)

  distinct-kids : distinct (tree n kids after) ≡ true → distinct kids ≡ true
  unfolding distinct
  distinct-kids d = (and-inv₃ (not (has n.name after)) (distinct kids) (distinct after) d).1

  -- what the first alone is found by, all are
  child-one : (t : Tree) → child name (tree n kids nil) ≡ some t → child name (tree n kids after) ≡ some t
  unfolding child
  child-one t e = by-test (eq_list name n.name) (λ q. rw q (rw q at e)) (λ q. none-some (rw q at e))

  -- what is found after the first of siblings that differ is found from it on
  child-after : (t : Tree) → distinct (tree n kids after) ≡ true → child name after ≡ some t → child name (tree n kids after) ≡ some t
  child-after t d e =
      by-test (eq_list name n.name)
      (λ q. clash (child-some name after t e) (ap (λ (x : List ℕ). has x after) (eq_list-true name n.name q) ∙ (distinct-parts d).0))
      (λ q. child-on q ∙ e)

pub child-none : (name : List ℕ) → child name nil ≡ none
unfolding child
child-none name = refl

module _ (d : List ℕ) (f : Forest) where
  pub last-all : {w : ℕ} (at k m : ℕ) → distinct f ≡ true → Reads w (drop at d) f k m → Last w d f at k
  last-all at k m differ r = record { siblings = f; taken = m; reads = r; differ = differ; part = λ name t e. e }

  module _ {w : ℕ} (place left : ℕ) (l : Last w d f place left) (some_left : 0 < left) where
    first_of : First w (drop place d) l.siblings left
    first_of = reads_first _ _ _ _ l.reads some_left

    next-is : (next : ℕ) → next ≡ place + trees_length w 1 (drop place d) → drop first_of.below (drop first_of.own (drop place d)) ≡ drop next d
    next-is next is =
        let e : place + (first_of.own + first_of.below) ≡ next = omega (arith, first-length _ _ _ first_of) in
        drop-drop first_of.below first_of.own (drop place d)
        ∙ drop-drop (first_of.own + first_of.below) place d
        ∙ ap (λ (n : ℕ). drop n d) e

    differs : distinct (tree first_of.head.node first_of.kids first_of.after) ≡ true
    differs = ap distinct (sym first_of.is) ∙ l.differ

    pub last-next : (next : ℕ) → next ≡ place + trees_length w 1 (drop place d) → Last w d f next (left - 1)
    last-next next is = record {
      siblings = first_of.after;
      taken = first_of.rest;
      reads = subst (λ (s : List ℕ). Reads w s first_of.after (left - 1) first_of.rest) (next-is next is) first_of.reads_after;
      differ = (distinct-parts [] first_of.head.node first_of.kids first_of.after differs).1;
      part = λ name t e. l.part name t (ap (child name) first_of.is ∙ child-after name first_of.head.node first_of.kids first_of.after t differs e);
    }

    -- the first alone
    pub last_one : Last w d f place 1
    unfolding child distinct has
    last_one = record {
      siblings = tree first_of.head.node first_of.kids nil;
      taken = first_of.own + (first_of.below + 0);
      reads = reads_more first_of.node first_of.reads_kids reads_none;
      differ = one-differs;
      part = λ name t e. l.part name t (ap (child name) first_of.is ∙ child-one name first_of.head.node first_of.kids first_of.after t e);
    }
      where
        one-differs : distinct (tree first_of.head.node first_of.kids nil) ≡ true
        one-differs = rw (distinct-kids [] first_of.head.node first_of.kids first_of.after differs)

    module _ (name : List ℕ) where
      same_name : eq_list name (name_of (drop place d)) ≡ eq_list name first_of.head.node.name
      same_name = ap (eq_list name) (first-named _ _ _ first_of)

      pub last-here : eq_list name (name_of (drop place d)) ≡ true → FoundAt w d f name place
      last-here e = record {
        found = record { root = first_of.head.node; subtrees = first_of.kids };
        is = l.part name _ (ap (child name) first_of.is ∙ child-here name first_of.head.node first_of.kids first_of.after (sym same_name ∙ e));
        tree = record { subtrees = first_of.head.subtrees; own = first_of.own; below = first_of.below; node = first_of.node; kids = first_of.reads_kids };
      }

      pub last_on : eq_list name (name_of (drop place d)) ≡ false → (next : ℕ) (is : next ≡ place + trees_length w 1 (drop place d)) → child name l.siblings ≡ child name (last-next next is).siblings
      unfolding last-next first_of
      last_on e next is = ap (child name) first_of.is ∙ child-on name first_of.head.node first_of.kids first_of.after (sym same_name ∙ e)

-- a search that has come to a place: the name is not before it
pub record Searching (w : ℕ) (d : List ℕ) (f : Forest) (name : List ℕ) (place left : ℕ) : Type 0 where
  pub last : Last w d f place left
  pub same : child name f ≡ child name last.siblings

module _ (d : List ℕ) (f : Forest) (name : List ℕ) where
  pub search-start : {w : ℕ} (at k m : ℕ) → distinct f ≡ true → Reads w (drop at d) f k m → Searching w d f name at k
  unfolding last-all
  search-start at k m differ r = record { last = last-all d f at k m differ r; same = refl }

  module _ {w : ℕ} (place left : ℕ) (x : Searching w d f name place left) where
    pub search-on : 0 < left → eq_list name (name_of (drop place d)) ≡ false → (next : ℕ) → next ≡ place + trees_length w 1 (drop place d) → Searching w d f name next (left - 1)
    search-on l e next is = record { last = last-next d f place left x.last l next is; same = x.same ∙ last_on d f place left x.last l name e next is }

    pub search-end : left ≤ 0 → child name f ≡ none
    search-end l = x.same ∙ ap (child name) (reads-empty _ _ _ _ x.last.reads l) ∙ child-none name
