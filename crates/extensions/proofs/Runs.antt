-- The extensions one after another: those that have been read are in front of the rest.
use mathlib.Core.Path.{◌≡◌, refl, sym, ap, ◌∙◌}
use mathlib.Core.List.{List, [], ◌∷◌, ◌++◌, append-nil}
use mathlib.Core.Bool.{true}
use mathlib.Core.Option.{Option, none, some}
use Prim.Native.Nat.{ℕ, ◌+◌, ◌-◌, ◌≤◌, ◌<◌}
use native.Mathlib.Omega.{arith}
use lib.ListN.{length, take, drop, length-drop, drop_of_length-le}
use lib.Seq.{drop-drop}
use Rattle.format.specs.Bytes.{eq_list}
use Rattle.format.specs.Records.{Tree, Undo}
use Rattle.format.specs.Layout.{Extension, cache_tree, resolve_undo, other, TREE, REUC, Says, trees, undos}
use Rattle.format.specs.Reading.{bad, good, bind}
use Rattle.format.specs.Reader.{Seen, none_seen, also_seen, read_extension, first}
use Rattle.format_laws.proofs.Tests.{false-true}
use Rattle.format_laws.proofs.Readings.{none-some, in_front, front-none, front-one, front-front}
use Rattle.spelling.proofs.Extensions.{extension-data, extensions_of, extensions_of-end, extensions_of-step}
use Rattle.std.specs.Prelude as Code
use Rattle.std.specs.Prelude.{Some, None, is_some, IfSome}
use Rattle.extensions.specs.declared.Place.{Place}
use Rattle.extensions.specs.declared.Found.{Found}
use Rattle.extensions.specs.Heads.{Inside}
use Rattle.extensions.specs.Found.{TreeFound, UndoFound, seen_of}
use Rattle.extensions.specs.Steps.{Added}
use Rattle.extensions.proofs.Places.{start_or, Seeks, seeks-none, seeks-more}

-- ---- the trees and the resolve-undo lists of two lists of extensions

trees-append : (xs ys : List Extension) → trees (xs ++ ys) ≡ trees xs ++ trees ys
unfolding trees
trees-append [] ys = refl
trees-append (cache_tree t ∷ xs) ys = ap (λ l. t ∷ l) (trees-append xs ys)
trees-append (resolve_undo us ∷ xs) ys = trees-append xs ys
trees-append (other s d ∷ xs) ys = trees-append xs ys

undos-append : (xs ys : List Extension) → undos (xs ++ ys) ≡ undos xs ++ undos ys
unfolding undos
undos-append [] ys = refl
undos-append (cache_tree t ∷ xs) ys = undos-append xs ys
undos-append (resolve_undo us ∷ xs) ys = ap (λ l. us ∷ l) (undos-append xs ys)
undos-append (other s d ∷ xs) ys = undos-append xs ys

first-last : {A : Type 0} (l : List A) (a : A) → first l ≡ none → first (l ++ (a ∷ [])) ≡ some a
first-last [] a e = refl
first-last (b ∷ l) a e = none-some (sym e)

-- ---- what was found, with one extension more

module _ (w : ℕ) (b : List ℕ) where
  tree-there : (t : Tree) (f : Code.Option Place) → TreeFound w b (some t) f → is_some f ≡ true
  tree-there t None h = absurd h
  tree-there t (Some f) h = refl

  undo-there : (us : List Undo) (f : Code.Option Place) → UndoFound w b (some us) f → is_some f ≡ true
  undo-there us None h = absurd h
  undo-there us (Some f) h = refl

  no-tree : (o : Option Tree) (f : Code.Option Place) → TreeFound w b o f → f ≡ None → o ≡ none
  no-tree none f h e = refl
  no-tree (some t) f h e = absurd (rw e at h)

  no-undo : (o : Option (List Undo)) (f : Code.Option Place) → UndoFound w b o f → f ≡ None → o ≡ none
  no-undo none f h e = refl
  no-undo (some us) f h e = absurd (rw e at h)

  -- the place of what was found
  at-place : (f : Code.Option Place) (n m : ℕ) → is_some f ≡ true → IfSome f (λ p. p.at ≡ n) → n ≡ start_or f m
  at-place None n m e h = false-true e
  at-place (Some f) n m e h = sym h

module _ (w : ℕ) (b : List ℕ) (place : ℕ) (found f : Found) where
  seen-added : (e : Extension) → Added w b place found f e → seen_of f ≡ also_seen e (seen_of found)
  seen-added (cache_tree t) (new, is, here, same) = rw (same, tree-there w b t f.tree is)
  seen-added (resolve_undo us) (new, is, here, same) = rw (same, undo-there w b us f.undo is)
  seen-added (other s d) same = rw same

  module _ (xs : List Extension) where
    tree-found : (e : Extension) → TreeFound w b (first (trees xs)) found.tree → Added w b place found f e → TreeFound w b (first (trees (xs ++ (e ∷ [])))) f.tree
    unfolding trees
    tree-found (cache_tree t) h (new, is, here, same) = rw (trees-append xs (cache_tree t ∷ []), first-last (trees xs) t (no-tree w b (first (trees xs)) found.tree h new)) is
    tree-found (resolve_undo us) h (new, is, here, same) = rw (trees-append xs (resolve_undo us ∷ []), append-nil (trees xs), same) h
    tree-found (other s d) h same = rw (trees-append xs (other s d ∷ []), append-nil (trees xs), same) h

    undo-found : (e : Extension) → UndoFound w b (first (undos xs)) found.undo → Added w b place found f e → UndoFound w b (first (undos (xs ++ (e ∷ [])))) f.undo
    unfolding undos
    undo-found (cache_tree t) h (new, is, here, same) = rw (undos-append xs (cache_tree t ∷ []), append-nil (undos xs), same) h
    undo-found (resolve_undo us) h (new, is, here, same) = rw (undos-append xs (resolve_undo us ∷ []), first-last (undos xs) us (no-undo w b (first (undos xs)) found.undo h new)) is
    undo-found (other s d) h same = rw (undos-append xs (other s d ∷ []), append-nil (undos xs), same) h

  -- the signature in front tells the kind; ns and d are any
  module _ (ns : List (List ℕ)) (d : List ℕ) (at next : ℕ) (inside : Inside b place next) where
    tree-sought : (e : Extension) → Says w ns e (take 4 (drop place b)) d → Added w b place found f e
        → Seeks TREE b at place found.tree → Seeks TREE b at next f.tree
    unfolding eq_list
    tree-sought (cache_tree t) says (new, is, here, same) h = seeks-more TREE b at place _ h next _ inside λ rest. rw (new, says.0) (at-place w b f.tree _ rest (tree-there w b t f.tree is) here)
    tree-sought (resolve_undo us) says (new, is, here, same) h = seeks-more TREE b at place _ h next _ inside λ rest. rw (says.0, same)
    tree-sought (other s c) says same h = seeks-more TREE b at place _ h next _ inside λ rest. rw (says.4, same)

    undo-sought : (e : Extension) → Says w ns e (take 4 (drop place b)) d → Added w b place found f e
        → Seeks REUC b at place found.undo → Seeks REUC b at next f.undo
    unfolding eq_list
    undo-sought (cache_tree t) says (new, is, here, same) h = seeks-more REUC b at place _ h next _ inside λ rest. rw (says.0, same)
    undo-sought (resolve_undo us) says (new, is, here, same) h = seeks-more REUC b at place _ h next _ inside λ rest. rw (new, says.0) (at-place w b f.undo _ rest (undo-there w b us f.undo is) here)
    undo-sought (other s c) says same h = seeks-more REUC b at place _ h next _ inside λ rest. rw (says.5, same)

-- ---- one reading after another

module _ (w : ℕ) (ns : List (List ℕ)) (k : Seen) (p : ℕ) (s : List ℕ) (some : 1 ≤ length s) where
  step-bad : (n q : ℕ) → read_extension w ns k p s ≡ bad n q → extensions_of w ns k p s ≡ bad n q
  unfolding bind
  step-bad n q e = extensions_of-step w ns k p s some ∙ rw e

  step-good : (x : Extension) (m : ℕ) → read_extension w ns k p s ≡ good x m
      → extensions_of w ns k p s ≡ in_front (x ∷ []) m (extensions_of w ns (also_seen x k) (p + m) (drop m s))
  unfolding bind
  step-good x m e = extensions_of-step w ns k p s some ∙ rw e (front-one x m (extensions_of w ns (also_seen x k) (p + m) (drop m s)))

-- ---- the loop

-- found is what the extensions from at to place have
pub record Behind (w : ℕ) (b : List ℕ) (ns : List (List ℕ)) (at place : ℕ) (found : Found) : Type 0 where
  pub list : List Extension
  pub order : at ≤ place
  pub whole : extensions_of w ns none_seen at (drop at b) ≡ in_front list (place - at) (extensions_of w ns (seen_of found) place (drop place b))
  pub tree : TreeFound w b (first (trees list)) found.tree
  pub undo : UndoFound w b (first (undos list)) found.undo
  pub tree_at : Seeks TREE b at place found.tree
  pub undo_at : Seeks REUC b at place found.undo

module _ (w : ℕ) (b : List ℕ) (ns : List (List ℕ)) (at : ℕ) where
  pub behind-none : Behind w b ns at at (record { tree = None; undo = None })
  unfolding trees undos
  behind-none =
      let none : at - at ≡ 0 = omega arith in
      record {
        list = [];
        order = omega arith;
        whole = rw none (sym (front-none _));
        tree = tt;
        undo = tt;
        tree_at = seeks-none TREE b at;
        undo_at = seeks-none REUC b at;
      }

  module _ (place : ℕ) (found : Found) (h : Behind w b ns at place found) where
    pub behind-end : length b ≤ place → place ≤ length b → extensions_of w ns none_seen at (drop at b) ≡ good h.list (length b - at)
    unfolding in_front
    behind-end end inside =
        let o = h.order in
        let size : place - at + 0 ≡ length b - at = omega arith in
        h.whole ∙ rw (drop_of_length-le b end, extensions_of-end, append-nil h.list, size)

    module _ (more : place < length b) where
      left : 1 ≤ length (drop place b)
      left = let l = length-drop place b in omega arith

      pub behind-bad : (n : ℕ) → read_extension w ns (seen_of found) place (drop place b) ≡ bad n place → extensions_of w ns none_seen at (drop at b) ≡ bad n place
      unfolding in_front
      behind-bad n e = h.whole ∙ rw (step-bad w ns (seen_of found) place (drop place b) left n place e)

      pub behind_more : (next : ℕ) (f : Found) (e : Extension) → Inside b place next → read_extension w ns (seen_of found) place (drop place b) ≡ good e (next - place)
          → Added w b place found f e → Behind w b ns at next f
      behind_more next f e inside reads added =
          let o = h.order in
          let says = (extension-data w ns (seen_of found) place (drop place b) e (next - place) reads).2 in
          let there : place + (next - place) ≡ next = omega arith in
          let size : place - at + (next - place) ≡ next - at = omega arith in
          record {
            list = h.list ++ (e ∷ []);
            order = omega arith;
            whole =
                h.whole
                ∙ rw (
                  step-good w ns (seen_of found) place (drop place b) left e (next - place) reads,
                  ← (seen-added w b place found f e added),
                  drop-drop (next - place) place b,
                  there,
                  front-front h.list (e ∷ []) (place - at) (next - place),
                  size,
                );
            tree = tree-found w b place found f h.list e h.tree added;
            undo = undo-found w b place found f h.list e h.undo added;
            tree_at = tree-sought w b place found f ns _ at next inside e says added h.tree_at;
            undo_at = undo-sought w b place found f ns _ at next inside e says added h.undo_at;
          }
