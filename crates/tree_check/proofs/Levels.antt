-- The directories that the walk is in, one for each level: what was passed in each, and the sums up to there.
use Rattle.std.proofs.Common.{None, is_some}
use mathlib.Core.Path.{◌≡◌, sym, ap, subst, ◌∙◌}
use mathlib.Core.List.{List, [], ◌∷◌}
use mathlib.Core.Bool.{Bool, true, ◌&&◌, and_assoc}
use mathlib.Core.Option.{some}
use Prim.Native.Nat.{ℕ, suc, ◌+◌, ◌-◌, ◌≤◌}
use native.Mathlib.Omega.{arith}
use lib.ListN.{length, drop, get_or, set}
use lib.Seq.{get_or-set_other}
use Rattle.format.specs.Bytes.{eq_list, lacks}
use Rattle.format.specs.Records.{Forest, Tree}
use Rattle.format.specs.Layout.{under, is_valid}
use Rattle.format_laws.proofs.Tests.{by-test}
use Rattle.format_laws.proofs.Readings.{none-some}
use Rattle.tree_nodes.specs.Flat.{Reads}
use Rattle.tree_nodes.proofs.Flat.{Levels, levels_none, levels_more}
use Rattle.tree_counts.specs.Counts.{says, weight, child, counts_hold, matched, SoundForest}
use Rattle.tree_counts.specs.Runs.{NamesPassed}
use Rattle.directories.specs.Names.{sorted_from, begins, enter}
use Rattle.tree_check.specs.declared.walk.Directory.{Directory}
use Rattle.tree_check.specs.Nodes.{agrees_with, weight_of}

-- ---- the levels of a tree

pub child-levels : (l : ℕ) (c : List ℕ) (f : Forest) (t : Tree) → Levels l f → child c f ≡ some t → (1 ≤ l) × Levels (l - 1) t.subtrees
unfolding child
child-levels _ c _ t levels_none e = none-some e
child-levels _ c _ t (levels_more {l = l} {n = n} {kids = kids} {after = after} h i) e =
    by-test (eq_list c n.name)
    (λ q.
    let same : record { root = n; subtrees = kids } ≡ t = some_is (rw q at e) in
    let down : l ≡ suc l - 1 = omega arith in
    (omega arith, rw (← same) (subst (λ (m : ℕ). Levels m kids) down h)))
    (λ q. child-levels (suc l) c after t i (rw q at e))
  where
    some_is : {a b : Tree} → some a ≡ some b → a ≡ b
    some_is e = cc

-- ---- one directory

-- the siblings f are in the data d, and the names in the directory are whole and those after them
pub record Here (w : ℕ) (d : List ℕ) (level : ℕ) (dir : Directory) (f : Forest) (q : List ℕ) (whole : List (List ℕ)) : Type 0 where
  pub long : length q ≡ dir.q
  pub sound : SoundForest f
  pub taken : ℕ
  pub reads : Reads w (drop dir.at d) f dir.k taken
  pub levels : Levels (127 - level) f
  pub ahead : dir.ahead ≡ length whole
  pub sorted : sorted_from [] whole ≡ true

-- below the directory q, of whose names done were passed, the one of the component c, whose node is the root of the tree t
pub record Entrance (f : Forest) (q : List ℕ) (whole done : List (List ℕ)) (c x : List ℕ) (xs : List (List ℕ)) (t : Tree) (dir : Directory) : Type 0 where
  pub passed : NamesPassed f q whole done (x ∷ xs)
  pub in_it : begins q x ≡ true
  pub plain : lacks 47 c ≡ true
  pub part : under c (drop (length q) x) ≡ true
  pub found : child c f ≡ some t
  pub says_valid : is_some dir.count ≡ is_valid t.root.count
  pub agrees : (m : ℕ) → agrees_with dir.count m ≡ says t.root.count m
  pub weighs : weight_of dir.count ≡ weight t.root.count

-- ---- one level after another

-- no directory
abbrev pub nowhere : Directory
nowhere = record { at = 0; k = 0; count = None; q = 0; ahead = 0 }

-- the root's directory with the siblings f₀ has all names
pub data Walking (w : ℕ) (d : List ℕ) (above : List Directory) (root : Directory) (f₀ : Forest) (all : List (List ℕ)) :
    ℕ → Directory → Forest → List ℕ → List (List ℕ) → List (List ℕ) → Bool → ℕ → Type 0 where
  at_root :
      {done : List (List ℕ)} {ok : Bool} {found : ℕ} →
      Here w d 0 root f₀ [] all →
      ok ≡ counts_hold (is_some root.count) done f₀ →
      found ≡ matched done f₀ →
      Walking w d above root f₀ all 0 root f₀ [] all done ok found
  below :
      {level : ℕ} {up dir : Directory} {f : Forest} {q c x : List ℕ} {xs whole done now_done : List (List ℕ)} {t : Tree} {ok now-ok : Bool} {found now-found : ℕ} →
      Walking w d above root f₀ all level up f q whole done ok found →
      get_or above level nowhere ≡ up →
      Entrance f q whole done c x xs t dir →
      Here w d (suc level) dir t.subtrees (enter q c) (x ∷ xs) →
      now-ok ≡ (ok && counts_hold (is_some dir.count) now_done t.subtrees) →
      now-found ≡ found + matched now_done t.subtrees →
      Walking w d above root f₀ all (suc level) dir t.subtrees (enter q c) (x ∷ xs) now_done now-ok now-found

module _ (w : ℕ) (d : List ℕ) (root : Directory) (f₀ : Forest) (all : List (List ℕ)) where
  pub here_of : (above : List Directory) (level : ℕ) (dir : Directory) (f : Forest) (q : List ℕ) (whole done : List (List ℕ)) (ok : Bool) (found : ℕ)
      → Walking w d above root f₀ all level dir f q whole done ok found → Here w d level dir f q whole
  here_of above _ _ _ _ _ done ok found (at_root here o s) = here
  here_of above _ dir _ _ _ done ok found (below steps g e here o s) = here

  -- one part more was passed
  pub walking-moved : (above : List Directory) (level : ℕ) (dir : Directory) (f : Forest) (q : List ℕ) (whole done : List (List ℕ)) (ok : Bool) (found : ℕ)
      → Walking w d above root f₀ all level dir f q whole done ok found
      → (now_done : List (List ℕ)) (holds now-ok : Bool) (n now-found : ℕ) → counts_hold (is_some dir.count) now_done f ≡ (counts_hold (is_some dir.count) done f && holds)
      → matched now_done f ≡ matched done f + n → now-ok ≡ (ok && holds) → now-found ≡ found + n
      → Walking w d above root f₀ all level dir f q whole now_done now-ok now-found
  walking-moved above _ _ _ _ _ done ok found (at_root here o s) now_done holds now-ok n now-found j m i l =
      let sum : now-found ≡ matched now_done f₀ = omega (arith, s, m, l) in
      at_root here (i ∙ ap (λ (y : Bool). y && holds) o ∙ sym j) sum
  walking-moved above _ dir _ _ _ done ok found (below {t = t} {ok = up_ok} {found = up-found} steps g e here o s) now_done holds now-ok n now-found j m i l =
      let sum : now-found ≡ up-found + matched now_done t.subtrees = omega (arith, s, m, l) in
      below steps g e here
      (i ∙ ap (λ (y : Bool). y && holds) o ∙ and_assoc up_ok (counts_hold (is_some dir.count) done t.subtrees) holds ∙ ap (λ (y : Bool). up_ok && y) (sym j))
      sum

  -- a directory is held on a level further down
  pub walking-held : (above : List Directory) (i : ℕ) (y : Directory) (level : ℕ) (dir : Directory) (f : Forest) (q : List ℕ) (whole done : List (List ℕ)) (ok : Bool) (found : ℕ)
      → Walking w d above root f₀ all level dir f q whole done ok found
      → level ≤ i → Walking w d (set above i y) root f₀ all level dir f q whole done ok found
  walking-held above i y _ _ _ _ _ done ok found (at_root here o s) most = at_root here o s
  walking-held above i y _ dir _ _ _ done ok found (below {level = level} steps g e here o s) most =
      below (walking-held above i y _ _ _ _ _ _ _ _ steps (omega arith)) (get_or-set_other above i level y nowhere (λ eq. omega arith) ∙ g) e here o s
