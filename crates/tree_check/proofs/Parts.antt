-- What the walk leaves behind of one part of a directory, by what was found of it.
use Rattle.std.proofs.Common.{Option, Some, None, is_some}
use mathlib.Core.Path.{◌≡◌, sym, ap, subst}
use mathlib.Core.List.{List, [], ◌∷◌, ◌++◌}
use mathlib.Core.Bool.{Bool, true, false, not}
use Prim.Native.Nat.{ℕ}
use native.Mathlib.Omega.{arith}
use lib.ListN.{length, drop, length-append}
use Rattle.format.specs.Bytes.{lacks}
use Rattle.format.specs.Records.{Forest}
use Rattle.format.specs.Layout.{under}
use Rattle.format.specs.Reader.{read_node}
use Rattle.fields.proofs.Workspace.{frame_same}
use Rattle.tree_nodes.specs.Answers.{node_at}
use Rattle.tree_nodes.specs.Flat.{Reads}
use Rattle.entries_run.specs.Steps.{name_at}
use Rattle.tree_counts.specs.Counts.{SoundForest}
use Rattle.directories.specs.Names.{enter}
use Rattle.directories.proofs.Prefixes.{component-lacks, component-under}
use Rattle.entries_directory.specs.declared.Front.{Front}
use Rattle.tree_check.specs.declared.look.Subdirectory.{Subdirectory}
use Rattle.tree_check.specs.declared.walk.Directory.{Directory}
use Rattle.entries_directory.specs.Ahead.{Ahead, File, FrontPassed, FrontPassedFiles}
use Rattle.tree_check.specs.Components.{component, Component, Looked, LookedUp}
use Rattle.tree_check.specs.Steps.{WalkReady, PartPassed}
use Rattle.tree_nodes.proofs.Trees.{no-bad}
use Rattle.entries_directory.proofs.Ahead.{fits-end}
use Rattle.tree_check.proofs.Steps.{moved-files, part_in_lem, moved-missing}

turned : (a b : Bool) → a ≡ not b → b ≡ not a
turned a true e = sym (ap not e)
turned a false e = sym (ap not e)

-- the next component of a name
module _ (p x : List ℕ) (e : ℕ) (is : Component (length p) x e) where
  pub part-lacks : lacks 47 (component (drop (length p) x)) ≡ true
  unfolding component
  part-lacks = component-lacks (drop (length p) x)

  pub part-under : under (component (drop (length p) x)) (drop (length p) x) ≡ true
  unfolding component
  part-under = component-under (drop (length p) x) is.slash

  pub part_length : length (enter p (component (drop (length p) x))) ≡ e
  part_length =
      let c = component (drop (length p) x) in
      omega (arith, length-append p (c ++ (47 ∷ [])), length-append c (47 ∷ []), is.ends)

-- whether a node of the directory below was found
pub look-at : (w : ℕ) (d : List ℕ) (at k : ℕ) (x : List ℕ) (n q : ℕ) (below : Subdirectory) (o : Option ℕ) → LookedUp w d at k x n q (Some below) → below.node ≡ o
    → LookedUp w d at k x n q (Some (record { end = below.end; node = o }))
look-at w d at k x n q below o look e = subst (λ (p : Option ℕ). LookedUp w d at k x n q (Some (record { end = below.end; node = p }))) e look

module _ (w : ℕ) (d : List ℕ) (dir : Directory) (b : List ℕ) (v : ℕ) (work : List ℕ) (s : Front) where
  -- what was found, of the name x in the directory p
  pub looked : (r : Option Subdirectory) → LookedUp w d dir.at dir.k (name_at v b work s.cursor.start s.cursor.len) s.cursor.len dir.q r
      → (f : Forest) (m : ℕ) → SoundForest f → Reads w (drop dir.at d) f dir.k m
      → (p x : List ℕ) (xs : List (List ℕ)) → Ahead w v b work s x xs → length p ≡ dir.q
      → Looked w d f (length p) x r
  looked r look f m sound reads p x xs ahead e = rw (← ahead.name, e) (look.is f m sound.differ reads)

  module _ (work' : List ℕ) (ready : WalkReady d dir b work s) where
    pub part-files : LookedUp w d dir.at dir.k (name_at v b work s.cursor.start s.cursor.len) s.cursor.len dir.q None
        → (r : Front) → FrontPassedFiles w v b work s dir.q work' r → PartPassed w d dir b v work s work' true r
    part-files look r went = record {
      fits = went.gone.fits;
      less = went.gone.less;
      frame = went.gone.frame;
      moved = λ f m sound reads p x xs ahead i e whole done passed.
          let file : File p x = record { in_it = i; alone = looked None look f m sound reads p x xs ahead e } in
          moved-files w (is_some dir.count) f p whole done (x ∷ xs) passed v b work' r (went.passed p x xs ahead file e);
    }

    pub part-missing : (e : ℕ) → LookedUp w d dir.at dir.k (name_at v b work s.cursor.start s.cursor.len) s.cursor.len dir.q (Some (record { end = e; node = None }))
        → (r : Front) → FrontPassed w v b work s e work' r → (holds : Bool) → is_some dir.count ≡ not holds → PartPassed w d dir b v work s work' holds r
    part-missing e look r went holds is-none = rw (turned _ _ is-none) record {
      fits = went.gone.fits;
      less = went.gone.less;
      frame = went.gone.frame;
      moved = λ f m sound reads p x xs ahead i l whole done passed.
          let (is, absent) = looked (Some (record { end = e; node = None })) look f m sound reads p x xs ahead l in
          let c = component (drop (length p) x) in
          let left = went.passed (enter p c) x xs ahead (part_in_lem p c x i (part-under p x e is)) (part_length p x e is) in
          moved-missing w (is_some dir.count) f p x xs whole done v b work' r i passed sound c (part-lacks p x e is) (part-under p x e is) left absent;
    }

    -- a node is there
    pub part-lost : (e place : ℕ) → LookedUp w d dir.at dir.k (name_at v b work s.cursor.start s.cursor.len) s.cursor.len dir.q (Some (record { end = e; node = Some place }))
        → None ≡ node_at w place (read_node w 0 (drop place d))
        → PartPassed w d dir b v work s work false (record { cursor = s.cursor; ahead = 0; common = 0 })
    part-lost e place look bad-node = record {
      fits = fits-end b s ready.fits;
      less = omega (arith, ready.some);
      frame = frame_same work;
      moved = λ f m sound reads p x xs ahead i n whole done passed.
          let (is, found) = looked (Some (record { end = e; node = Some place })) look f m sound reads p x xs ahead n in
          absurd (no-bad w place found.tree.own _ _ found.tree.node bad-node);
    }
