-- The walk over all entries: what a turn of its loop does to the directories that it is in.
use Rattle.std.proofs.Common.{Some, is_some}
use mathlib.Core.Path.{◌≡◌, refl, sym, ap, ap₂, subst, ◌∙◌}
use mathlib.Core.List.{List, [], ◌∷◌}
use mathlib.Core.Bool.{Bool, true, false, ◌&&◌, ◌||◌, and-true, and_comm}
use Prim.Native.Nat.{ℕ, suc, ◌+◌, ◌-◌, ◌≤◌, ◌<◌}
use native.Mathlib.Omega.{arith}
use lib.ListN.{length, drop, get_or, set, length-map}
use lib.Seq.{get_or-set_same}
use lib.Dec.{eqb, leb, ltb}
use borrow.Author.Tests.{eqb-true, eq-eqb}
use Rattle.format.specs.Records as F
use Rattle.format.specs.Layout.{is_valid, names}
use Rattle.format.specs.Reading.{good}
use Rattle.format.specs.Reader.{read_forest}
use Rattle.format_laws.proofs.Tests.{by-test, false-true, or-inv}
use Rattle.format_laws.proofs.Lists.{drop-to}
use Rattle.tree_nodes.proofs.Flat.{Levels, forest-shape}
use Rattle.tree_nodes.proofs.Trees.{NodeAt, node_at_lem, reads_at}
use Rattle.tree_counts.specs.Counts.{says, weight, counts_hold, matched, SoundForest}
use Rattle.tree_counts.specs.Runs.{NamesPassed}
use Rattle.tree_counts.proofs.Walk.{child-sound, counts-hold-start, matched-start}
use Rattle.tree_counts.proofs.Runs.{passed_start, passed-end}
use Rattle.entries_run.proofs.Steps.{entries-length}
use Rattle.directories.specs.Names.{sorted_from, begins, leads, span, beyond, within, enter}
use Rattle.entries_directory.specs.declared.Front.{Front}
use Rattle.entries_directory.specs.Ahead.{Ahead, After, after_none, after_some, DirectoryPassed}
use Rattle.entries_directory.proofs.Ahead.{stays-is, stays-in}
use Rattle.directories.proofs.Prefixes.{first-least}
use Rattle.directories.proofs.Runs.{within-top}
use Rattle.tree_search.specs.Siblings.{FoundAt}
use Rattle.tree_check.specs.declared.walk.Directory.{Directory}
use Rattle.tree_check.specs.Components.{component, Component}
use Rattle.tree_check.specs.Nodes.{agrees_with, weight_of}
use Rattle.tree_check.specs.Steps.{entered, PartPassed, PartEntered}
use Rattle.tree_check.proofs.Nodes.{node-valid, node-says, node-weighs}
use Rattle.tree_check.proofs.Parts.{looked, part-lacks, part-under, part_length}
use Rattle.tree_check.proofs.Steps.{part_in_lem, moved-found}
use Rattle.tree_check.proofs.Levels.{child-levels, Here, nowhere, Walking, at_root, below, here_of, walking-moved, walking-held}

-- ---- how many names are ahead

ahead-length : (w : ℕ) (v : ℕ) (b work : List ℕ) (s : Front) (x : List ℕ) (xs : List (List ℕ)) → Ahead w v b work s x xs → s.ahead ≡ length (x ∷ xs)
unfolding names
ahead-length w v b work s x xs h = omega (arith, h.some, entries-length _ _ _ _ _ _ _ _ h.reads, length-map h.entries (λ (e : F.Entry). e.name), ap length h.rest)

after-length : (w : ℕ) (v : ℕ) (b work : List ℕ) (s : Front) (last : List ℕ) (xs : List (List ℕ)) → After w v b work s last xs → s.ahead ≡ length xs
after-length w v b work s last _ (after_none z) = z
after-length w v b work s last _ (after_some {x} {xs} h c) = ahead-length w v b work s x xs h

within-length : (q : List ℕ) (ss : List (List ℕ)) → length (within q ss) + length (beyond (begins q) ss) ≡ length ss
unfolding within span beyond
within-length q [] = refl
within-length q (s ∷ ss) = by-test (begins q s) (λ e. rw e (omega (arith, within-length q ss))) (λ e. rw e (omega arith))

-- ---- where the walk is in a directory

-- whether the next entry is in it
abbrev pub in_directory : Directory → Front → Bool
in_directory dir s = eqb s.ahead dir.ahead || (ltb 0 s.ahead && leb dir.q s.common)

pub data Position (w : ℕ) (v : ℕ) (b work : List ℕ) (s : Front) (dir : Directory) (f : F.Forest) (q : List ℕ) : List (List ℕ) → List (List ℕ) → Type 0 where
  fresh : {x : List ℕ} {xs : List (List ℕ)} → s.ahead ≡ dir.ahead → Ahead w v b work s x xs → begins q x ≡ true → Position w v b work s dir f q (x ∷ xs) []
  later :
      {last : List ℕ} {whole done rest : List (List ℕ)} →
      s.ahead < dir.ahead →
      NamesPassed f q whole done rest →
      begins q last ≡ true →
      After w v b work s last rest →
      Position w v b work s dir f q whole done

-- the next name is in it
pub record Standing (w : ℕ) (v : ℕ) (b work : List ℕ) (s : Front) (f : F.Forest) (q : List ℕ) (whole done : List (List ℕ)) : Type 0 where
  pub next : List ℕ
  pub rest : List (List ℕ)
  pub passed : NamesPassed f q whole done (next ∷ rest)
  pub in_it : begins q next ≡ true
  pub ahead : Ahead w v b work s next rest

-- it is not, so all names in the directory were passed
pub record Ended (w : ℕ) (v : ℕ) (b work : List ℕ) (s : Front) (dir : Directory) (q : List ℕ) (whole done : List (List ℕ)) : Type 0 where
  pub all : done ≡ within q whole
  pub left : DirectoryPassed w v b work s q whole
  pub count : dir.ahead - s.ahead ≡ length (within q whole)

module _ (w : ℕ) (v : ℕ) (b work : List ℕ) (s : Front) (dir : Directory) (f : F.Forest) (q : List ℕ) (long : length q ≡ dir.q) where
  pub position_in : (whole done : List (List ℕ)) → Position w v b work s dir f q whole done → in_directory dir s ≡ true → Standing w v b work s f q whole done
  position_in _ _ (fresh {x} {xs} same ahead i) on = record { next = x; rest = xs; passed = passed_start f q (x ∷ xs); in_it = i; ahead = ahead }
  position_in whole done (later {last = last} {rest = rest} less passed i after) on =
      or-inv (eqb s.ahead dir.ahead) (ltb 0 s.ahead && leb dir.q s.common) on
      (λ same. absurd (omega (arith, eqb-true s.ahead dir.ahead same)))
      (λ stays.
      stays-in w v b work s last q rest after i (ap (λ (n : ℕ). ltb 0 s.ahead && leb n s.common) long ∙ stays) λ y ys is ahead c in_it.
      record { next = y; rest = ys; passed = subst (NamesPassed f q whole done) is passed; in_it = in_it; ahead = ahead })

  pub position-out : (whole done : List (List ℕ)) → Position w v b work s dir f q whole done → in_directory dir s ≡ false → dir.ahead ≡ length whole → Ended w v b work s dir q whole done
  position-out _ _ (fresh same ahead i) off count = false-true (sym off ∙ ap (λ (t : Bool). t || (ltb 0 s.ahead && leb dir.q s.common)) (eq-eqb _ _ same))
  position-out whole done (later {last = last} {rest = rest} less passed i after) off count =
      let stays = neither (eqb s.ahead dir.ahead) (ltb 0 s.ahead && leb dir.q s.common) off in
      let out : leads (begins q) rest ≡ false = sym (stays-is w v b work s last q rest after i) ∙ ap (λ (n : ℕ). ltb 0 s.ahead && leb n s.common) long ∙ stays in
      let (all, beyond-all) = passed-end f q whole done rest out passed in
      record {
        all = all;
        left = record { last = last; in_it = i; after = subst (After w v b work s last) beyond-all after };
        count = omega (arith, count, after-length w v b work s last rest after, ap length beyond-all, within-length q whole);
      }
    where
      neither : (a b : Bool) → (a || b) ≡ false → b ≡ false
      neither true b e = false-true (sym e)
      neither false b e = e

-- ---- all levels

-- whichever directory it is, the next of its names has work behind it
pub record Walk (w : ℕ) (d : List ℕ) (above : List Directory) (b : List ℕ) (v : ℕ) (root : Directory) (f₀ : F.Forest) (all : List (List ℕ))
    (work : List ℕ) (level : ℕ) (dir : Directory) (s : Front) (ok : Bool) (found : ℕ) : Type 0 where
  pub siblings : F.Forest
  pub name : List ℕ
  pub whole : List (List ℕ)
  pub done : List (List ℕ)
  pub walking : Walking w d above root f₀ all level dir siblings name whole done ok found
  pub position : Position w v b work s dir siblings name whole done

and-turned : (a b c : Bool) → ((a && b) && c) ≡ (a && (c && b))
and-turned true b c = and_comm b c
and-turned false b c = refl

and_first : (a b c : Bool) → ((a && b) && c) ≡ (b && (a && c))
and_first true b c = refl
and_first false true c = refl
and_first false false c = refl

-- a directory is left: its sums join those of the level above, or the walk ends
module _ (w : ℕ) (d : List ℕ) (above : List Directory) (b : List ℕ) (v : ℕ) (root : Directory) (f₀ : F.Forest) (all : List (List ℕ)) (work : List ℕ) (s : Front) where
  left_at : (level : ℕ) (dir : Directory) (f : F.Forest) (q : List ℕ) (whole done : List (List ℕ)) (ok : Bool) (found : ℕ)
      → Walking w d above root f₀ all level dir f q whole done ok found → Ended w v b work s dir q whole done → 0 < level
      → (agrees : Bool) (n : ℕ) → agrees ≡ agrees_with dir.count (dir.ahead - s.ahead) → n ≡ weight_of dir.count
      → s.ahead < (get_or above (level - 1) nowhere).ahead
      → Walk w d above b v root f₀ all work (level - 1) (get_or above (level - 1) nowhere) s (ok && agrees) (found + n)
  left_at _ _ _ _ _ done ok found (at_root h o sum) ended some agrees n agrees-is n-is = absurd (omega arith)
  left_at _ dir _ _ _ done ok found (below {level = j} {up = up} {f = f} {q = q} {c = c} {x = x} {xs = xs} {whole = whole} {done = up_done} {t = t} {ok = up_ok} {found = up-found} steps g e h o sum) ended some agrees n agrees-is n-is =
      let up-here = here_of w d root f₀ all above j up f q whole up_done up_ok up-found steps in
      let m = moved-found w (is_some up.count) f q x xs whole up_done v b work s e.in_it e.passed up-here.sound c e.plain e.part ended.left t e.found [] up-here.sorted in
      let run = within (enter q c) (x ∷ xs) in
      let tested : counts_hold (is_some dir.count) done t.subtrees ≡ counts_hold (is_valid t.root.count) run t.subtrees =
      ap (λ (y : Bool). counts_hold y done t.subtrees) e.says_valid ∙ ap (λ (l : List (List ℕ)). counts_hold (is_valid t.root.count) l t.subtrees) ended.all in
      let counted : agrees ≡ says t.root.count (length run) = agrees-is ∙ e.agrees (dir.ahead - s.ahead) ∙ ap (λ (i : ℕ). says t.root.count i) ended.count in
      let now-ok : (ok && agrees) ≡ (up_ok && (says t.root.count (length run) && counts_hold (is_valid t.root.count) run t.subtrees)) =
      ap (λ (y : Bool). y && agrees) o ∙ ap₂ (λ (y z : Bool). (up_ok && y) && z) tested counted
      ∙ and-turned up_ok (counts_hold (is_valid t.root.count) run t.subtrees) (says t.root.count (length run)) in
      let now-found : found + n ≡ up-found + (weight t.root.count + matched run t.subtrees) =
      omega (arith, sum, n-is, e.weighs, ap (λ (l : List (List ℕ)). matched l t.subtrees) ended.all) in
      let down : j ≡ suc j - 1 = omega arith in
      subst (λ (i : ℕ). s.ahead < (get_or above i nowhere).ahead → Walk w d above b v root f₀ all work i (get_or above i nowhere) s (ok && agrees) (found + n)) down
      (subst (λ (y : Directory). s.ahead < y.ahead → Walk w d above b v root f₀ all work j y s (ok && agrees) (found + n)) (sym g)
      (λ less. record {
        siblings = f;
        name = q;
        whole = whole;
        done = m.now_done;
        walking = walking-moved w d root f₀ all above j up f q whole up_done up_ok up-found steps m.now_done _ (ok && agrees) _ (found + n) m.tested m.sum now-ok now-found;
        position = later less m.passed m.in_it m.after;
      }))

  end-at : (level : ℕ) (dir : Directory) (f : F.Forest) (q : List ℕ) (whole done : List (List ℕ)) (ok : Bool) (found : ℕ)
      → Walking w d above root f₀ all level dir f q whole done ok found → Ended w v b work s dir q whole done → level ≡ 0
      → (agrees r : Bool) (expected : ℕ) → agrees ≡ agrees_with dir.count (dir.ahead - s.ahead) → r ≡ ((ok && agrees) && eqb found expected)
      → r ≡ (agrees_with root.count (length all) && (counts_hold (is_some root.count) all f₀ && eqb (matched all f₀) expected))
  end-at _ _ _ _ _ done ok found (at_root h o sum) ended z agrees r expected agrees-is r-is =
      let top = ended.all ∙ within-top all in
      let tested : ok ≡ counts_hold (is_some root.count) all f₀ = o ∙ ap (λ (l : List (List ℕ)). counts_hold (is_some root.count) l f₀) top in
      let counted : agrees ≡ agrees_with root.count (length all) = agrees-is ∙ rw (ended.count, within-top all) refl in
      let sums : eqb found expected ≡ eqb (matched all f₀) expected = ap (λ (i : ℕ). eqb i expected) (sum ∙ ap (λ (l : List (List ℕ)). matched l f₀) top) in
      r-is
      ∙ ap₂ (λ (y z : Bool). (y && z) && eqb found expected) tested counted
      ∙ and_first (counts_hold (is_some root.count) all f₀) (agrees_with root.count (length all)) (eqb found expected)
      ∙ ap (λ (y : Bool). agrees_with root.count (length all) && (counts_hold (is_some root.count) all f₀ && y)) sums
  end-at _ dir _ _ _ done ok found (below steps g e h o sum) ended z agrees r expected agrees-is r-is = absurd (omega arith)

sorted_all : (w : ℕ) (v : ℕ) (b work : List ℕ) (s : Front) (x : List ℕ) (xs : List (List ℕ)) → Ahead w v b work s x xs → sorted_from [] (x ∷ xs) ≡ true
unfolding sorted_from
sorted_all w v b work s x xs h = rw (first-least x) h.sorted

begins-all : (x : List ℕ) → begins [] x ≡ true
unfolding begins
begins-all x = refl

pub walk_start : (w : ℕ) (d : List ℕ) (above : List Directory) (b : List ℕ) (v : ℕ) (work : List ℕ) (root : Directory) (s : Front) → root.q ≡ 0 → root.ahead ≡ s.ahead
    → (f : F.Forest) (n : ℕ) → SoundForest f → read_forest w 0 127 root.k (drop root.at d) ≡ good f n
    → (x : List ℕ) (xs : List (List ℕ)) → Ahead w v b work s x xs → Walk w d above b v root f (x ∷ xs) work 0 root s true 0
walk_start w d above b v work root s z same f n sound reads x xs ahead =
    let shape = forest-shape 127 root.k (drop root.at d) f n reads in
    record {
      siblings = f;
      name = [];
      whole = x ∷ xs;
      done = [];
      walking = at_root
          (record {
            long = sym z;
            sound = sound;
            taken = n;
            reads = shape.0;
            levels = shape.1;
            ahead = same ∙ ahead-length w v b work s x xs ahead;
            sorted = sorted_all w v b work s x xs ahead;
          })
          (sym (counts-hold-start (is_some root.count) f)) (sym (matched-start f));
      position = fresh (sym same) ahead (begins-all x);
    }

module _ (w : ℕ) (d : List ℕ) (above : List Directory) (b : List ℕ) (v : ℕ) (root : Directory) (f₀ : F.Forest) (all : List (List ℕ))
    (work : List ℕ) (level : ℕ) (dir : Directory) (s : Front) (ok : Bool) (found : ℕ) (steps : Walk w d above b v root f₀ all work level dir s ok found) where
  here : Here w d level dir steps.siblings steps.name steps.whole
  here = here_of w d root f₀ all above level dir steps.siblings steps.name steps.whole steps.done ok found steps.walking

  module _ (on : in_directory dir s ≡ true) (work' : List ℕ) where
    standing : Standing w v b work s steps.siblings steps.name steps.whole steps.done
    standing = position_in w v b work s dir steps.siblings steps.name here.long steps.whole steps.done steps.position on

    pub walk-passed : (holds : Bool) (r : Front) → PartPassed w d dir b v work s work' holds r → s.ahead ≤ dir.ahead
        → Walk w d above b v root f₀ all work' level dir r (ok && holds) found
    walk-passed holds r part most =
        let m = part.moved steps.siblings here.taken here.sound here.reads steps.name standing.next standing.rest standing.ahead standing.in_it here.long steps.whole steps.done standing.passed in
        let same : found ≡ found + 0 = omega arith in
        record {
          siblings = steps.siblings;
          name = steps.name;
          whole = steps.whole;
          done = m.now_done;
          walking = walking-moved w d root f₀ all above level dir steps.siblings steps.name steps.whole steps.done ok found steps.walking m.now_done holds (ok && holds) 0 found m.tested m.sum refl same;
          position = later (omega (arith, part.less)) m.passed m.in_it m.after;
        }

    module _ (under : Directory) (part : PartEntered w d dir b v work s work' under) where
      here_found : Component (length steps.name) standing.next under.q × FoundAt w d steps.siblings (component (drop (length steps.name) standing.next)) part.place
      here_found =
          looked w d dir b v work s (Some (record { end = under.q; node = Some part.place })) part.look steps.siblings here.taken here.sound here.reads
          steps.name standing.next standing.rest standing.ahead here.long

      node-here : NodeAt part.node part.place here_found.1.tree.own (record { node = here_found.1.found.root; subtrees = here_found.1.tree.subtrees })
      node-here = node_at_lem w part.node part.place here_found.1.tree.own _ _ here_found.1.tree.node part.read

      deeper : (1 ≤ 127 - level) × Levels (127 - level - 1) here_found.1.found.subtrees
      deeper = child-levels (127 - level) _ steps.siblings here_found.1.found here.levels here_found.1.is

      pub walk-full : level + 1 ≡ 128 → ⊥
      walk-full deep = omega (arith, deeper.0)

      entered-walk : length above ≡ 128 → level < 127
          → Walk w d (set above level dir) b v root f₀ all work (suc level) (entered part.node under.q s) s ok found
      entered-walk room most =
          let c = component (drop (length steps.name) standing.next) in
          let t = here_found.1.found in
          let inner = part-under steps.name standing.next under.q here_found.0 in
          let level-down : 127 - level - 1 ≡ 127 - suc level = omega arith in
          let sum : found ≡ found + matched [] t.subtrees = omega (arith, matched-start t.subtrees) in
          record {
            siblings = t.subtrees;
            name = enter steps.name c;
            whole = standing.next ∷ standing.rest;
            done = [];
            walking = below
                (walking-held w d root f₀ all above level dir level dir steps.siblings steps.name steps.whole steps.done ok found steps.walking (omega arith))
                (get_or-set_same above level dir nowhere (omega (arith, room)))
                (record {
                  passed = standing.passed;
                  in_it = standing.in_it;
                  plain = part-lacks steps.name standing.next under.q here_found.0;
                  part = inner;
                  found = here_found.1.is;
                  says_valid = node-valid _ _ _ _ node-here;
                  agrees = node-says _ _ _ _ node-here;
                  weighs = node-weighs _ _ _ _ node-here;
                })
                (record {
                  long = part_length steps.name standing.next under.q here_found.0;
                  sound = child-sound c steps.siblings t here.sound here_found.1.is;
                  taken = here_found.1.tree.below;
                  reads = reads_at _ _ _ _ _ _ here_found.1.tree.kids (drop-to d part.place here_found.1.tree.own part.node.next node-here.next) (sym node-here.subtrees);
                  levels = subst (λ (n : ℕ). Levels n t.subtrees) level-down deeper.1;
                  ahead = ahead-length w v b work s standing.next standing.rest standing.ahead;
                  sorted = sorted_all w v b work s standing.next standing.rest standing.ahead;
                })
                (sym (ap (λ (y : Bool). ok && y) (counts-hold-start (is_some part.node.count) t.subtrees) ∙ and-true ok))
                sum;
            position = fresh refl standing.ahead (part_in_lem steps.name c standing.next standing.in_it inner);
          }

      pub walk-entered : length above ≡ 128 → level < 127 → Walk w d (set above level dir) b v root f₀ all work' (level + 1) under s ok found
      walk-entered room most =
          let up : suc level ≡ level + 1 = omega arith in
          rw part.same
          (subst (λ (n : ℕ). Walk w d (set above level dir) b v root f₀ all work n under s ok found) up
          (subst (λ (y : Directory). Walk w d (set above level dir) b v root f₀ all work (suc level) y s ok found) (sym part.is) (entered-walk room most)))

  module _ (off : in_directory dir s ≡ false) where
    ended : Ended w v b work s dir steps.name steps.whole steps.done
    ended = position-out w v b work s dir steps.siblings steps.name here.long steps.whole steps.done steps.position off here.ahead

    pub walk-left : 0 < level → (agrees : Bool) (n : ℕ) → agrees ≡ agrees_with dir.count (dir.ahead - s.ahead) → n ≡ weight_of dir.count
        → s.ahead < (get_or above (level - 1) nowhere).ahead
        → Walk w d above b v root f₀ all work (level - 1) (get_or above (level - 1) nowhere) s (ok && agrees) (found + n)
    walk-left some agrees n agrees-is n-is less =
        left_at w d above b v root f₀ all work s level dir steps.siblings steps.name steps.whole steps.done ok found steps.walking ended some agrees n agrees-is n-is less

    pub walk_end : level ≡ 0 → (agrees r : Bool) (expected : ℕ) → agrees ≡ agrees_with dir.count (dir.ahead - s.ahead) → r ≡ ((ok && agrees) && eqb found expected)
        → r ≡ (agrees_with root.count (length all) && (counts_hold (is_some root.count) all f₀ && eqb (matched all f₀) expected))
    walk_end z agrees r expected agrees-is r-is =
        end-at w d above b v root f₀ all work s level dir steps.siblings steps.name steps.whole steps.done ok found steps.walking ended z agrees r expected agrees-is r-is
