-- The walk over all entries: bounds that each turn of its loop keeps, whatever the entries and the tree are.
use mathlib.Core.Path.{◌≡◌, sym, ap, ◌∙◌}
use mathlib.Core.List.{List}
use mathlib.Core.Bool.{Bool, true, false, ◌&&◌, ◌||◌}
use Prim.Native.Nat.{ℕ, ◌+◌, ◌-◌, ◌≤◌, ◌<◌}
use native.Mathlib.Omega.{arith}
use lib.ListN.{length, get_or, set, length-set}
use lib.Seq.{get_or-set_same, get_or-set_other}
use lib.Dec.{eqb, leb, ltb}
use borrow.Author.Tests.{eqb-true, eqb-false}
use Rattle.format_laws.proofs.Tests.{by-test, false-true, or-inv}
use Rattle.fields.specs.Workspace.{Frame}
use Rattle.fields.proofs.Workspace.{frame_same, frame_then}
use Rattle.tree_nodes.proofs.Nodes.{node-is}
use Rattle.entries_directory.specs.declared.Front.{Front}
use Rattle.entries_directory.specs.Ahead.{FrontFits}
use Rattle.entries_directory.proofs.Ahead.{stays-some, stays-long}
use Rattle.tree_check.specs.declared.walk.Directory.{Directory}
use Rattle.tree_check.specs.Steps.{WalkReady, PartPassed, PartEntered}
use Rattle.tree_check.proofs.Levels.{nowhere}
use Rattle.tree_check.proofs.Turns.{turns, turns-most, turns-passed, turns-entered, turns-left}
use Rattle.tree_check.proofs.Walks.{in_directory}

-- a directory above, where ahead entries are ahead, and entry of them were when the one below was entered
pub record Held (d : List ℕ) (ahead entry : ℕ) (up : Directory) : Type 0 where
  pub inside : up.at ≤ length d
  pub most : ahead ≤ up.ahead
  pub less : ahead < entry → ahead < up.ahead

pub record Looping (d b work₀ : List ℕ) (above : List Directory) (work : List ℕ) (level : ℕ) (dir : Directory) (s : Front) (found : ℕ) : Type 0 where
  pub levels : length above ≡ 128
  pub deep : level ≤ 127
  pub inside : dir.at ≤ length d
  pub small : length d ≤ 16777216
  pub fits : FrontFits b s
  pub few : s.ahead < 4294967296
  pub room : 8192 ≤ length work
  pub most : s.ahead ≤ dir.ahead
  pub fresh : s.ahead ≡ dir.ahead → (1 ≤ s.ahead) × (dir.q ≤ s.cursor.len)
  pub held : (j : ℕ) → j < level → Held d s.ahead dir.ahead (get_or above j nowhere)
  pub sum : found + turns s.ahead dir.ahead level ≤ 8796093022208
  pub frame : Frame work₀ work

pub loop-start : (d b work : List ℕ) (above : List Directory) (root : Directory) (s : Front) → WalkReady d root b work s → root.ahead ≡ s.ahead → length above ≡ 128
    → Looping d b work above work 0 root s 0
loop-start d b work above root s ready same levels = record {
  levels = levels;
  deep = omega arith;
  inside = ready.inside;
  small = ready.small;
  fits = ready.fits;
  few = ready.few;
  room = ready.room;
  most = omega (arith, same);
  fresh = λ e. (ready.some, ready.long);
  held = λ j l. absurd (omega arith);
  sum = omega (arith, ready.few, turns-most s.ahead root.ahead 0 (omega arith));
  frame = frame_same work;
}

module _ (d b work₀ : List ℕ) (above : List Directory) (work : List ℕ) (level : ℕ) (dir : Directory) (s : Front) (found : ℕ) (h : Looping d b work₀ above work level dir s found) where
  pub loop-ready : in_directory dir s ≡ true → WalkReady d dir b work s
  loop-ready on =
      let first : (1 ≤ s.ahead) × (dir.q ≤ s.cursor.len) =
      or-inv (eqb s.ahead dir.ahead) (ltb 0 s.ahead && leb dir.q s.common) on
      (λ e. h.fresh (eqb-true s.ahead dir.ahead e))
      (λ e. (stays-some s dir.q e, stays-long b s dir.q h.fits e)) in
      record { inside = h.inside; small = h.small; fits = h.fits; few = h.few; room = h.room; some = first.0; long = first.1 }

  pub loop-passed : {w : ℕ} (v : ℕ) (work' : List ℕ) (holds : Bool) (r : Front) → PartPassed w d dir b v work s work' holds r → Looping d b work₀ above work' level dir r found
  loop-passed v work' holds r part = record {
    levels = h.levels;
    deep = h.deep;
    inside = h.inside;
    small = h.small;
    fits = part.fits;
    few = omega (arith, part.less, h.few);
    room = omega (arith, part.frame, h.room);
    most = omega (arith, part.less, h.most);
    fresh = λ e. absurd (omega (arith, part.less, h.most));
    held = λ j l. record { inside = (h.held j l).inside; most = omega (arith, part.less, (h.held j l).most); less = λ e. omega (arith, part.less, (h.held j l).most) };
    sum = omega (arith, h.sum, turns-passed s.ahead r.ahead dir.ahead level part.less h.deep);
    frame = frame_then h.frame part.frame;
  }

  module _ {w : ℕ} (v : ℕ) (work' : List ℕ) (under : Directory) (part : PartEntered w d dir b v work s work' under) (on : in_directory dir s ≡ true) (more : level < 127) where
    same_ahead : under.ahead ≡ s.ahead
    same_ahead = ap (λ (y : Directory). y.ahead) part.is

    pub less-entered : turns s.ahead under.ahead (level + 1) < turns s.ahead dir.ahead level
    less-entered = rw same_ahead (turns-entered s.ahead dir.ahead level more)

    held-entered : (j : ℕ) → j < level + 1 → Held d s.ahead under.ahead (get_or (set above level dir) j nowhere)
    held-entered j l =
        by-test (eqb j level)
        (λ e.
        rw (eqb-true j level e, get_or-set_same above level dir nowhere (omega (arith, h.levels)))
        record { inside = h.inside; most = h.most; less = λ x. absurd (omega (arith, same_ahead)) })
        (λ e.
        let other = eqb-false j level e in
        let up = h.held j (omega (arith, other)) in
        rw (get_or-set_other above level j dir nowhere other) record { inside = up.inside; most = up.most; less = λ x. absurd (omega (arith, same_ahead)) })

    pub loop-entered : Looping d b work₀ (set above level dir) work' (level + 1) under s found
    loop-entered =
        let ready = loop-ready on in
        let is = node-is d part.place part.look.most part.node part.read in
        let at = ap (λ (y : Directory). y.at) part.is in
        record {
          levels = length-set above level dir ∙ h.levels;
          deep = omega arith;
          inside = omega (arith, at, is.within);
          small = h.small;
          fits = h.fits;
          few = h.few;
          room = rw part.same h.room;
          most = omega (arith, same_ahead);
          fresh = λ e. (ready.some, part.look.within);
          held = held-entered;
          sum = omega (arith, h.sum, less-entered);
          frame = rw part.same h.frame;
        }

  module _ (off : in_directory dir s ≡ false) where
    entered-before : s.ahead < dir.ahead
    entered-before =
        by-test (eqb s.ahead dir.ahead)
        (λ e. false-true (sym off ∙ ap (λ (t : Bool). t || (ltb 0 s.ahead && leb dir.q s.common)) e))
        (λ e. let other = eqb-false s.ahead dir.ahead e in omega (arith, h.most, other))

    pub above_before : 0 < level → s.ahead < (get_or above (level - 1) nowhere).ahead
    above_before some = (h.held (level - 1) (omega arith)).less entered-before

    pub less-left : 0 < level → turns s.ahead (get_or above (level - 1) nowhere).ahead (level - 1) < turns s.ahead dir.ahead level
    less-left some = turns-left s.ahead dir.ahead (get_or above (level - 1) nowhere).ahead level entered-before (above_before some) some

    pub loop-left : 0 < level → (n : ℕ) → n ≤ 1 → Looping d b work₀ above work (level - 1) (get_or above (level - 1) nowhere) s (found + n)
    loop-left some n one = record {
      levels = h.levels;
      deep = omega (arith, h.deep);
      inside = (h.held (level - 1) (omega arith)).inside;
      small = h.small;
      fits = h.fits;
      few = h.few;
      room = h.room;
      most = omega (arith, above_before some);
      fresh = λ e. absurd (omega (arith, above_before some));
      held = λ j l.
          let up = h.held j (omega arith) in
          record { inside = up.inside; most = up.most; less = λ e. up.less entered-before };
      sum = omega (arith, h.sum, less-left some);
      frame = h.frame;
    }
