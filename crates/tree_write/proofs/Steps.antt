-- One step along siblings of which those on the path to a name's directory are made invalid. w is the width of an object name.
use mathlib.Core.Path.{◌≡◌, refl, sym, ap, subst, ◌∙◌}
use mathlib.Core.List.{List, ◌++◌, append-nil}
use mathlib.Core.Bool.{true, false}
use Prim.Native.Nat.{ℕ, suc, ◌+◌, ◌-◌, ◌≤◌, ◌<◌}
use native.Mathlib.Omega.{arith}
use lib.ListN.{length, take, drop, length-drop}
use lib.Seq.{drop-drop, length-take-le}
use Rattle.format.specs.Records.{Forest, nil, tree}
use Rattle.format.specs.Layout.{under}
use Rattle.format.specs.Reader.{Head, read_node}
use Rattle.format.specs.Writer.{write_forest}
use Rattle.format.specs.Requests.{invalid_path}
use Rattle.tree_counts.specs.Counts.{SoundForest}
use Rattle.tree_counts.proofs.Siblings.{sound-kids, sound-after}
use Rattle.tree_nodes.specs.declared.node.Node as Code
use Rattle.std.specs.Prelude.{None}
use Rattle.tree_nodes.specs.Answers.{node_at}
use Rattle.tree_nodes.specs.Flat.{trees_length, Reads, reads_none, reads_more}
use Rattle.format_laws.proofs.Lists.{drop-to}
use Rattle.tree_nodes.proofs.Nodes.{NodeIs, node-is}
use Rattle.tree_nodes.proofs.Flat.{reads-width, reads-length, trees-none}
use Rattle.tree_nodes.proofs.Trees.{First, reads_first, reads-empty, first-length}
use Rattle.tree_nodes.proofs.Trees.{chain, reads-chain, reads_at, NodeAt, node_at_lem, no-bad}
use Rattle.output.specs.Output.{Wrote}
use Rattle.output.proofs.Laws.{wrote_then}
use Rattle.tree_write.specs.declared.PathPlace.{PathPlace}
use Rattle.tree_write.specs.declared.Passed.{Passed}
use Rattle.tree_write.specs.Written.{NodeHere, made_invalid, NodeWritten, TreesWritten}
use Rattle.tree_write.specs.Steps.{ToWrite, Part, Stepped}
use Rattle.tree_write.proofs.Nodes.{head-is}
use Rattle.tree_write.proofs.Trees.{write-nil}
use Rattle.tree_write.proofs.Paths.{path-enters, path-passes, path-none}

-- ---- where siblings end

reads_total : {w : ℕ} (s : List ℕ) (f : Forest) (k m : ℕ) → Reads w s f k m → m ≡ trees_length w k s
reads_total {w} s f k m r =
    let e : trees_length w (k + 0) s ≡ m + trees_length w 0 (drop m s) = reads-length s f k m r 0 in
    let z : trees_length w 0 (drop m s) ≡ 0 = trees-none w (drop m s) in
    let same : trees_length w (k + 0) s ≡ trees_length w k s = ap (λ (n : ℕ). trees_length w n s) (omega arith) in
    omega arith

first-total : {w : ℕ} (s : List ℕ) (f : Forest) (k m : ℕ) → Reads w s f k m → 0 < k → (x : First w s f k) → m ≡ x.own + (x.below + x.rest)
first-total {w} s f k m r some x =
    let more : Reads w s (tree x.head.node x.kids x.after) (suc (k - 1)) (x.own + (x.below + x.rest)) = reads_more x.node x.reads_kids x.reads_after in
    let k-is : suc (k - 1) ≡ k = omega arith in
    reads_total s f k m r ∙ ap (λ (n : ℕ). trees_length w n s) (sym k-is) ∙ sym (reads_total s _ _ _ more)

-- ---- what is written of a sibling, and what is left

module _ {w : ℕ} (d name : List ℕ) (way : PathPlace) (s : List ℕ) (x : ToWrite w d name way s) where
  module _ (some : 0 < way.left) where
    first_of : First w (drop way.place d) x.siblings way.left
    first_of = reads_first _ _ _ _ x.reads some

    sound-of : SoundForest (tree first_of.head.node first_of.kids first_of.after)
    sound-of = subst SoundForest first_of.is x.sound

    text-is : s ≡ write_forest (invalid_path w (drop way.from name) (tree first_of.head.node first_of.kids first_of.after)) ++ write_forest x.trees
    text-is = x.is ∙ ap (λ (f : Forest). write_forest (invalid_path w (drop way.from name) f) ++ write_forest x.trees) first_of.is

    -- the trees that follow are after the first sibling, its subtrees and its later siblings
    follows : Reads w (drop first_of.rest (drop first_of.below (drop first_of.own (drop way.place d)))) x.trees way.later x.more
    follows =
        let total : x.taken ≡ first_of.own + (first_of.below + first_of.rest) = first-total _ _ _ _ x.reads some first_of in
        let from : drop first_of.rest (drop first_of.below (drop first_of.own (drop way.place d))) ≡ drop x.taken (drop way.place d) =
        drop-drop first_of.rest first_of.below (drop first_of.own (drop way.place d))
        ∙ drop-drop (first_of.below + first_of.rest) first_of.own (drop way.place d)
        ∙ ap (λ (n : ℕ). drop n (drop way.place d)) (sym total) in
        rw from x.follow

    pub step-stop : {X : Type 0} → None ≡ node_at w way.place (read_node w 0 (drop way.place d)) → X
    step-stop e = absurd (no-bad w way.place first_of.own first_of.head _ first_of.node e)

    module _ (inside : way.place ≤ length d) (node : Code.Node) (here : NodeHere w d way.place node) where
      node-here : NodeAt node way.place first_of.own first_of.head
      node-here = node_at_lem w node way.place first_of.own first_of.head _ first_of.node here.read

      is-node : NodeIs w d way.place node
      is-node = node-is d way.place inside node here.read

      name_is : take (node.nul - way.place) (drop way.place d) ≡ first_of.head.node.name
      name_is = sym is-node.name ∙ ap (λ (h : Head). h.node.name) (head-is (sym is-node.reads ∙ first_of.node))

      name-length : node.nul - way.place ≡ length first_of.head.node.name
      name-length =
          let l : length (drop way.place d) ≡ length d - way.place = length-drop way.place d in
          let ended = is-node.ended in
          let within = is-node.within in
          sym (length-take-le (node.nul - way.place) (drop way.place d) (omega arith)) ∙ ap length name_is

      module _ (out out' : List ℕ) where
        pub step-enters : (at : ℕ) → under (take (node.nul - way.place) (drop way.place d)) (drop way.from name) ≡ true
            → NodeWritten w (made_invalid w) d way.place node out way.at out' at
            → Part w d name out way s out'
            (record { place = node.next; at = at; left = node.subtrees; later = way.later + (way.left - 1); from = way.from + (node.nul - way.place) + 1 })
        step-enters at e written =
            let n = first_of.head.node in
            let k : ℕ = length n.name + 1 in
            let in-dir : under n.name (drop way.from name) ≡ true = ap (λ (c : List ℕ). under c (drop way.from name)) (sym name_is) ∙ e in
            let l = name-length in
            let name-rest : drop k (drop way.from name) ≡ drop (way.from + (node.nul - way.place) + 1) name = drop-to name way.from k (way.from + (node.nul - way.place) + 1) (omega arith) in
            let count : way.left - 1 + way.later ≡ way.later + (way.left - 1) = omega arith in
            let next : drop first_of.own (drop way.place d) ≡ drop node.next d = drop-to d way.place first_of.own node.next node-here.next in
            record {
              part = made_invalid w first_of.head;
              rest = write_forest (invalid_path w (drop k (drop way.from name)) first_of.kids) ++ write_forest (chain first_of.after x.trees);
              whole =
                  text-is
                  ∙ path-enters w (drop way.from name) n first_of.kids first_of.after x.trees first_of.head.subtrees in-dir sound-of (reads-width _ _ _ _ first_of.reads_kids);
              wrote = written.wrote first_of.head first_of.own first_of.node;
              left = record {
                siblings = first_of.kids;
                taken = first_of.below;
                trees = chain first_of.after x.trees;
                more = first_of.rest + x.more;
                sound = sound-kids n first_of.kids first_of.after sound-of;
                reads = reads_at _ _ _ _ _ _ first_of.reads_kids next (sym node-here.subtrees);
                follow = reads_at _ _ _ _ _ _ (reads-chain _ _ _ _ _ _ _ first_of.reads_after follows) (ap (drop first_of.below) next) count;
                is = ap (λ (t : List ℕ). write_forest (invalid_path w t first_of.kids) ++ write_forest (chain first_of.after x.trees)) name-rest;
              };
            }

        pub step-passes : (passed : Passed) → under (take (node.nul - way.place) (drop way.place d)) (drop way.from name) ≡ false
            → TreesWritten w d way.place 1 out way.at out' passed
            → Part w d name out way s out' (record { place = passed.place; at = passed.at; left = way.left - 1; later = way.later; from = way.from })
        step-passes passed e written =
            let n = first_of.head.node in
            let out-dir : under n.name (drop way.from name) ≡ false = ap (λ (c : List ℕ). under c (drop way.from name)) (sym name_is) ∙ e in
            let ended = written.ended in
            let length-is : passed.place ≡ way.place + (first_of.own + first_of.below) = omega (arith, first-length _ _ _ first_of) in
            let next : drop first_of.below (drop first_of.own (drop way.place d)) ≡ drop passed.place d =
            drop-drop first_of.below first_of.own (drop way.place d) ∙ drop-to d way.place (first_of.own + first_of.below) passed.place length-is in
            record {
              part = write_forest (tree n first_of.kids nil);
              rest = write_forest (invalid_path w (drop way.from name) first_of.after) ++ write_forest x.trees;
              whole = text-is ∙ path-passes w (drop way.from name) n first_of.kids first_of.after x.trees out-dir;
              wrote = written.wrote (tree n first_of.kids nil) _ (reads_more first_of.node first_of.reads_kids reads_none);
              left = record {
                siblings = first_of.after;
                taken = first_of.rest;
                trees = x.trees;
                more = x.more;
                sound = sound-after n first_of.kids first_of.after sound-of;
                reads = reads_at _ _ _ _ _ _ first_of.reads_after next refl;
                follow = reads_at _ _ _ _ _ _ follows (ap (drop first_of.rest) next) refl;
                is = refl;
              };
            }

  -- ---- no sibling is left

  pub path-end : way.left ≤ 0 → (out out' : List ℕ) (passed : Passed) → TreesWritten w d way.place way.later out way.at out' passed → Wrote out way.at s out' passed.at
  path-end l out out' passed written =
      let none : x.siblings ≡ nil = reads-empty _ _ _ _ x.reads l in
      let zero_left : way.left ≡ 0 = omega arith in
      let taken : x.taken ≡ 0 = reads_total _ _ _ _ x.reads ∙ ap (λ (k : ℕ). trees_length w k (drop way.place d)) zero_left ∙ trees-none w (drop way.place d) in
      let text : s ≡ write_forest x.trees =
      x.is
      ∙ ap (λ (f : Forest). write_forest (invalid_path w (drop way.from name) f) ++ write_forest x.trees) none
      ∙ path-none w (drop way.from name) x.trees in
      rw text (written.wrote x.trees x.more (rw taken at x.follow))

-- ---- all siblings

pub path-start : {w : ℕ} (d name : List ℕ) (place at k : ℕ) (f : Forest) (m : ℕ) → SoundForest f → Reads w (drop place d) f k m
    → ToWrite w d name (record { place = place; at = at; left = k; later = 0; from = 0 }) (write_forest (invalid_path w name f))
path-start {w} d name place at k f m sound r = record {
  siblings = f;
  taken = m;
  trees = nil;
  more = 0;
  sound = sound;
  reads = r;
  follow = reads_none;
  is = sym (ap (λ (s : List ℕ). write_forest (invalid_path w name f) ++ s) write-nil ∙ append-nil (write_forest (invalid_path w name f)));
}

-- with what is still to write, s is written at a place of out₀
pub record Going (w : ℕ) (d name out₀ : List ℕ) (at : ℕ) (s out : List ℕ) (way : PathPlace) : Type 0 where
  pub left : List ℕ
  pub still : ToWrite w d name way left
  pub rest : (out' : List ℕ) (r : ℕ) → Wrote out way.at left out' r → Wrote out₀ at s out' r

pub going_start : {w : ℕ} (d name s out : List ℕ) (way : PathPlace) → ToWrite w d name way s → Going w d name out way.at s out way
going_start d name s out way x = record { left = s; still = x; rest = λ out' r wrote. wrote }

pub going_on : {w : ℕ} (d name out₀ : List ℕ) (at : ℕ) (s out : List ℕ) (way : PathPlace) → Going w d name out₀ at s out way → (out₁ : List ℕ) (r : PathPlace) → Stepped w d name out way out₁ r
    → Going w d name out₀ at s out₁ r
going_on d name out₀ at s out way x out₁ r step =
    let y = step.wrote x.left x.still in
    record {
      left = y.rest;
      still = y.left;
      rest = λ out' e wrote. x.rest out' e (rw y.whole (wrote_then _ _ _ _ _ _ _ _ y.wrote wrote));
    }
