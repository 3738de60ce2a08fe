-- The proof that `step` meets its contract: the sibling is made invalid, or it is written with all below it.
use mathlib.Core.Path.{refl, sym, ◌∙◌}
use Prim.Native.Nat.{◌+◌, ◌-◌, ◌≤◌}
use native.Mathlib.Omega.{arith}
use lib.ListN.{length}
use Rattle.tree_nodes.proofs.Nodes.{NodeIs, node-is}
use Rattle.tree_write.specs.Written.{NodeHere}
use Rattle.tree_write.proofs.Names.{name-after}
use Rattle.tree_write.proofs.Steps.{step-stop, step-enters, step-passes}
use Rattle.tree_write.proofs.step.Goals as goal
use Rattle.tree_write.proofs.step.Goals.{In-Some, Then-is_under}

here_of : (c : In-Some) → NodeHere c.args.w c.args.d.now c.args.way.place c.in-Some.node
here_of c = record { read = c.in-Some.ensures }

node_of : (c : In-Some) → NodeIs c.args.w c.args.d.now c.args.way.place c.in-Some.node
node_of c = node-is _ _ c.requires.0.room.inside _ (here_of c).read

-- the name goes on after the node's name and a "/"
after-of : (c : Then-is_under) →
    c.args.way.from + (c.in-Some.node.nul - c.args.way.place) + 1 ≤ length c.args.name.now
after-of c =
    let is : NodeIs c.args.w c.args.d.now c.args.way.place c.in-Some.node = node-is _ _ c.requires.0.room.inside _ c.in-Some.ensures in
    let ended = is.ended in
    let within = is.within in
    name-after _ _ _ _ _ is.named (omega arith) c.requires.0.named (sym c.is_under.ensures ∙ c.if-is_under.true)

pub is_under-requires : goal.is_under-requires
is_under-requires c =
    let is = node_of c in
    let ended = is.ended in
    let within = is.within in
    (is.named, omega arith, c.requires.0.named)

pub overflow_sub-result : goal.overflow_sub-result
overflow_sub-result c = (node_of (goal.at.overflow_sub-result c).In-Some).named

pub overflow_add-result-then-is_under : goal.overflow_add-result-then-is_under
overflow_add-result-then-is_under c =
    let after = after-of (goal.at.overflow_add-result-then-is_under c).Then-is_under in
    omega arith

pub overflow_add-result-then-is_under-2 : goal.overflow_add-result-then-is_under-2
overflow_add-result-then-is_under-2 c =
    let after = after-of (goal.at.overflow_add-result-then-is_under-2 c).Then-is_under in
    omega arith

pub returns-then-is_under : goal.returns-then-is_under
returns-then-is_under c =
    let is = node_of (goal.at.returns-then-is_under c).In-Some in
    let named = is.named in
    let ended = is.ended in
    let within = is.within in
    let short = c.put_invalid-at.ensures.short in
    record {
      ready = record {
        room = record { inside = is.within; few = c.requires.0.room.few; near = omega arith; wide = c.requires.0.room.wide };
        named = after-of (goal.at.returns-then-is_under c).Then-is_under;
        few = omega arith;
      };
      long = (c.put_invalid-at.ensures.wrote is.head _ is.reads).long;
      less = omega arith;
      short = short;
      wrote = λ s x.
          rw c.from.ensures (step-enters _ _ _ s x c.requires.1 c.requires.0.room.inside _ (here_of (goal.at.returns-then-is_under c).In-Some) _ _ _ (sym c.is_under.ensures ∙ c.if-is_under.true) c.put_invalid-at.ensures);
    }

pub returns-in_default : goal.returns-in_default
returns-in_default c =
    let none = c.in_default.ensures in
    record {
      ready = record { room = c.requires.0.room; named = c.requires.0.named; few = omega arith };
      long = refl;
      less = omega arith;
      short = omega arith;
      wrote = λ s x. step-stop _ _ _ s x c.requires.1 none;
    }

pub returns : goal.returns
returns c =
    let t = c.put_trees-passed.ensures in
    let within = t.within in
    let short = t.short in
    let ended = t.ended in
    record {
      ready = record {
        room = record { inside = t.within; few = c.requires.0.room.few; near = omega arith; wide = c.requires.0.room.wide };
        named = c.requires.0.named;
        few = omega arith;
      };
      long = omega arith;
      less = omega arith;
      short = short;
      wrote = λ s x.
          step-passes _ _ _ s x c.requires.1 c.requires.0.room.inside _ (here_of (goal.at.returns c).In-Some) _ _ _ (sym c.is_under.ensures ∙ c.if-is_under.false) t;
    }
