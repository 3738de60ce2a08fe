use mathlib.Core.Path.{◌≡◌, refl, sym, ◌∙◌}
use Prim.Native.Nat.{◌+◌, ◌-◌, ◌<◌}
use native.Mathlib.Nat.{zero-add}
use native.Mathlib.Omega.{arith}
use Rattle.tree_nodes.proofs.Nodes.{node-is}
use Rattle.tree_nodes.specs.Levels.{stack_of}
use Rattle.tree_nodes.proofs.Flat.{place_end, place-more, place-stop}
use Rattle.tree_nodes.proofs.Levels.{passing-start, passing-more, passing-stop, passing-end}
use Rattle.tree_nodes.proofs.passes.find_node.Goals as goal

pub loop-init : goal.loop-init
unfolding stack_of
loop-init c =
    let all : c.args.k - 0 ≡ c.args.k = omega arith in
    rw all (omega arith, sym (zero-add _), refl, omega arith, passing-start c.args.d.now c.args.k _ refl)

pub returns-in_default : goal.returns-in_default
returns-in_default c =
    let some : 0 < c.args.k - c.loop.counter = omega arith in
    record {
      place = sym (c.loop.invariant.1 ∙ place-stop _ _ _ _ some c.loop.invariant.0 c.in_default.ensures);
      inside = omega arith;
      level = λ t m z e few. absurd (passing-stop _ _ _ _ _ _ c.loop.invariant.4 c.in_default.ensures t m e few);
    }

pub loop-preserved : goal.loop-preserved
loop-preserved c =
    let some : 0 < c.args.k - c.loop.counter = omega arith in
    let is = node-is _ _ c.loop.invariant.0 _ c.in-Some.ensures in
    let one : c.args.k - (c.loop.counter + 1) ≡ c.args.k - c.loop.counter - 1 = omega arith in
    rw one (
      is.within,
      c.loop.invariant.1 ∙ place-more _ _ _ _ some _ is,
      c.enter-below.ensures.0,
      c.climb-depth.ensures.0,
      passing-more _ _ _ _ _ _ c.loop.invariant.4 some _ is _ (λ deep. c.climb-depth.ensures.1 ∙ c.enter-below.ensures.2 deep),
    )

pub returns : goal.returns
returns c =
    record {
      place = sym (c.loop.invariant.1 ∙ place_end _ _ _ _ (omega arith));
      inside = c.loop.invariant.0;
      level = λ t m z e few. omega (arith, passing-end _ _ _ _ _ _ c.loop.invariant.4 (omega arith) t m z e few);
    }
