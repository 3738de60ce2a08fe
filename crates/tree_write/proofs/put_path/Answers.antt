use mathlib.Core.Path.{refl, ◌∙◌}
use native.Mathlib.Omega.{arith}
use Rattle.tree_write.proofs.Steps.{path-start, path-end, going_start, going_on}
use Rattle.tree_write.proofs.put_path.Goals as goal

pub loop-way-init : goal.loop-way-init
loop-way-init c = (
  record { room = c.requires; named = omega arith; few = omega arith },
  omega arith,
  refl,
  λ f m sound r. going_start _ _ _ _ _ (path-start _ _ _ _ _ f m sound r),
)

pub loop-way-preserved : goal.loop-way-preserved
loop-way-preserved c =
    let t = c.step-way.ensures in
    let short = t.short in
    (t.ready, omega arith, t.long ∙ c.loop-way.invariant.2, λ f m sound r. going_on _ _ _ _ _ _ _ (c.loop-way.invariant.3 f m sound r) _ _ t)

pub returns : goal.returns
returns c =
    let t = c.put_trees-passed.ensures in
    let short = t.short in
    let within = t.within in
    let before = c.loop-way.invariant.1 in
    record {
      wrote = λ f m sound r. let x = c.loop-way.invariant.3 f m sound r in x.rest _ _ (path-end _ _ _ _ x.still c.loop-way-test.false _ _ _ t);
      short = omega arith;
    }
