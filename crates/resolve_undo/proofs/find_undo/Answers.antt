use mathlib.Core.Path.{◌≡◌, sym, ◌∙◌}
use Prim.Native.Nat.{◌-◌, zero-le}
use native.Mathlib.Omega.{arith}
use Rattle.resolve_undo.proofs.Records.{within, place-more, place_end, place-bad}
use Rattle.resolve_undo.proofs.find_undo.Goals as goal

pub loop-i-init : goal.loop-i-init
loop-i-init c = let all : c.args.k - 0 ≡ c.args.k = omega arith in (zero-le, zero-le, rw all (omega arith))

pub returns-in_default : goal.returns-in_default
returns-in_default c =
    sym (c.loop-i.invariant.2 ∙ place-bad _ _ _ _ _ c.read_undo.ensures c.in_default.is 0 _ (omega arith))

pub loop-i-preserved : goal.loop-i-preserved
loop-i-preserved c =
    let b = within _ _ _ _ _ c.read_undo.ensures _ c.in-Some.is c.requires.0 c.loop-i.invariant.0 in (
      b.1,
      b.2,
      c.loop-i.invariant.2 ∙ place-more _ _ _ _ _ c.read_undo.ensures _ c.in-Some.is 0 c.requires.0 _ _ (omega arith),
    )

pub returns : goal.returns
returns c = sym (c.loop-i.invariant.2 ∙ place_end _ 0 _ _ _ _ (omega arith))
