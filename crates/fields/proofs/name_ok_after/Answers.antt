-- The proof that `name_ok_after` meets its contract.
use mathlib.Core.Path.{◌≡◌, sym, ap, ◌∙◌}
use Prim.Native.Nat.{◌-◌}
use native.Mathlib.Omega.{arith}
use lib.ListN.{length, take, drop, length-drop}
use lib.Seq.{take_all}
use Rattle.format.specs.Names.{ok_name}
use Rattle.format_laws.proofs.Names.{ok_name-over}
use Rattle.fields.proofs.name_ok_after.Goals as goal

pub returns-then-s-le-LONGEST : goal.returns-then-s-le-LONGEST
returns-then-s-le-LONGEST c =
    let s = c.args.s.now in
    let r = c.look_from-from.result in
    let all : take (length s - r) (drop r s) ≡ drop r s = take_all (length s - r) (drop r s) (simp length-drop (omega arith)) in
    c.name_ok.ensures ∙ ap ok_name all ∙ c.look_from-from.ensures.1

pub returns : goal.returns
returns c = sym (ok_name-over _ c.if-s-le-LONGEST.false)
