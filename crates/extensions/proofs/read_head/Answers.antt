-- The proof that `read_head` meets its contract: one law for each return.
use mathlib.Core.Path.{◌≡◌, refl, sym, ◌∙◌}
use mathlib.Core.Bool.{true, ◌&&◌}
use lib.ListN.{get_or}
use lib.Dec.{leb}
use native.Mathlib.Omega.{arith}
use Rattle.extensions.proofs.Heads.{head-short, head-cut, head-unknown, head-tree, head-undo, head-other, four_bytes}
use Rattle.extensions.proofs.read_head.Goals as goal
use Rattle.extensions.proofs.read_head.Goals.{Else-not-is_ascii_uppercase}

-- the signature begins with a capital
letter : (c : Else-not-is_ascii_uppercase) → (leb 65 (get_or c.args.b.now c.args.at 0) && leb (get_or c.args.b.now c.args.at 0) 90) ≡ true
letter c = sym c.is_ascii_uppercase.ensures.value ∙ c.if-not-is_ascii_uppercase.false

pub returns-then-left-lt8 : goal.returns-then-left-lt8
returns-then-left-lt8 c =
    record { same = λ w ns k. head-short w c.args.b.now c.args.at c.requires ns k c.if-left-lt8.true; inside = tt }

pub returns-then-left-size : goal.returns-then-left-size
returns-then-left-size c =
    record { same = λ w ns k. head-cut w c.args.b.now c.args.at c.requires ns k c.if-left-lt8.false _ c.read32-size.ensures c.if-left-size.true; inside = tt }

pub returns-then-not-is_ascii_uppercase : goal.returns-then-not-is_ascii_uppercase
returns-then-not-is_ascii_uppercase c =
    record {
      same =
          λ w ns k.
          head-unknown w c.args.b.now c.args.at c.requires ns k c.if-left-lt8.false _ c.read32-size.ensures c.if-left-size.false
          (sym c.is_ascii_uppercase.ensures.value ∙ c.if-not-is_ascii_uppercase.true);
      inside = tt;
    }

pub returns-then-same : goal.returns-then-same
returns-then-same c =
    let b = c.args.b.now in
    let at = c.args.at in
    record {
      same = λ w ns k. head-tree w b at c.requires ns k c.if-left-lt8.false _ c.read32-size.ensures c.if-left-size.false (letter (goal.at.returns-then-same c).Else-not-is_ascii_uppercase) _ refl (four_bytes b at _ _ c.same.ensures c.if-same.true);
      inside = (omega arith, omega arith);
    }

pub returns-then-same-2 : goal.returns-then-same-2
returns-then-same-2 c =
    let b = c.args.b.now in
    let at = c.args.at in
    record {
      same = λ w ns k. head-undo w b at c.requires ns k c.if-left-lt8.false _ c.read32-size.ensures c.if-left-size.false (letter (goal.at.returns-then-same-2 c).Else-not-is_ascii_uppercase) _ refl (four_bytes b at _ _ c.same.ensures c.if-same.false) (four_bytes b at _ _ c.same-2.ensures c.if-same-2.true);
      inside = (omega arith, omega arith);
    }

pub returns : goal.returns
returns c =
    let b = c.args.b.now in
    let at = c.args.at in
    record {
      same = λ w ns k. head-other w b at c.requires ns k c.if-left-lt8.false _ c.read32-size.ensures c.if-left-size.false (letter (goal.at.returns c).Else-not-is_ascii_uppercase) _ refl (four_bytes b at _ _ c.same.ensures c.if-same.false) (four_bytes b at _ _ c.same-2.ensures c.if-same-2.false);
      inside = (omega arith, omega arith);
    }
