-- The proof that `plain_at` meets its contract.
use mathlib.Core.Path.{◌≡◌, sym, ◌∙◌}
use Prim.Native.Nat.{ℕ, ◌+◌, ◌≤◌}
use native.Mathlib.Omega.{arith}
use Rattle.std.proofs.Common.{Ok}
use lib.ListN.{length, drop}
use Rattle.entries.specs.Answers.{read_head, fixed_of}
use Rattle.entries.proofs.Before.{head-size}
use Rattle.walk.proofs.Seeing.{ok-inv, no-head, no_name, a-name}
use Rattle.walk.proofs.plain_at.Goals as goal
use Rattle.walk.proofs.plain_at.Goals.{In_ok-head, In_ok-name}

-- the bytes before the name
head-is : (c : In_ok-head) → c.read_fixed.result ≡ Ok c.in_ok-head.head
head-is c = ok-inv _ _ (sym c.ok.ensures.value ∙ c.in_ok-head.was)

head : (c : In_ok-head) (p : ℕ) → let a = c.args in Ok c.in_ok-head.head ≡ fixed_of (read_head a.w a.v p (drop a.at a.b.now))
head c p = rw (head-is c) at c.read_fixed.ensures.0 p

there : (c : In_ok-head) → let a = c.args in a.at + c.in_ok-head.head.length ≤ length a.b.now
there c = rw (head-is c) at c.read_fixed.ensures.1

pub returns-in_err-head : goal.returns-in_err-head
returns-in_err-head c =
    rw c.from_residual.ensures
    (no-head _ _ _ _ c.requires.1 _ (sym c.ok.ensures.value ∙ c.in_err-head.was) c.read_fixed.ensures.0)

pub read_plain-requires : goal.read_plain-requires
read_plain-requires c =
    let h = (goal.at.read_plain-requires c).In_ok-head in
    (there h, omega (arith, (head-size c.args.w c.args.v 0 _ _ (sym (head h 0))).most))

pub returns-in_err-name : goal.returns-in_err-name
returns-in_err-name c =
    rw c.from_residual-in_err-name.ensures
    (no_name _ _ _ _ c.requires.1 _ (head (goal.at.returns-in_err-name c).In_ok-head) _ (sym c.ok-2.ensures.value ∙ c.in_err-name.was) c.read_plain.ensures.0)

pub returns : goal.returns
returns c =
    let name-is : c.read_plain.result ≡ Ok c.in_ok-name.name = ok-inv _ _ (sym c.ok-2.ensures.value ∙ c.in_ok-name.was) in
    let text = rw name-is at c.read_plain.ensures in
    a-name _ _ _ _ c.requires.1 _ (head (goal.at.returns c).In_ok-head) _ text.0 text.1 text.2
