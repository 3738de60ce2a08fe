-- The proof that `clear_from` meets its contract.
use mathlib.Core.Path.{◌≡◌, ap, ◌∙◌}
use native.Mathlib.Omega.{arith}
use Prim.Native.Nat.{ℕ, ◌+◌, ◌-◌}
use lib.ListN.{length, take, drop, replicate, length-drop}
use lib.Seq.{drop-drop, length-take-le}
use Rattle.fields.proofs.clear_from.Goals as goal

pub returns : goal.returns
returns c =
    let n = c.args.n in
    let w = c.args.work.now in
    let few : length (take (8192 - n) (drop n w)) ≡ 8192 - n = length-take-le (8192 - n) (drop n w) (simp length-drop (omega arith)) in
    let zero : c.fill.new.self ≡ replicate (8192 - n) 0 = rw few at (c.fill.ensures.after (λ y e. e)) in
    let end : n + (8192 - n) ≡ 8192 = omega arith in
    let past : drop (8192 - n) (drop n w) ≡ drop 8192 w = drop-drop (8192 - n) n w ∙ ap (λ (k : ℕ). drop k w) end in
    rw (zero, past)
