-- The proof that `put_nuls` meets its contract.
use mathlib.Core.Path.{◌≡◌}
use native.Mathlib.Omega.{arith}
use Prim.Native.Nat.{◌+◌, ◌-◌}
use lib.ListN.{length, take, drop, replicate, length-drop, length-replicate}
use lib.Seq.{length-take-le, drop-drop}
use borrow.Author.Rules.{rules}
use Rattle.output.specs.Output.{with_at}
use Rattle.output.proofs.Laws.{wrote-past}
use Rattle.output.proofs.put_nuls.Goals as goal

pub returns-then-out-end : goal.returns-then-out-end
returns-then-out-end c = wrote-past _ _ _ _ (simp length-replicate) (omega arith)

pub returns : goal.returns
unfolding with_at
returns c =
    let o = c.args.out.now in
    let at = c.args.at in
    let n = c.args.n in
    let all : at + n - at ≡ n = omega arith in
    let fits : length (take (at + n - at) (drop at o)) ≡ n = rw all (length-take-le n (drop at o) (simp length-drop (omega arith))) in
    let zero : c.fill.new.self ≡ replicate n 0 = rw fits at (c.fill.ensures.after (λ y e. e)) in
    let past : drop (at + n - at) (drop at o) ≡ drop (at + n) o = rw all (drop-drop n at o) in
    record {
      end = simp length-replicate;
      long = search rules;
      held = λ h. rw (zero, past, length-replicate);
    }
