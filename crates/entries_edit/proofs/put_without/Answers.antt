-- The proof that `put_without` meets its contract.
use mathlib.Core.Path.{refl}
use Prim.Native.Nat.{◌≤◌}
use native.Mathlib.Omega.{arith}
use Rattle.entries_run.proofs.Steps.{inside-first, readable-first}
use Rattle.entries_edit.proofs.Edits.{readable-rest, without-written}
use Rattle.entries_edit.proofs.put_without.Goals as goal

pub put_entries-front-requires : goal.put_entries-front-requires
put_entries-front-requires c =
    let a = c.args in
    rw c.first-start.ensures (inside-first a.b.now a.work.now c.requires.0, omega arith, omega arith, readable-first _ _ a.count _ a.b.now _ (omega arith) c.requires.3, omega arith)

pub put_removed-rest-requires : goal.put_removed-rest-requires
put_removed-rest-requires c =
    let front = c.put_entries-front.ensures in
    let near = front.bounds.near in
    let long = front.bounds.frame in
    let few : c.args.k ≤ c.args.count = omega (arith, c.requires.1) in
    let rest = readable-rest c.args.count few (rw c.first-start.ensures at front) c.requires.3 in
    (omega arith, front.inside, omega arith, omega (arith, c.requires.1), rest, omega arith)

pub returns : goal.returns
returns c =
    let front = rw c.first-start.ensures at c.put_entries-front.ensures in
    without-written c.args.count (omega (arith, c.requires.1)) front c.put_removed-rest.ensures refl
