-- The proof that `stays` meets its contract.
use Prim.Native.Nat.{◌<◌}
use native.Mathlib.Omega.{arith}
use borrow.Author.Tests.{lt-ltb}
use Rattle.entries_directory.proofs.stays.Goals as goal

pub returns-then-s-eq0 : goal.returns-then-s-eq0
returns-then-s-eq0 c = rw c.if-s-eq0.true

pub returns : goal.returns
returns c = let h : 0 < c.args.s.ahead = omega arith in rw (lt-ltb 0 c.args.s.ahead h)
