-- The proof that `widened` meets its contract.
use Rattle.std.proofs.Common.{◌≡◌, length, arith, take_at}
use Rattle.kinds.proofs.widened.Goals as goal

pub returns : goal.returns
returns c = let long : length c.args.digest ≡ 20 = omega arith in rw c.copy_from_slice.ensures.after (take_at _ _ 20 long)
