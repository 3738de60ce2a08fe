-- The proof that `digest_of` meets its contract.
use mathlib.Core.Path.{◌∙◌}
use native.Mathlib.Omega.{arith}
use lib.Seq.{take_all}
use Rattle.sha256.specs.Sha256.{sha256}
use Rattle.sha256.proofs.Bytes.{length-sha256}
use Rattle.kinds.proofs.Laws.{width-sha256, width-other, hash-sha256, hash-other}
use Rattle.kinds.proofs.digest_of.Goals as goal

pub returns-then-kind-ne-SHA256 : goal.returns-then-kind-ne-SHA256
returns-then-kind-ne-SHA256 c =
    let other = c.if-kind-ne-SHA256.true in
    rw (width-other _ other, hash-other _ other c.args.bytes.now) (c.widened.ensures ∙ c.sha1.ensures)

pub returns : goal.returns
returns c =
    let m = c.args.bytes.now in
    let is = c.if-kind-ne-SHA256.false in
    rw (width-sha256 _ is, hash-sha256 _ is m, c.sha256.ensures) (take_all 32 (sha256 m) (omega (arith, length-sha256 m)))
