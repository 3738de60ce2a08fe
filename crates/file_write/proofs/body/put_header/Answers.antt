-- The proof that `put_header` meets its contract.
use Rattle.file_write.proofs.Extensions.{header-wrote}
use native.Mathlib.Omega.{arith}
use Rattle.format_laws.proofs.Numbers.{length-put32}
use Rattle.file_write.proofs.body.put_header.Goals as goal

pub put_32-requires : goal.put_32-requires
put_32-requires c =
    omega (arith, c.put_32-middle.ensures.end, length-put32 c.args.version, c.put_bytes-signed.ensures.end)

pub returns : goal.returns
returns c =
    header-wrote _ _ _ _ _ _ _ _ _ c.put_bytes-signed.ensures c.put_32-middle.ensures c.put_32.ensures
