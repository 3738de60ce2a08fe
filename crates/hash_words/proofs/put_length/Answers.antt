-- `hash_words::put_length` meets its contract: what is written is the run of the eight bytes of the bit count. Assumes nothing.
use Rattle.std.proofs.Common.{arith, ◌≡◌, ◌*◌, ◌∙◌}
use Rattle.hash_words.specs.Padding.{be64}
use Rattle.hash_words.proofs.Copying.{put-run}
use Rattle.hash_words.proofs.Padding.{length-be64, be64-bytes}
use Rattle.hash_words.proofs.put_length.Goals as goal

pub returns : goal.returns
returns c =
    let n = c.args.n * 8 in
    let bytes : c.copy_from_slice.new.self ≡ be64 n = c.copy_from_slice.ensures.after ∙ c.to_be_bytes.ensures ∙ be64-bytes n in
    rw bytes (put-run c.args.out.now (be64 n) c.args.at _ (omega (arith, length-be64 n)) (omega arith))
