-- `hash_words::put_word` meets its contract: what is written is the run of the word's four bytes. Assumes nothing.
use Rattle.std.proofs.Common.{arith}
use Rattle.hash_words.specs.Words.{bytes4}
use Rattle.hash_words.proofs.Copying.{put-run}
use Rattle.hash_words.proofs.put_word.Goals as goal

pub returns : goal.returns
unfolding bytes4
returns c = rw (c.copy_from_slice.ensures.after, c.to_be_bytes.ensures) (put-run c.args.out.now (bytes4 c.args.x) c.args.at _ (omega arith) (omega arith))
