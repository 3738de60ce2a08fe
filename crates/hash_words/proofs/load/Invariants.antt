-- `hash_words::load` meets its contract. The loop's invariant: the first i words are the block's. Assumes nothing.
use Rattle.std.proofs.Common.{◌≡◌, ◌≤◌, ◌++◌, take, drop, replicate}
use Rattle.hash_words.specs.Words.{words}
use Rattle.hash_words.proofs.load.Given as goal

abbrev pub invariant-loop-i : goal.invariant-loop-i
invariant-loop-i l = (l.i ≤ 16) × (l.w ≡ take l.i (words l.p l.at 16) ++ drop l.i (replicate 16 0))
