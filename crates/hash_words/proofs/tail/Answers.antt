-- `hash_words::tail` meets its contract: the last bytes of the message, then the byte 128, then the count of bits. Assumes nothing.
use Rattle.std.proofs.Common.{◌≡◌, ◌+◌, ◌-◌, ◌*◌, ◌/◌, ◌%◌, ◌≤◌, ℕ, length, take, drop, replicate, ap, ◌∙◌, arith, length-drop}
use Rattle.hash_words.proofs.Copying.{rest_of, sets-first}
use Rattle.hash_words.proofs.Padding.{tail-right}
use Rattle.hash_words.proofs.tail.Goals as goal
use Rattle.hash_words.proofs.tail.Goals.{then-part-lt56, else-part-lt56}

pub returns : goal.returns
returns c =
    let m = c.args.rest.now in
    let if1 = c.if-part-lt56 in
    let whole : length m - length m % 64 ≡ length m / 64 * 64 = omega arith in
    let place : length m % 64 + 1 + (119 - length m % 64) % 64 ≡ if1.end = elim if1.branch [ then-part-lt56 w ↦ omega arith | else-part-lt56 w ↦ omega arith ] in
    let room : if1.end + 8 ≤ 128 = elim if1.branch [ then-part-lt56 w ↦ omega arith | else-part-lt56 w ↦ omega arith ] in
    let from : ℕ = length m - length m % 64 in
    let rest : take (length m - from) (drop from m) ≡ drop (length m / 64 * 64) m = rest_of m from ∙ ap (λ (k : ℕ). drop k m) whole in
    let few : length (drop (length m / 64 * 64) m) ≡ length m % 64 = omega (arith, length-drop (length m / 64 * 64) m) in
    let copied = rw few at (sets-first (replicate 128 0) (drop (length m / 64 * 64) m) (omega arith)) in
    tail-right c.args.length m if1.end place room _ _ (c.copy_over.ensures ∙ rw rest copied) c.put_length.ensures
