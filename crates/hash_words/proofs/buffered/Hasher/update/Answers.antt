-- `hash_words::buffered::Hasher::update` meets its contract: the slice fills no block, or begins one, or fills one and goes on. Assumes nothing.
use Rattle.std.proofs.Common.{◌++◌, append_assoc, take-append-drop}
use Rattle.hash_words.proofs.buffered.Hasher.update.Goals as goal

pub returns-else-used-eq0 : goal.returns-else-used-eq0
returns-else-used-eq0 g c = λ m a.
    let (front, back) = c.split_at.result in
    let cut = c.split_at.ensures in
    let joined = c.whole-else-used-eq0.ensures (m ++ front.now) c.full.ensures.empty (c.full.ensures.absorbed m a) in
    rw (append_assoc m front.now back.now, cut.front, cut.back, take-append-drop) at joined
