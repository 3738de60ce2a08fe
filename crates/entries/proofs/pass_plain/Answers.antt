-- The proof that `pass_plain` meets its contract.
use Rattle.entries.proofs.Names.{passed_over, passed-short, passed-good}
use Rattle.entries.proofs.pass_plain.Goals as goal

pub returns-then-n-gt-LONGEST : goal.returns-then-n-gt-LONGEST
returns-then-n-gt-LONGEST c =
    passed_over _ _ _ _ _ c.requires.0 c.plain_length-n.ensures.0 c.if-n-gt-LONGEST.true

pub returns-then-b-at : goal.returns-then-b-at
returns-then-b-at c =
    passed-short _ _ _ _ _ c.requires.0 c.plain_length-n.ensures.0 _ c.entry_length.ensures.0 c.entry_length.ensures.1 c.if-b-at.true

pub returns : goal.returns
returns c =
    passed-good _ _ _ _ _ c.requires.0 c.plain_length-n.ensures.0 _ c.entry_length.ensures.0 c.entry_length.ensures.1 c.if-n-gt-LONGEST.false c.if-b-at.false
