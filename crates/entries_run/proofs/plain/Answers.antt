-- The proof that `plain` meets its contract.
use mathlib.Core.Path.{◌≡◌}
use mathlib.Core.Bool.{cond}
use Rattle.std.proofs.lemmas.Result.{err_from_is_err_and}
use Rattle.std.proofs.lemmas.Bool.{not-false, not-true}
use Rattle.entries.proofs.Names.{plain-cut}
use Rattle.entries_run.proofs.PlainRests.{Compared, named-begun, plain-bad, plain-order, plain-good}
use Rattle.entries_run.proofs.plain.Goals as goal
use Rattle.entries_run.proofs.plain.Goals.{In_ok-t, Joined-known, then-known, else-known}

-- what is known once the name is compared with the one before, and read
compared :
    (c : In_ok-t) →
    let a = c.args in
    Compared a.b.now a.c a.h c.in_ok-t.t.length c.in_ok-t.t.taken c.standing_of-d.result
compared c =
    let t = c.in_ok-t.ensures in
    record {
      headed = c.requires.0;
      text = t.0;
      fits = t.1;
      more = t.2;
      stands = rw t.3 c.standing_of-d.ensures;
    }

pub returns-then-b-at : goal.returns-then-b-at
returns-then-b-at c =
    let a = c.args in
    λ w v work head old. plain-bad _ v a.b.now work old a.c a.h _ (λ i. plain-cut a.b.now _ _ _ i _ c.plain_length-n.ensures.0 c.if-b-at.true)

kept_is : (c : Joined-known) → c.if-known.kept ≡ cond c.args.known c.standing_of-d.result.common 0
kept_is c = elim c.if-known.branch [ then-known w ↦ rw (w.kept-is, w.if-known.true) | else-known w ↦ rw (w.kept-is, w.if-known.false) ]

pub read_named-requires : goal.read_named-requires
read_named-requires c =
    let a = c.args in
    let (fits, begun) = named-begun a.b.now a.c.start a.c.len _ _ a.known _ _ _ c.if-b-at.false c.standing_of-d.ensures c.requires.1 in
    (c.requires.0.there, c.if-b-at.false, c.plain_length-n.ensures.0, c.requires.0.most, rw (kept_is c) fits, rw (kept_is c) begun)

pub returns-in_err-t : goal.returns-in_err-t
returns-in_err-t c =
    let a = c.args in
    let error = err_from_is_err_and c.from_residual.result c.from_residual.ensures.1 in
    rw (error.1, error.2) (λ w v work head old. plain-bad _ v a.b.now work old a.c a.h _ c.in_err-t.ensures.0)

pub returns-then-not-d : goal.returns-then-not-d
returns-then-not-d c = λ w v work head old. plain-order _ v _ work old _ _ _ _ _ (compared (goal.at.returns-then-not-d c).In_ok-t) (not-true _ c.if-not-d.true)

pub returns : goal.returns
returns c = λ w v work head old. rw c.step_of.ensures (plain-good _ v _ work old _ _ _ _ _ (compared (goal.at.returns c).In_ok-t) head (not-false _ c.if-not-d.false))
