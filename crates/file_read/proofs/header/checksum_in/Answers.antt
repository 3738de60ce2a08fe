-- The proof that `checksum_in` meets its contract: each answer by one law.
use mathlib.Core.Path.{◌≡◌, sym, ap, ◌∙◌}
use mathlib.Core.Bool.{false}
use Prim.Native.Nat.{◌-◌}
use native.Mathlib.Omega.{arith}
use lib.ListN.{length, take, drop}
use lib.Seq.{length-take-le}
use Rattle.format.specs.Bytes.{eq_list, zeros}
use Rattle.kinds.specs.Kinds.{hash_of}
use Rattle.answers.specs.Answers.{checksum_as}
use Rattle.file_read.proofs.Headers.{rest_of, checksum-matches, checksum-left-out, checksum-wrong}
use Rattle.file_read.proofs.header.checksum_in.Goals as goal
use Rattle.file_read.proofs.header.checksum_in.Goals.{After-all_zero, After-same, After-same-arg-1, Else-same}

-- the last w bytes are compared with the digest of what is before them
compared : (c : After-same) →
    let a = c.args in
    let f = a.file.now in
    c.same.result ≡ eq_list (drop (length f - a.w) f) (hash_of a.kind (take (length f - a.w) f))
compared c =
    let f = c.args.file.now in
    c.same.ensures ∙ rw (rest_of (length f - c.args.w) f, rw (← c.requires.0) at c.digest_of-digest.ensures)

-- they do not match
differ : (c : Else-same) →
    let a = c.args in
    let f = a.file.now in
    eq_list (drop (length f - a.w) f) (hash_of a.kind (take (length f - a.w) f)) ≡ false
differ c = sym (let f = c.args.file.now in
    c.same.ensures ∙ rw (rest_of (length f - c.args.w) f, rw (← c.requires.0) at c.digest_of-digest.ensures)) ∙ c.if-same.false

-- and then they are looked at for zeros
looked : (c : After-all_zero) →
    let a = c.args in
    let f = a.file.now in
    c.all_zero.result ≡ zeros (drop (length f - a.w) f)
looked c =
    let a = c.args in
    c.all_zero.ensures ∙ rw (rest_of (length a.file.now - a.w) a.file.now)

pub slice_bounds-digest_of-end : goal.slice_bounds-digest_of-end
slice_bounds-digest_of-end c =
    let a = c.args in
    sym (length-take-le (length a.file.now - a.w) a.file.now (omega arith))

pub slice_bounds-same-end-2 : goal.slice_bounds-same-end-2
slice_bounds-same-end-2 c = sym (length-take-le _ c.digest_of-digest.result (omega arith))

pub returns-then-same : goal.returns-then-same
returns-then-same c = sym (ap checksum_as (checksum-matches _ _ _ (sym (compared (goal.at.returns-then-same c).After-same) ∙ c.if-same.true)))

pub returns-then-all_zero : goal.returns-then-all_zero
returns-then-all_zero c = sym (ap checksum_as (checksum-left-out _ _ _ (differ (goal.at.returns-then-all_zero c).Else-same) (sym (looked (goal.at.returns-then-all_zero c).After-all_zero) ∙ c.if-all_zero.true)))

pub returns : goal.returns
returns c = sym (ap checksum_as (checksum-wrong _ _ _ (differ (goal.at.returns c).Else-same) (sym (looked (goal.at.returns c).After-all_zero) ∙ c.if-all_zero.false)))
