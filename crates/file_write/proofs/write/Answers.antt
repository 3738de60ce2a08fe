-- The proof that `write` meets its contract.
use mathlib.Core.Path.{◌≡◌, sym, ◌∙◌}
use mathlib.Core.List.{List}
use mathlib.Core.Bool.{true, false, ◌&&◌}
use Prim.Native.Nat.{ℕ}
use native.Mathlib.Omega.{arith}
use lib.ListN.{length}
use lib.Dec.{eqb}
use Rattle.format.specs.Requests.{version_of}
use Rattle.kinds.specs.Kinds.{hash_of}
use Rattle.kinds.proofs.Laws.{length-hash}
use Rattle.entries.specs.Record.{entry_with}
use Rattle.file_write.specs.Results.{Measured}
use Rattle.file_write.proofs.Files.{file-worded, file-long-refused, file-small-refused, same_size, file-done}
use Rattle.file_write.proofs.write.Goals as goal
use Rattle.file_write.proofs.write.Goals.{After-measure-sized, After-put_body-written, Else-is_barred, Start}

-- the checksum has the width
width : (c : Start) (m : List ℕ) → length (hash_of c.args.kind m) ≡ c.args.w
width c m = length-hash c.args.kind m ∙ sym c.requires.1

-- the body was measured
measured :
    (c : After-measure-sized) →
    let a = c.args in
    Measured a.w a.b.now a.parts a.work.now a.edit (entry_with a.w a.fields a.name.now) (version_of a.asked true) c.measure-sized.new.work
    c.measure-sized.result
measured c = rw c.version_for.ensures at c.measure-sized.ensures

-- no entry needs a word that its version lacks
free : (c : Else-is_barred) → (eqb c.args.asked 2 && c.measure-sized.result.extended) ≡ false
free c = sym c.is_barred.ensures ∙ c.if-is_barred.false

-- it was written as long as it was measured
lengths : (c : After-put_body-written) → c.put_body-written.result.at ≡ c.measure-sized.result.at
lengths c =
    let p = c.requires.0 in
    same_size _ (hash_of c.args.kind) (λ m. length-hash c.args.kind m ∙ sym c.requires.1) _ _ _ _ c.args.asked _ _ _ (rw c.version_for.ensures at c.measure-sized.ensures) _ (sym c.is_barred.ensures ∙ c.if-is_barred.false) c.if-long-gt16777216.false c.if-out-long.false _ c.version_for-version.ensures _ _ _ c.put_body-written.ensures
    p.records p.has p.there

pub returns-then-is_barred : goal.returns-then-is_barred
returns-then-is_barred c =
    rw c.at.ensures (file-worded _ (hash_of c.args.kind) (width (goal.at.returns-then-is_barred c).Start) _ _ _ _ _ _ _ _ (measured (goal.at.returns-then-is_barred c).After-measure-sized) _ (sym c.is_barred.ensures ∙ c.if-is_barred.true))

pub returns-then-long-gt16777216 : goal.returns-then-long-gt16777216
returns-then-long-gt16777216 c =
    rw c.at-then-long-gt16777216.ensures (file-long-refused _ (hash_of c.args.kind) (width (goal.at.returns-then-long-gt16777216 c).Start) _ _ _ _ _ _ _ _ (measured (goal.at.returns-then-long-gt16777216 c).After-measure-sized) _ (free (goal.at.returns-then-long-gt16777216 c).Else-is_barred) c.if-long-gt16777216.true)

pub returns-then-out-long : goal.returns-then-out-long
returns-then-out-long c =
    rw c.at-then-out-long.ensures (file-small-refused _ (hash_of c.args.kind) (width (goal.at.returns-then-out-long c).Start) _ _ _ _ _ _ _ _ (measured (goal.at.returns-then-out-long c).After-measure-sized) _ (free (goal.at.returns-then-out-long c).Else-is_barred) c.if-long-gt16777216.false c.if-out-long.true)

pub put_body-written-requires : goal.put_body-written-requires
put_body-written-requires c =
    let p = c.requires.0 in (
      record {
        room = record { least = p.room.least; most = p.room.most; room = omega (arith, (measured (goal.at.put_body-written-requires c).After-measure-sized).frame, p.room.room) };
        few = p.few;
        reach = p.reach;
        stage = p.stage;
        short = p.short;
        records = p.records;
        has = p.has;
        there = p.there;
      },
      c.requires.2,
      c.requires.3,
    )

pub append_checksum-requires : goal.append_checksum-requires
append_checksum-requires c =
    let same = lengths (goal.at.append_checksum-requires c).After-put_body-written in
    (omega (arith, c.put_body-written.ensures.out_long), omega arith, c.requires.1, c.requires.3)

pub returns : goal.returns
returns c =
    file-done _ (hash_of c.args.kind) (width (goal.at.returns c).Start) _ _ _ _ _ _ _ _ (measured (goal.at.returns c).After-measure-sized) _ (free (goal.at.returns c).Else-is_barred) c.if-long-gt16777216.false c.if-out-long.false _ c.version_for-version.ensures _ _ _ c.put_body-written.ensures _ _
    c.append_checksum.ensures
