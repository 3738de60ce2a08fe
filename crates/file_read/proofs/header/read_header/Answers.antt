-- The proof that `read_header` meets its contract: each answer by one law.
use mathlib.Core.Path.{◌≡◌, sym, ap, ◌∙◌}
use mathlib.Core.Bool.{true}
use Prim.Native.Nat.{◌-◌}
use native.Mathlib.Omega.{arith}
use lib.ListN.{length, take}
use lib.Seq.{length-take-le}
use Rattle.format.specs.Bytes.{eq_list}
use Rattle.format.specs.Checksum.{checksum_in}
use Rattle.format.specs.Layout.{DIRC}
use Rattle.format_laws.proofs.Numbers.{be32-take}
use Rattle.kinds.specs.Kinds.{hash_of}
use Rattle.answers.specs.Answers.{checksum_as}
use Rattle.file_read.specs.Header.{is_version, is_wrong}
use Rattle.file_read.proofs.Headers.{version-in, wrong-same, Sized, file-cut, file-over, file-unsigned, file-version, file-checksum, file-body}
use Rattle.file_read.proofs.header.read_header.Goals as goal
use Rattle.file_read.proofs.header.read_header.Goals.{After-eq, After-version_ok-known, Else-not-known, Else-not-signed}

-- what is known once the three tests are made
sized : (c : After-version_ok-known) → Sized c.args.w c.args.file.now c.read32-version.result
sized c =
    record { long = c.if-file-w.false; short = c.if-file-gt-LARGEST.false; version = c.read32-version.ensures }

signed : (c : Else-not-signed) → eq_list (take 4 c.args.file.now) DIRC ≡ true
signed c = sym c.same-signed.ensures ∙ c.if-not-signed.false

known : (c : Else-not-known) → is_version c.read32-version.result ≡ true
known c = sym c.version_ok-known.ensures ∙ c.if-not-known.false

-- whether the checksum is wrong
wrong : (c : After-eq) →
    let a = c.args in
    is_wrong (checksum_as (checksum_in a.w (hash_of a.kind) a.file.now)) ≡ c.eq.result
wrong c = sym (c.eq.ensures ∙ wrong-same _ ∙ ap is_wrong c.checksum_in-checksum.ensures)

pub returns-then-file-w : goal.returns-then-file-w
returns-then-file-w c = rw c.at.ensures (file-cut _ _ _ c.if-file-w.true)

pub returns-then-file-gt-LARGEST : goal.returns-then-file-gt-LARGEST
returns-then-file-gt-LARGEST c = rw c.at-then-file-gt-LARGEST.ensures (file-over _ _ _ c.if-file-w.false c.if-file-gt-LARGEST.true)

pub slice_bounds-same-end : goal.slice_bounds-same-end
slice_bounds-same-end c = sym (length-take-le 4 c.args.file.now (omega arith))

pub returns-then-not-signed : goal.returns-then-not-signed
returns-then-not-signed c = rw c.at-then-not-signed.ensures (file-unsigned _ _ _ _ (sized (goal.at.returns-then-not-signed c).After-version_ok-known) (sym c.same-signed.ensures ∙ c.if-not-signed.true))

pub returns-then-not-known : goal.returns-then-not-known
returns-then-not-known c = rw c.at-then-not-known.ensures (file-version _ _ _ _ (sized (goal.at.returns-then-not-known c).After-version_ok-known) (signed (goal.at.returns-then-not-known c).Else-not-signed) (sym c.version_ok-known.ensures ∙ c.if-not-known.true))

pub returns-then-eq : goal.returns-then-eq
returns-then-eq c =
    let s = sized (goal.at.returns-then-eq c).After-version_ok-known in
    rw c.at-then-eq.ensures (file-checksum _ _ _ _ s (signed (goal.at.returns-then-eq c).Else-not-signed) (known (goal.at.returns-then-eq c).Else-not-known) (wrong (goal.at.returns-then-eq c).After-eq ∙ c.if-eq.true))

pub returns : goal.returns
returns c =
    let a = c.args in
    let f = a.file.now in
    let w = a.w in
    let s = sized (goal.at.returns c).After-version_ok-known in
    let (least, most) = version-in _ (known (goal.at.returns c).Else-not-known) in
    record {
      long = s.long;
      short = s.short;
      least = least;
      most = most;
      counted = c.read32.ensures ∙ sym (be32-take f (length f - w) 8 (omega (arith, s)));
      checked = c.checksum_in-checksum.ensures;
      read = file-body _ _ _ _ s (signed (goal.at.returns c).Else-not-signed) (known (goal.at.returns c).Else-not-known) (wrong (goal.at.returns c).After-eq ∙ c.if-eq.false);
    }
