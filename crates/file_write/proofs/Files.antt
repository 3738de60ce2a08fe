-- The file that is written: the tests of its length, the checksum, the answer.
use mathlib.Core.Path.{◌≡◌, sym, ap, ◌∙◌}
use mathlib.Core.List.{List, ◌++◌}
use Rattle.std.specs.Prelude.{Ok}
use mathlib.Core.Bool.{true, false, ◌&&◌}
use Prim.Native.Nat.{ℕ, ◌+◌, ◌≤◌, ◌<◌}
use native.Mathlib.Omega.{arith}
use lib.ListN.{length, take, drop, length-append}
use lib.Seq.{take_at}
use lib.Dec.{eqb}
use borrow.Author.Tests.{le-leb, lt-leb}
use Rattle.format.specs.Records.{Entry, Records}
use Rattle.format.specs.Reading.{Read, bad, good, need}
use Rattle.format.specs.Refusals.{denied}
use Rattle.format.specs.Writer.{write_body, write_file}
use Rattle.format.specs.Requests.{any_word, version_of, version_for, fitting, writing}
use Rattle.versions.proofs.Laws.{four-known}
use Rattle.fields.proofs.Workspace.{frame_then}
use Rattle.output.specs.Output.{with_at, Wrote}
use Rattle.output.proofs.Laws.{wrote_then}
use Rattle.file_read.specs.declared.Parts.{Parts}
use Rattle.entries_edit.specs.declared.Edit.{Edit}
use Rattle.entries_edit.specs.declared.rest.WriteEnd.{WriteEnd}
use Rattle.entries_edit.specs.Edits.{Replaces}
use Rattle.file_write.specs.Bodies.{changed, BodyHas, BodyWritten}
use Rattle.file_write.proofs.Bodies.{body-same-length}
use Rattle.file_write.specs.Results.{Measured, Answers, FileWritten}

-- ---- the tests

-- w is the width of an object name and of the checksum, hash the checksum's function
module _ (w : ℕ) (hash : List ℕ → List ℕ) (width : (m : List ℕ) → length (hash m) ≡ w) (asked room : ℕ) (r : Records) where
  pub answer-worded : (eqb asked 2 && any_word r.entries) ≡ true → writing w hash asked room r ≡ bad 21 0
  unfolding writing need
  answer-worded h = rw h

  module _ (free : (eqb asked 2 && any_word r.entries) ≡ false) (n : ℕ) (size : n ≡ length (write_body w (version_of asked true) r)) where
    abbrev file : List ℕ
    file = write_file w hash (version_for asked r.entries) r

    body-long : length (write_body w (version_for asked r.entries) r) ≡ n
    unfolding version_for
    body-long = body-same-length w (version_for asked r.entries) (version_of asked true) r (four-known asked (any_word r.entries)) ∙ sym size

    file-long : length file ≡ n + w
    unfolding write_file
    file-long =
        let b : List ℕ = write_body w (version_for asked r.entries) r in
        length-append b (hash b) ∙ omega (arith, body-long, width b)

    pub answer-long : 16777216 < n + w → writing w hash asked room r ≡ bad 2 0
    unfolding writing fitting need
    answer-long h = let l = file-long in let long : 16777216 < length file = omega arith in rw (free, lt-leb (length file) 16777216 long)

    pub answer-small : n + w ≤ 16777216 → room < n + w → writing w hash asked room r ≡ bad 20 0
    unfolding writing fitting need
    answer-small s h =
        let l = file-long in
        let short : length file ≤ 16777216 = omega arith in
        let small : room < length file = omega arith in rw (free, le-leb (length file) 16777216 short, lt-leb (length file) room small)

    pub answer-good : n + w ≤ 16777216 → n + w ≤ room → writing w hash asked room r ≡ good file (length file)
    unfolding writing fitting need
    answer-good s h =
        let l = file-long in
        let short : length file ≤ 16777216 = omega arith in
        let fits : length file ≤ room = omega arith in rw (free, le-leb (length file) 16777216 short, le-leb (length file) room fits)

-- ---- the checksum after the body

with-start : (out s : List ℕ) → with_at out 0 s ≡ s ++ drop (length s) out
unfolding with_at
with-start out s = let z : 0 + length s ≡ length s = omega arith in rw z

pub appended : (w : ℕ) (hash : List ℕ → List ℕ) (v : ℕ) (r : Records) (out out₁ out₂ : List ℕ) (n m : ℕ) → Wrote out 0 (write_body w v r) out₁ n → Wrote out₁ n (hash (take n out₁)) out₂ m
    → n ≤ length out → Wrote out 0 (write_file w hash v r) out₂ m
unfolding write_file
appended w hash v r out out₁ out₂ n m x y fits =
    let b : List ℕ = write_body w v r in
    let size : n ≡ length b = omega (arith, x.end) in
    let held : out₁ ≡ b ++ drop (length b) out = x.held (omega arith) ∙ with-start out b in
    let front : take n out₁ ≡ b = rw held (take_at b _ n (sym size)) in
    let checksum : Wrote out₁ n (hash b) out₂ m = rw front at y in
    wrote_then out b (hash b) out₁ out₂ 0 n m x checksum

-- ---- the answer

pub answers-bad : (x : Read (List ℕ)) (n p : ℕ) (out : List ℕ) → x ≡ bad n p → Answers x out out (denied n p)
answers-bad x n p out e = record { said = rw e; filled = rw e }

pub answers-good : (x : Read (List ℕ)) (s out out' : List ℕ) (m : ℕ) → x ≡ good s (length s) → Wrote out 0 s out' m → length s ≤ length out
    → Answers x out out' (Ok m)
answers-good x s out out' m e wrote fits =
    let size : m ≡ length s = omega (arith, wrote.end) in
    record { said = rw (e, size); filled = rw e (wrote.held (omega arith) ∙ with-start out s) }

-- ---- the whole: after it was measured

module _ (w : ℕ) (hash : List ℕ → List ℕ) (width : (m : List ℕ) → length (hash m) ≡ w)
    (b work work₁ : List ℕ) (parts : Parts) (asked : ℕ) (edit : Edit) (e : Entry) (sized : WriteEnd) (m : Measured w b parts work edit e (version_of asked true) work₁ sized)
    (out : List ℕ) where
  pub file-worded : (eqb asked 2 && sized.extended) ≡ true → FileWritten w hash b parts work asked edit e out work₁ out (denied 21 0)
  file-worded h = record {
    answers = λ x has there. answers-bad _ 21 0 out (answer-worded w hash width asked (length out) _ (rw (m.extended x has there) at h));
    frame = m.frame;
  }

  module _ (free : (eqb asked 2 && sized.extended) ≡ false) where
    free_of : (x : Records) → BodyHas w b parts x → Replaces edit e.name x.entries → (eqb asked 2 && any_word (changed w edit e x).entries) ≡ false
    free_of x has there = rw (m.extended x has there) at free

    pub file-long-refused : 16777216 < sized.at + w → FileWritten w hash b parts work asked edit e out work₁ out (denied 2 0)
    file-long-refused h = record {
      answers = λ x has there. answers-bad _ 2 0 out (answer-long w hash width asked (length out) _ (free_of x has there) sized.at (m.size x has there) h);
      frame = m.frame;
    }

    module _ (short : sized.at + w ≤ 16777216) where
      pub file-small-refused : length out < sized.at + w → FileWritten w hash b parts work asked edit e out work₁ out (denied 20 0)
      file-small-refused h = record {
        answers = λ x has there. answers-bad _ 20 0 out (answer-small w hash width asked (length out) _ (free_of x has there) sized.at (m.size x has there) short h);
        frame = m.frame;
      }

      module _ (fits : sized.at + w ≤ length out) (version : ℕ) (is : version ≡ version_of asked sized.extended) (work₂ out₁ : List ℕ) (written : WriteEnd)
          (body : BodyWritten w b parts work₁ edit e version out work₂ out₁ written) where
        version_known : (x : Records) → BodyHas w b parts x → Replaces edit e.name x.entries → version ≡ version_for asked (changed w edit e x).entries
        unfolding version_for
        version_known x has there = is ∙ ap (version_of asked) (m.extended x has there)

        pub same_size : (x : Records) → BodyHas w b parts x → Replaces edit e.name x.entries → written.at ≡ sized.at
        same_size x has there =
            let wrote = body.wrote x has there in
            let long : length (write_body w version (changed w edit e x)) ≡ sized.at =
            rw (version_known x has there) (body-long w hash width asked (length out) (changed w edit e x) (free_of x has there) sized.at (m.size x has there)) in
            omega (arith, wrote.end)

        pub file-done : (out₂ : List ℕ) (r : ℕ) → Wrote out₁ written.at (hash (take written.at out₁)) out₂ r
            → FileWritten w hash b parts work asked edit e out work₂ out₂ (Ok r)
        file-done out₂ r checksum = record {
          answers = λ x has there.
              let y : Records = changed w edit e x in
              let free₁ = free_of x has there in
              let size = m.size x has there in
              let wrote : Wrote out 0 (write_body w (version_for asked y.entries) y) out₁ written.at = rw (version_known x has there) at (body.wrote x has there) in
              let same = same_size x has there in
              let whole = appended w hash (version_for asked y.entries) y out out₁ out₂ written.at r wrote checksum (omega arith) in
              answers-good _ _ out out₂ r (answer-good w hash width asked (length out) y free₁ sized.at size short fits) whole
              (omega (arith, file-long w hash width asked (length out) y free₁ sized.at size));
          frame = frame_then m.frame body.frame;
        }
