-- Laws of the fields of an entry.
use mathlib.Core.Path.{◌≡◌, refl, sym}
use mathlib.Core.List.{List}
use Prim.Native.Nat.{ℕ, ◌+◌, ◌-◌, ◌/◌, ◌%◌, ◌≤◌}
use native.Mathlib.Nat.{add-zero}
use native.Mathlib.Omega.{arith}
use lib.ListN.{length, take, drop, replicate, length-drop}
use lib.Seq.{length-take-le, take_at, drop-drop}
use lib.Dec.{eqb}
use Rattle.format.specs.Bytes.{be32, be32s}
use Rattle.format.specs.Reader.{is_set, entry_of}
use Rattle.format_laws.proofs.Numbers.{be32-drop}
use Rattle.entries.specs.declared.record.Fields.{Fields}
use Rattle.entries.specs.Record.{wide_object, FieldsRead}

-- those of the entry at a place, whose flags are x and whose extended word is y
abbrev pub fields_at : ℕ → List ℕ → ℕ → ℕ → ℕ → Fields
fields_at w b at x y = record {
  ctime_seconds = be32 b at;
  ctime_nanoseconds = be32 b (at + 4);
  mtime_seconds = be32 b (at + 8);
  mtime_nanoseconds = be32 b (at + 12);
  dev = be32 b (at + 16);
  ino = be32 b (at + 20);
  mode = be32 b (at + 24);
  uid = be32 b (at + 28);
  gid = be32 b (at + 32);
  size = be32 b (at + 36);
  object = wide_object (take w (drop (at + 40) b));
  assume_valid = eqb (x / 32768 % 2) 1;
  stage = x / 4096 % 4;
  skip_worktree = eqb (y / 16384 % 2) 1;
  intent_to_add = eqb (y / 8192 % 2) 1;
}

-- an object name of w bytes is what is read of the 32
pub wide-narrow : (w : ℕ) (o : List ℕ) → length o ≡ w → take w (wide_object o) ≡ o
wide-narrow w o long = take_at o (replicate (32 - length o) 0) w long

pub fields_read : (w : ℕ) (b : List ℕ) (at x y : ℕ) → at + (40 + w) ≤ length b → FieldsRead w (drop at b) x y (fields_at w b at x y)
unfolding entry_of is_set be32s
fields_read w b at x y inside =
    let first : be32 b at ≡ be32 (drop at b) 0 = rw (add-zero at) at (sym (be32-drop at b 0)) in
    let at-k : (k : ℕ) → be32 b (at + k) ≡ be32 (drop at b) k = λ k. sym (be32-drop at b k) in
    let long : length (take w (drop 40 (drop at b))) ≡ w = length-take-le w (drop 40 (drop at b)) (simp (length-drop, length-drop) (omega arith)) in
    record {
      entry = λ name. rw (
        first,
        at-k 4,
        at-k 8,
        at-k 12,
        at-k 16,
        at-k 20,
        at-k 24,
        at-k 28,
        at-k 32,
        at-k 36,
        ← (drop-drop 40 at b),
        wide-narrow w (take w (drop 40 (drop at b))) long,
      )
          refl;
      whole = λ name. rw (first, at-k 4, at-k 8, at-k 12, at-k 16, at-k 20, at-k 24, at-k 28, at-k 32, at-k 36, ← (drop-drop 40 at b)) refl;
    }
