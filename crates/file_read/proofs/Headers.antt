-- The tests that a whole file meets before its entries are read, one after another.
use mathlib.Core.Path.{◌≡◌, refl, sym}
use mathlib.Core.List.{List}
use mathlib.Core.Bool.{true, false}
use Prim.Native.Nat.{ℕ, ◌+◌, ◌-◌, ◌≤◌, ◌<◌}
use native.Mathlib.Omega.{arith}
use lib.ListN.{length, take, drop, length-drop}
use lib.Seq.{take_all}
use lib.Dec.{leb}
use borrow.Author.Tests.{leb-true, le-leb, lt-leb}
use Rattle.format.specs.Bytes.{be32, eq_list, zeros}
use Rattle.format.specs.Layout.{DIRC}
use Rattle.format.specs.Checksum.{Checksum, matches, left_out, wrong, checksum_of, checksum_in, is_sound}
use Rattle.format.specs.Reading.{bad, need}
use Rattle.format.specs.Reader.{read_body, read_file}
use Rattle.format_laws.proofs.Tests.{and-inv}
use denote.Enum.Bare.{sameb}
use Rattle.answers.specs.contracts.Checksum.{the_type}
use Rattle.answers.specs.declared.Checksum as C
use Rattle.answers.specs.declared.Checksum.TheVariants.{Matches, LeftOut, Wrong}
use Rattle.answers.specs.Answers.{checksum_as}
use Rattle.file_read.specs.Header.{is_version, is_wrong}

-- all that follows the first n
pub rest_of : (n : ℕ) (f : List ℕ) → take (length f - n) (drop n f) ≡ drop n f
rest_of n f = take_all (length f - n) (drop n f) (simp length-drop (omega arith))

-- a version of the format is 2 to 4
pub version-in : (v : ℕ) → is_version v ≡ true → (2 ≤ v) × (v ≤ 4)
unfolding is_version
version-in v e = let (l, h) = and-inv (leb 2 v) (leb v 4) e in (leb-true 2 v l, leb-true v 4 h)

-- ---- the checksum

module _ (w : ℕ) (hash : List ℕ → List ℕ) (f : List ℕ) where
  pub checksum-matches : eq_list (drop (length f - w) f) (hash (take (length f - w) f)) ≡ true → checksum_in w hash f ≡ matches
  unfolding checksum_in checksum_of
  checksum-matches h = rw h

  module _ (differ : eq_list (drop (length f - w) f) (hash (take (length f - w) f)) ≡ false) where
    pub checksum-left-out : zeros (drop (length f - w) f) ≡ true → checksum_in w hash f ≡ left_out
    unfolding checksum_in checksum_of
    checksum-left-out h = rw (differ, h)

    pub checksum-wrong : zeros (drop (length f - w) f) ≡ false → checksum_in w hash f ≡ wrong
    unfolding checksum_in checksum_of
    checksum-wrong h = rw (differ, h)

-- as the code tests it
pub wrong-same : (c : C.Checksum) → sameb the_type c Wrong ≡ is_wrong c
wrong-same Matches = refl
wrong-same LeftOut = refl
wrong-same Wrong = refl

-- as the code answers it
wrong-unsound : (c : Checksum) → is_wrong (checksum_as c) ≡ true → is_sound c ≡ false
wrong-unsound matches e = sym e
wrong-unsound left_out e = sym e
wrong-unsound wrong e = refl

right-sound : (c : Checksum) → is_wrong (checksum_as c) ≡ false → is_sound c ≡ true
right-sound matches e = refl
right-sound left_out e = refl
right-sound wrong e = sym e

-- ---- the tests, in their order

-- the length is right, and the version field is v
pub record Sized (w : ℕ) (f : List ℕ) (v : ℕ) : Type 0 where
  pub long : 12 + w ≤ length f
  pub short : length f ≤ 16777216
  pub version : v ≡ be32 f 4

module _ (w : ℕ) (hash : List ℕ → List ℕ) (f : List ℕ) where
  pub file-cut : length f < 12 + w → read_file w hash f ≡ bad 1 0
  unfolding read_file need
  file-cut h = rw (lt-leb _ _ h)

  pub file-over : 12 + w ≤ length f → 16777216 < length f → read_file w hash f ≡ bad 2 0
  unfolding read_file need
  file-over long h = rw (le-leb _ _ long, lt-leb _ _ h)

  module _ (v : ℕ) (s : Sized w f v) where
    -- after the length: the signature, the version, the checksum, the body
    file-sized :
        read_file w hash f
        ≡ need (eq_list (take 4 f) DIRC) 3 0
        (need (is_version v) 4 0
        (need (is_sound (checksum_in w hash f)) 5 (length f - w) (read_body w v (checksum_in w hash f) (take (length f - w) f))))
    unfolding read_file need is_version
    file-sized = rw (le-leb _ _ s.long, le-leb _ _ s.short, s.version)

    pub file-unsigned : eq_list (take 4 f) DIRC ≡ false → read_file w hash f ≡ bad 3 0
    unfolding need
    file-unsigned h = rw (file-sized, h)

    module _ (signed : eq_list (take 4 f) DIRC ≡ true) where
      pub file-version : is_version v ≡ false → read_file w hash f ≡ bad 4 0
      unfolding need
      file-version h = rw (file-sized, signed, h)

      module _ (known : is_version v ≡ true) where
        pub file-checksum : is_wrong (checksum_as (checksum_in w hash f)) ≡ true → read_file w hash f ≡ bad 5 (length f - w)
        unfolding need
        file-checksum h = rw (file-sized, signed, known, wrong-unsound (checksum_in w hash f) h)

        pub file-body : is_wrong (checksum_as (checksum_in w hash f)) ≡ false → read_file w hash f ≡ read_body w v (checksum_in w hash f) (take (length f - w) f)
        unfolding need
        file-body h = rw (file-sized, signed, known, right-sound (checksum_in w hash f) h)
