-- Laws of the kinds. Assumes nothing.
use mathlib.Core.Path.{◌≡◌, refl}
use mathlib.Core.Bool.{Bool, true, false, cond}
use mathlib.Core.List.{List}
use Prim.Native.Nat.{ℕ, ◌≤◌}
use native.Mathlib.Omega.{arith}
use lib.Dec.{eqb}
use lib.ListN.{length}
use borrow.Author.Tests.{ne_eqb}
use Rattle.format.specs.Reading.{Read, bad, good, need}
use Rattle.format.specs.Reader.{Contents, read_file}
use Rattle.format_laws.proofs.Readings.{need-inv}
use Rattle.hash.specs.Sha1.{sha1}
use Rattle.hash.proofs.Bytes.{length-sha1}
use Rattle.sha256.specs.Sha256.{sha256}
use Rattle.sha256.proofs.Bytes.{length-sha256}
use Rattle.kinds.specs.Kinds.{ok_kind, width_of, hash_of, of_kind, read_kind}

-- ---- widths

module _ (kind : ℕ) where
  pub width-least : 20 ≤ width_of kind
  unfolding width_of
  width-least = by (eqb kind 2)
    where
      by : (t : Bool) → 20 ≤ cond t 32 20
      by true = omega arith
      by false = omega arith

  pub width-most : width_of kind ≤ 32
  unfolding width_of
  width-most = by (eqb kind 2)
    where
      by : (t : Bool) → cond t 32 20 ≤ 32
      by true = omega arith
      by false = omega arith

  pub length-hash : (m : List ℕ) → length (hash_of kind m) ≡ width_of kind
  unfolding width_of hash_of
  length-hash m = by (eqb kind 2)
    where
      by : (t : Bool) → length (cond t (sha256 m) (sha1 m)) ≡ cond t 32 20
      by true = length-sha256 m
      by false = length-sha1 m

-- ---- the two kinds, by the test that tells them apart

module _ (kind : ℕ) where
  module _ (is : kind ≡ 2) where
    pub width-sha256 : width_of kind ≡ 32
    unfolding width_of
    width-sha256 = rw is refl

    pub hash-sha256 : (m : List ℕ) → hash_of kind m ≡ sha256 m
    unfolding hash_of
    hash-sha256 m = rw is refl

  module _ (other : kind ≡ 2 → ⊥) where
    pub width-other : width_of kind ≡ 20
    unfolding width_of
    width-other = rw (ne_eqb kind 2 other)

    pub hash-other : (m : List ℕ) → hash_of kind m ≡ sha1 m
    unfolding hash_of
    hash-other m = rw (ne_eqb kind 2 other)

pub sha1-known : ok_kind 1 ≡ true
unfolding ok_kind
sha1-known = refl

pub sha256-known : ok_kind 2 ≡ true
unfolding ok_kind
sha256-known = refl

-- ---- known and unknown kinds

module _ {A : Type 0} (kind : ℕ) (x : Read A) where
  -- of a known kind the file is read
  pub known_read : ok_kind kind ≡ true → of_kind kind x ≡ x
  unfolding of_kind need
  known_read known = rw known

  -- any other refuses
  pub unknown-refused : ok_kind kind ≡ false → of_kind kind x ≡ bad 29 0
  unfolding of_kind need
  unknown-refused unknown = rw unknown

  -- what was read is of a known kind
  pub read_known {ℓ} : {X : Type ℓ} (a : A) (m : ℕ) → of_kind kind x ≡ good a m → (ok_kind kind ≡ true → x ≡ good a m → X) → X
  unfolding of_kind
  read_known a m e f = need-inv (ok_kind kind) 29 0 x a m e f

-- the same of a whole file
module _ (kind : ℕ) (f : List ℕ) where
  pub known-file : ok_kind kind ≡ true → read_kind kind f ≡ read_file (width_of kind) (hash_of kind) f
  unfolding read_kind
  known-file known = known_read kind (read_file (width_of kind) (hash_of kind) f) known

  pub unknown-file : ok_kind kind ≡ false → read_kind kind f ≡ bad 29 0
  unfolding read_kind
  unknown-file unknown = unknown-refused kind (read_file (width_of kind) (hash_of kind) f) unknown

  pub file-known {ℓ} :
      {X : Type ℓ} (c : Contents) (m : ℕ) → read_kind kind f ≡ good c m →
      (ok_kind kind ≡ true → read_file (width_of kind) (hash_of kind) f ≡ good c m → X) → X
  unfolding read_kind
  file-known c m e g = read_known kind (read_file (width_of kind) (hash_of kind) f) c m e g
