-- What the check of a file's last bytes answers: matches exactly where they are the digest, left out exactly where they are other zeros.
use mathlib.Core.Path.{◌≡◌, refl}
use mathlib.Core.Logic.{◌⊎◌, inl, inr}
use mathlib.Core.List.{List}
use mathlib.Core.Bool.{true, false, cond}
use Prim.Native.Nat.{ℕ}
use lib.ListN.{length, replicate}
use Rattle.format.specs.Bytes.{eq_list, zeros}
use Rattle.format.specs.Checksum.{Checksum, matches, left_out, wrong, checksum_of, is_sound}
use Rattle.format_laws.proofs.Tests.{false-true, by_cond}
use Rattle.format_laws.proofs.Lists.{eq_list-true, eq_list-refl}
use Rattle.spelling.proofs.Bytes.{zeros-replicate, replicate-zeros}

module _ (digest : List ℕ) where
  -- the digest itself matches, also where it is all zeros
  pub digest-matches : checksum_of digest digest ≡ matches
  unfolding checksum_of
  digest-matches = rw (eq_list-refl digest)

  -- zeros are never wrong
  pub zeros-sound : (w : ℕ) → is_sound (checksum_of digest (replicate w 0)) ≡ true
  unfolding checksum_of
  zeros-sound w =
      by_cond (λ c. is_sound c ≡ true) (eq_list (replicate w 0) digest) matches (cond (zeros (replicate w 0)) left_out wrong)
      (λ _. refl)
      (λ _. rw (zeros-replicate w) refl)

  module _ (last : List ℕ) (w : ℕ) where
    -- what is not wrong matches, and is the digest, or was left out, and is zeros and not the digest
    abbrev pub Which : Checksum → Type 0
    Which c = ((c ≡ matches) × (last ≡ digest)) ⊎ ((c ≡ left_out) × (last ≡ replicate w 0) × (eq_list last digest ≡ false))

    pub which : length last ≡ w → is_sound (checksum_of digest last) ≡ true → Which (checksum_of digest last)
    unfolding checksum_of
    which wide =
        by_cond (λ c. is_sound c ≡ true → Which c) (eq_list last digest) matches (cond (zeros last) left_out wrong)
        (λ same _. inl (refl, eq_list-true last digest same))
        (λ differ. by_cond (λ c. is_sound c ≡ true → Which c) (zeros last) left_out wrong
        (λ zero _. inr (refl, rw wide at (replicate-zeros last zero), differ))
        (λ _ e. false-true e))

    pub sound-inv : length last ≡ w → is_sound (checksum_of digest last) ≡ true → (last ≡ digest) ⊎ (last ≡ replicate w 0)
    sound-inv wide e = forget (which wide e)
      where
        forget : {c : Checksum} → Which c → (last ≡ digest) ⊎ (last ≡ replicate w 0)
        forget (inl (_, same)) = inl same
        forget (inr (_, left, _)) = inr left
