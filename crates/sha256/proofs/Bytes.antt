-- A digest has thirty-two bytes. Assumes nothing.
use mathlib.Core.List.{List}
use mathlib.Core.Path.{◌≡◌, refl}
use Prim.Native.Nat.{ℕ}
use lib.ListN.{length}
use Rattle.hash_words.specs.Blocks.{digest_of}
use Rattle.hash_words.specs.Words.{bytes4}
use Rattle.sha256.specs.Sha256.{digest, sha256}
use Rattle.sha256.specs.declared.State.{State}

pub length-digest : (h : State) → length (digest h) ≡ 32
unfolding digest bytes4
length-digest h = refl

pub length-sha256 : (m : List ℕ) → length (sha256 m) ≡ 32
unfolding digest_of
length-sha256 m = length-digest _
