-- A digest has twenty bytes. Assumes nothing.
use mathlib.Core.List.{List}
use mathlib.Core.Path.{◌≡◌, refl}
use Prim.Native.Nat.{ℕ}
use lib.ListN.{length}
use Rattle.hash_words.specs.Blocks.{digest_of}
use Rattle.hash_words.specs.Words.{bytes4}
use Rattle.hash.specs.Sha1.{digest, sha1}
use Rattle.hash.specs.declared.State.{State}

pub length-digest : (h : State) → length (digest h) ≡ 20
unfolding digest bytes4
length-digest h = refl

pub length-sha1 : (m : List ℕ) → length (sha1 m) ≡ 20
unfolding digest_of
length-sha1 m = length-digest _
