-- The padded message. Assumes nothing.
use Rattle.std.proofs.Common.{◌≡◌, ℕ, suc, ◌+◌, ◌-◌, ◌*◌, ◌/◌, ◌%◌, ◌^◌, ◌<◌, ◌≤◌, List, ◌∷◌, ◌++◌, length, get_or, drop, set, replicate, sym, ap, ◌∙◌, append_assoc, arith, length-append, length-drop}
use lib.ListN.{length-replicate, replicate-append-replicate, get_or-append}
use lib.Seq.{sets, length-sets, set_at, take-append_seam, drop-append-le}
use Rattle.std.specs.Int.{w64, to_be_bytes}
use Rattle.hash_words.specs.Padding.{be64, padded, ending, Tail}
use Rattle.hash_words.specs.Words.{bytes4}
use Rattle.hash_words.proofs.Copying.{sets-after, drop-replicate}
use Rattle.hash_words.proofs.Words.{length-bytes4}

pub length-be64 : (x : ℕ) → length (be64 x) ≡ 8
unfolding be64
length-be64 x = simp (length-append, length-bytes4)

-- the bytes of a count of bits that is kept to 64 of them
pub be64-bytes : (x : ℕ) → to_be_bytes w64 (x % 2 ^ 64) ≡ be64 x
unfolding be64 bytes4
be64-bytes x =
    let b7 : x % 2 ^ 64 / 256 ^ 7 % 256 ≡ x / 2 ^ 32 / 2 ^ 24 % 256 = omega arith in
    let b6 : x % 2 ^ 64 / 256 ^ 6 % 256 ≡ x / 2 ^ 32 / 2 ^ 16 % 256 = omega arith in
    let b5 : x % 2 ^ 64 / 256 ^ 5 % 256 ≡ x / 2 ^ 32 / 2 ^ 8 % 256 = omega arith in
    let b4 : x % 2 ^ 64 / 256 ^ 4 % 256 ≡ x / 2 ^ 32 % 256 = omega arith in
    let b3 : x % 2 ^ 64 / 256 ^ 3 % 256 ≡ x / 2 ^ 24 % 256 = omega arith in
    let b2 : x % 2 ^ 64 / 256 ^ 2 % 256 ≡ x / 2 ^ 16 % 256 = omega arith in
    let b1 : x % 2 ^ 64 / 256 ^ 1 % 256 ≡ x / 2 ^ 8 % 256 = omega arith in
    let b0 : x % 2 ^ 64 % 256 ≡ x % 256 = omega arith in
    rw (b7, b6, b5, b4, b3, b2, b1, b0)

-- the low 64 bits of a number decide
be64-low : (x y : ℕ) → x % 2 ^ 64 ≡ y % 2 ^ 64 → be64 x ≡ be64 y
be64-low x y e = sym (be64-bytes x) ∙ rw e (be64-bytes y)

-- ---- the padded message
pub length-padded : (n : ℕ) (m : List ℕ) → length (padded n m) ≡ length m + 1 + (119 - length m % 64) % 64 + 8
unfolding padded
length-padded n m = simp (length-append, length-replicate, length-be64) (omega arith)

-- it begins with the message
pub padded-at : (n : ℕ) (m : List ℕ) (k : ℕ) → k < length m → get_or (padded n m) k 0 ≡ get_or m k 0
unfolding padded
padded-at n m k h = get_or-append m _ 0 k h

-- a length that is counted modulo 2 ^ 64
pub padded-low : (n : ℕ) (m : List ℕ) → padded (n % 2 ^ 64) m ≡ padded n m
unfolding padded
padded-low n m = rw (be64-low (n % 2 ^ 64 * 8) (n * 8) (omega arith))

-- whole blocks before the last piece are not changed
pub padded-append : (n : ℕ) (a b : List ℕ) → length a % 64 ≡ 0 → padded n (a ++ b) ≡ a ++ padded n b
unfolding padded
padded-append n a b h =
    let e : length (a ++ b) % 64 ≡ length b % 64 = rw length-append (omega arith) in
    rw e (append_assoc a b (128 ∷ (replicate ((119 - length b % 64) % 64) 0 ++ be64 (n * 8))))

pub length-ending : (n : ℕ) (m : List ℕ) → length (ending n m) ≡ length m % 64 + 1 + (119 - length m % 64) % 64 + 8
unfolding ending
length-ending n m = simp (length-drop, length-padded) (omega arith)

-- ---- the tail
module _ (n : ℕ) (m : List ℕ) where
  -- the ending without its count of bits
  opening : List ℕ
  opening = drop (length m / 64 * 64) m ++ (128 ∷ replicate ((119 - length m % 64) % 64) 0)

  length-opening : length opening ≡ length m % 64 + 1 + (119 - length m % 64) % 64
  unfolding opening
  length-opening = simp (length-append, length-drop, length-replicate) (omega arith)

  ending-is : ending n m ≡ opening ++ be64 (n * 8)
  unfolding ending padded opening
  ending-is =
      drop-append-le (length m / 64 * 64) m _ (omega arith)
      ∙ sym (append_assoc (drop (length m / 64 * 64) m) (128 ∷ replicate ((119 - length m % 64) % 64) 0) (be64 (n * 8)))

  -- what the code leaves: the last piece of m that is no whole block over zeros, then the byte 128, then the count of bits at end
  module _ (end : ℕ) (place : length m % 64 + 1 + (119 - length m % 64) % 64 ≡ end) (room : end + 8 ≤ 128) where
    marked : set (drop (length m / 64 * 64) m ++ drop (length m % 64) (replicate 128 0)) (length m % 64) 128 ≡ opening ++ replicate (128 - end) 0
    unfolding opening
    marked =
        let z : ℕ = (119 - length m % 64) % 64 in
        let e : 128 - length m % 64 ≡ suc (z + (128 - end)) = omega arith in
        rw (drop-replicate (length m % 64) 128, e)
        (set_at (drop (length m / 64 * 64) m) 0 (replicate (z + (128 - end)) 0) 128 (length m % 64) (simp length-drop (omega arith))
        ∙ rw (sym (replicate-append-replicate {A = ℕ} z (128 - end) 0))
        (sym (append_assoc (drop (length m / 64 * 64) m) (128 ∷ replicate z 0) (replicate (128 - end) 0))))

    pub tail-right : (t u : List ℕ) → t ≡ drop (length m / 64 * 64) m ++ drop (length m % 64) (replicate 128 0)
        → u ≡ sets (set t (length m % 64) 128) end (be64 (n * 8)) → Tail n m u
    tail-right t u et eu =
        let r : List ℕ = replicate (128 - end) 0 in
        let b : List ℕ = be64 (n * 8) in
        let lo : length opening ≡ end = length-opening ∙ place in
        let all : length (opening ++ r) ≡ 128 = simp (length-append, lo, length-replicate) (omega arith) in
        let e : u ≡ sets (opening ++ r) end b = eu ∙ rw (et, marked) in
        let q : u ≡ ending n m ++ drop (end + length b) (opening ++ r) =
        e ∙ sets-after opening r b end lo (omega (arith, length-be64 (n * 8))) ∙ rw ending-is (sym (append_assoc opening b (drop (end + length b) (opening ++ r)))) in
        record { long = ap length e ∙ length-sets (opening ++ r) end b ∙ all; begins = rw q (take-append_seam (ending n m) (drop (end + length b) (opening ++ r))) }
