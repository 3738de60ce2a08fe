-- The words of a block, and the bytes of a word. Assumes nothing.
use Rattle.std.proofs.Common.{◌≡◌, ℕ, zero, suc, ◌+◌, ◌*◌, ◌<◌, List, ◌∷◌, length, get_or, refl, ap, ap₂, add-zero, add_assoc, arith}
use Rattle.hash_words.specs.Words.{be32, bytes4, words}

pub length-words : (p : List ℕ) (i n : ℕ) → length (words p i n) ≡ n
unfolding words
length-words p i zero = refl
length-words p i (suc n) = ap suc (length-words p (i + 4) n)

pub get_d_words : (p : List ℕ) (i n k : ℕ) → k < n → get_or (words p i n) k 0 ≡ be32 p (i + k * 4)
unfolding words
get_d_words p i zero k h = absurd (omega arith)
get_d_words p i (suc n) zero h = rw add-zero
get_d_words p i (suc n) (suc k) h =
    let e : i + suc k * 4 ≡ i + 4 + k * 4 = omega arith in
    rw e (get_d_words p (i + 4) n k (omega arith))

-- words of equal bytes are equal
pub words_same : (p q : List ℕ) (i j n : ℕ) → ((k : ℕ) → k < n * 4 → get_or p (i + k) 0 ≡ get_or q (j + k) 0) → words p i n ≡ words q j n
unfolding words be32
words_same p q i j zero h = refl
words_same p q i j (suc n) h =
    let h0 : get_or p i 0 ≡ get_or q j 0 = rw (add-zero i, add-zero j) at (h 0 (omega arith)) in
    let b : be32 p i ≡ be32 q j = rw (h0, h 1 (omega arith), h 2 (omega arith), h 3 (omega arith)) in
    ap₂ (λ (x : ℕ) (y : List ℕ). x ∷ y) b
    (words_same p q (i + 4) (j + 4) n (λ k l. rw (add_assoc i 4 k, add_assoc j 4 k) (h (4 + k) (omega arith))))

pub length-bytes4 : (x : ℕ) → length (bytes4 x) ≡ 4
unfolding bytes4
length-bytes4 x = refl
