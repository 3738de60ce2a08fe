-- A message, block by block, for any function of a block. Assumes nothing.
use Rattle.std.proofs.Common.{◌≡◌, ℕ, zero, suc, ◌+◌, ◌*◌, ◌/◌, ◌%◌, ◌<◌, List, ◌++◌, length, get_or, take, drop, refl, sym, ap, ◌∙◌, add-zero, add-suc, arith, length-append, get_or-drop, drop_at}
use lib.ListN.{get_or-append}
use Rattle.hash_words.specs.Blocks.{absorb, finish, digest_of}
use Rattle.hash_words.specs.Padding.{pad, padded, ending, Tail}
use Rattle.hash_words.specs.Words.{words}
use Rattle.hash_words.proofs.Padding.{length-padded, length-ending, padded-at, padded-append}
use Rattle.hash_words.proofs.Words.{words_same}

module _ {S : Type 0} (block : S → List ℕ → S) where
  pub absorb-none : (h : S) (p : List ℕ) → absorb block h p 0 ≡ h
  unfolding absorb
  absorb-none h p = refl

  -- one more block
  pub absorb-more : (h : S) (p : List ℕ) (n : ℕ) → absorb block h p (suc n) ≡ block (absorb block h p n) (words p (n * 64) 16)
  unfolding absorb
  absorb-more h p n = refl

  pub absorb-one : (h : S) (p : List ℕ) → absorb block h p 1 ≡ block h (words p 0 16)
  unfolding absorb
  absorb-one h p = refl

  -- equal bytes give equal states
  pub absorb-same : (h : S) (p q : List ℕ) (n : ℕ) → ((k : ℕ) → k < n * 64 → get_or p k 0 ≡ get_or q k 0) → absorb block h p n ≡ absorb block h q n
  absorb-same h p q zero e = absorb-none h p ∙ sym (absorb-none h q)
  absorb-same h p q (suc n) e =
      let w : words p (n * 64) 16 ≡ words q (n * 64) 16 = words_same p q (n * 64) (n * 64) 16 (λ k a. e (n * 64 + k) (omega arith)) in
      rw (absorb-more h p n, absorb-more h q n, absorb-same h p q n (λ k a. e k (omega arith)), w)

  -- i blocks, and then j of what follows them
  pub absorb-add : (h : S) (p : List ℕ) (i j : ℕ) → absorb block h p (i + j) ≡ absorb block (absorb block h p i) (drop (i * 64) p) j
  absorb-add h p i zero = rw add-zero (sym (absorb-none (absorb block h p i) (drop (i * 64) p)))
  absorb-add h p i (suc j) =
      let w : words p ((i + j) * 64) 16 ≡ words (drop (i * 64) p) (j * 64) 16 =
      words_same p (drop (i * 64) p) ((i + j) * 64) (j * 64) 16 (λ k a.
      let e : (i + j) * 64 + k ≡ i * 64 + (j * 64 + k) = omega arith in rw e (sym (get_or-drop (i * 64) p (j * 64 + k) 0))) in
      rw (add-suc, absorb-more h p (i + j), absorb-more (absorb block h p i) (drop (i * 64) p) j, absorb-add h p i j, w)

  -- a piece of whole blocks, and then the next
  pub absorb-append : (h : S) (a b : List ℕ) → length a % 64 ≡ 0
      → absorb block h (a ++ b) (length (a ++ b) / 64) ≡ absorb block (absorb block h a (length a / 64)) b (length b / 64)
  absorb-append h a b z =
      let n : length (a ++ b) / 64 ≡ length a / 64 + length b / 64 = rw length-append (omega arith) in
      let d : drop (length a / 64 * 64) (a ++ b) ≡ b = drop_at a b (length a / 64 * 64) (omega arith) in
      let s : absorb block h (a ++ b) (length a / 64) ≡ absorb block h a (length a / 64) =
      absorb-same h (a ++ b) a (length a / 64) (λ k l. get_or-append a b 0 k (omega arith)) in
      rw n (absorb-add h (a ++ b) (length a / 64) (length b / 64) ∙ rw (d, s))

  -- the first block of what is left, and then the rest of it
  pub absorb-next : (h r : S) (p a b : List ℕ) → p ≡ a ++ b → length a ≡ 64 → r ≡ block h (words a 0 16)
      → absorb block h p (length p / 64) ≡ absorb block r b (length b / 64)
  absorb-next h r p a b e l er =
      let one : length a / 64 ≡ 1 = omega arith in
      rw e (absorb-append h a b (omega arith) ∙ rw (one, absorb-one h a, ← er))

  -- less than a block is left
  pub absorb-rest : (h : S) (p : List ℕ) → length p < 64 → absorb block h p (length p / 64) ≡ h
  absorb-rest h p l = let none : length p / 64 ≡ 0 = omega arith in rw none (absorb-none h p)

  -- the whole padded message, n bytes long, whose last piece is m
  abbrev pub ended : S → List ℕ → ℕ → S
  ended h m n = absorb block h (padded n m) (length (padded n m) / 64)

  -- whole blocks that are absorbed first do not change how the message is finished
  pub ended-append : (h : S) (a b : List ℕ) (n : ℕ) → length a % 64 ≡ 0 → ended h (a ++ b) n ≡ ended (absorb block h a (length a / 64)) b n
  ended-append h a b n z = rw (padded-append n a b z) (absorb-append h a (padded n b) z)

  -- the whole blocks of m, and then the ending
  pub ended-tail : (h g s : S) (m t u : List ℕ) (n : ℕ) → g ≡ absorb block h m (length m / 64) → Tail n m t → u ≡ take (length (ending n m)) t
      → s ≡ absorb block g u (length u / 64) → s ≡ ended h m n
  unfolding ending
  ended-tail h g s m t u n eg tl eu es =
      let lp = length-padded n m in
      let le = length-ending n m in
      let count : length (padded n m) / 64 ≡ length m / 64 + length (ending n m) / 64 = omega arith in
      let q : u ≡ ending n m = eu ∙ tl.begins in
      let first : absorb block h (padded n m) (length m / 64) ≡ g =
      absorb-same h (padded n m) m (length m / 64) (λ k a. padded-at n m k (omega arith)) ∙ sym eg in
      es ∙ rw (q, ← first) (sym (absorb-add h (padded n m) (length m / 64) (length (ending n m) / 64)) ∙ rw count)

  module _ {D : Type 0} (digest : S → D) where
    -- whole blocks that are absorbed first do not change how the message is finished
    pub finish-append : (h : S) (a b : List ℕ) (n : ℕ) → length a % 64 ≡ 0
        → finish block digest h (a ++ b) n ≡ finish block digest (absorb block h a (length a / 64)) b n
    unfolding finish
    finish-append h a b n z = ap digest (ended-append h a b n z)

    module _ (first : S) where
      -- a message in one piece
      pub finish-whole : (m : List ℕ) → finish block digest first m (length m) ≡ digest_of block first digest m
      unfolding finish digest_of pad
      finish-whole m = refl

      -- finishing b from the state after a, with the length of both, gives the digest of both
      pub digest_of-pieces : (a b : List ℕ) → length a % 64 ≡ 0
          → finish block digest (absorb block first a (length a / 64)) b (length (a ++ b)) ≡ digest_of block first digest (a ++ b)
      digest_of-pieces a b z = sym (finish-append first a b (length (a ++ b)) z) ∙ finish-whole (a ++ b)
