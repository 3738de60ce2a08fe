-- A message that is hashed as it comes, for any function of a block. Assumes nothing.
use Rattle.std.proofs.Common.{◌≡◌, ℕ, ◌+◌, ◌*◌, ◌/◌, ◌%◌, ◌^◌, ◌<◌, ◌≤◌, List, [], ◌++◌, length, take, drop, sym, refl, ap, ◌∙◌, arith, length-append, length-drop, take-append-drop, length-take-le, take_all, get_or-take, take_at}
use lib.ListN.{get_or-append}
use lib.Seq.{sets, sets-eq, length-sets, drop-length, drop-append-le, drop-append-add}
use Rattle.hash_words.specs.Buffer.{Buffered}
use Rattle.hash_words.specs.Padding.{padded, pad}
use Rattle.hash_words.specs.Blocks.{absorb}
use Rattle.hash_words.proofs.Blocks.{absorb-none, absorb-same, absorb-add, absorb-append, ended, ended-append}
use Rattle.hash_words.proofs.Padding.{padded-low}

-- what a run of stores leaves, up to its end
sets-take : (b a : List ℕ) (u : ℕ) → u + length a ≤ length b → take (u + length a) (sets b u a) ≡ take u b ++ a
sets-take b a u h =
    let l : length (take u b ++ a) ≡ u + length a = length-append (take u b) a ∙ rw (length-take-le u b (omega arith)) in
    rw (sets-eq a b u h) (take_at (take u b ++ a) (drop (u + length a) b) (u + length a) l)

module _ {S : Type 0} (block : S → List ℕ → S) (first : S) where
  -- the message that is empty so far
  pub buffered-none : (b : List ℕ) → length b ≡ 64 → Buffered (absorb block) first [] first b 0
  buffered-none b l = record { state = sym (absorb-none block first []); long = l; begins = refl; counts = refl }

  module _ (m a b : List ℕ) (s : S) (n : ℕ) (h : Buffered (absorb block) first m s b n) where
    place : n % 64 ≡ length m % 64
    place = let e = h.counts in omega arith

    counted : (n + length a) % 2 ^ 64 ≡ length (m ++ a) % 2 ^ 64
    counted = let e = h.counts in rw length-append (omega arith)

    -- the blocks of m are those of what begins with m
    before : absorb block first (m ++ a) (length m / 64) ≡ s
    before = absorb-same block first (m ++ a) m (length m / 64) (λ k l. get_or-append m a 0 k (omega arith)) ∙ sym h.state

    -- the slice a behind the bytes that are kept
    joined : n % 64 + length a ≤ 64 → take (n % 64 + length a) (sets b (n % 64) a) ≡ drop (length m / 64 * 64) (m ++ a)
    joined fits =
        sets-take b a (n % 64) (omega (arith, h.long))
        ∙ rw (place, h.begins) (sym (drop-append-le (length m / 64 * 64) m a (omega arith)))

    -- a slice that fills no block is kept
    pub buffered-kept : n % 64 + length a < 64 → Buffered (absorb block) first (m ++ a) s (sets b (n % 64) a) ((n + length a) % 2 ^ 64)
    buffered-kept fits =
        let p = place in
        let e : length (m ++ a) / 64 ≡ length m / 64 = rw length-append (omega arith) in
        let r : length (m ++ a) % 64 ≡ n % 64 + length a = rw length-append (omega arith) in
        record {
          state = rw e (sym before);
          long = length-sets b (n % 64) a ∙ h.long;
          begins = rw (e, r) (joined (omega arith));
          counts = counted;
        }

    -- a slice that fills the block: it is absorbed
    pub buffered-filled : n % 64 + length a ≡ 64 → (c : List ℕ) (t : S) → c ≡ sets b (n % 64) a → t ≡ absorb block s c (length c / 64)
        → Buffered (absorb block) first (m ++ a) t c ((n + length a) % 2 ^ 64)
    buffered-filled fits c t ec et =
        let p = place in
        let l : length c ≡ 64 = ap length ec ∙ length-sets b (n % 64) a ∙ h.long in
        let e : length (m ++ a) / 64 ≡ length m / 64 + 1 = rw length-append (omega arith) in
        let r : length (m ++ a) % 64 ≡ 0 = rw length-append (omega arith) in
        let w : length (m ++ a) / 64 * 64 ≡ length (m ++ a) = omega arith in
        let f : c ≡ drop (length m / 64 * 64) (m ++ a) = sym (take_all (n % 64 + length a) c (omega arith)) ∙ ap (take (n % 64 + length a)) ec ∙ joined (omega arith) in
        let o : length c / 64 ≡ 1 = omega arith in
        record {
          state = et ∙ rw (o, f, ← before) (sym (absorb-add block first (m ++ a) (length m / 64) 1) ∙ rw e);
          long = l;
          begins = rw (r, w) (sym (drop-length (m ++ a)));
          counts = counted;
        }

    -- a slice from the end of a block on: its whole blocks are absorbed, the bytes after them kept
    pub buffered-whole : n % 64 ≡ 0 → (t : S) (r : List ℕ) → t ≡ absorb block s a (length a / 64) → r ≡ drop (length a / 64 * 64) a
        → Buffered (absorb block) first (m ++ a) t (sets b 0 r) ((n + length a) % 2 ^ 64)
    buffered-whole z t r et er =
        let p = place in
        let q : length m % 64 ≡ 0 = omega arith in
        let lr : length r ≡ length a % 64 = rw er (simp length-drop (omega arith)) in
        let e : length (m ++ a) % 64 ≡ 0 + length r = rw length-append (omega arith) in
        let d : drop (length (m ++ a) / 64 * 64) (m ++ a) ≡ r =
        (let k : length (m ++ a) / 64 * 64 ≡ length m + length a / 64 * 64 = rw length-append (omega arith) in
        rw (k, er) (drop-append-add m a (length a / 64 * 64))) in
        record {
          state = et ∙ rw h.state (sym (absorb-append block first m a q));
          long = length-sets b 0 r ∙ h.long;
          begins = rw (e, d) (sets-take b r 0 (omega (arith, h.long)));
          counts = counted;
        }

  -- the bytes that are kept end the message
  pub buffered-ended : (m b : List ℕ) (s : S) (n : ℕ) → Buffered (absorb block) first m s b n
      → ended block s (take (n % 64) b) n ≡ absorb block first (pad m) (length (pad m) / 64)
  unfolding pad
  buffered-ended m b s n h =
      let k : ℕ = length m / 64 * 64 in
      let a : List ℕ = take k m in
      let e = h.counts in
      let place : n % 64 ≡ length m % 64 = omega arith in
      let la : length a ≡ k = length-take-le k m (omega arith) in
      let c : length a / 64 ≡ length m / 64 = omega arith in
      let g : absorb block first a (length a / 64) ≡ s =
      rw c (absorb-same block first a m (length m / 64) (λ i l. get_or-take k m i 0 l) ∙ sym h.state) in
      let whole : ended block first m n ≡ ended block s (drop k m) n =
      rw (g, take-append-drop k m) at (ended-append block first a (drop k m) n (omega arith)) in
      let low : padded n m ≡ padded (length m) m = rw e (padded-low (length m) m) in
      rw (place, h.begins, ← low) (sym whole)
