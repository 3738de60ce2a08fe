-- Laws of an entry of version 2 or 3, whose key before it matters for order alone.
use mathlib.Core.Path.{◌≡◌, sym, ◌∙◌}
use mathlib.Core.List.{List}
use mathlib.Core.Bool.{true, false}
use Prim.Native.Nat.{ℕ, ◌+◌, ◌/◌, ◌%◌}
use lib.ListN.{drop}
use lib.Dec.{eqb}
use Rattle.format.specs.Names.{ok_name, compare, rises}
use Rattle.format.specs.Records.{Entry, Key, start}
use Rattle.format.specs.Reading.{bad, good, need, shift, bind}
use Rattle.format.specs.Reader.{read_plain, read_name, entry_of, read_tail, read_entry}
use Rattle.format_laws.proofs.Keys.{start-follow}
use Rattle.format_laws.proofs.Readings.{good-inv, need-inv, bind_inv, bind-good}
use Rattle.spelling.proofs.Names.{name-read}
use Rattle.entries.proofs.Before.{read_entry-head}

module _ (w v p : ℕ) (old : eqb v 4 ≡ false) where
  name-plain : (previous : List ℕ) (f field : ℕ) (s : List ℕ) → read_name v f p previous field s ≡ read_plain f p field s
  unfolding read_name
  name-plain previous f field s = rw old

  plain-name : (f field : ℕ) (s name : List ℕ) (m : ℕ) → read_plain f p field s ≡ good name m → ok_name name ≡ true
  plain-name f field s name m e = (name-read v f p start.name field s name m (name-plain start.name f field s ∙ e)).2

  module _ (f x y : ℕ) (s : List ℕ) where
    pub tail-bad : (k : Key) (n : ℕ) → read_plain f p (x % 4096) (drop f s) ≡ bad n p → read_tail w v k p f x y s ≡ bad n p
    unfolding read_tail bind
    tail-bad k n e = rw (name-plain k.name f (x % 4096) (drop f s), e)

    -- every name is after the empty one
    pub tail-start : (name : List ℕ) (m : ℕ) → read_plain f p (x % 4096) (drop f s) ≡ good name m
        → read_tail w v start p f x y s ≡ good (entry_of w s x y name) (m + 0)
    unfolding read_tail bind shift need
    tail-start name m e =
        let rising : rises (compare start.name name) 0 (x / 4096 % 4) ≡ true = start-follow (record { name = name; stage = x / 4096 % 4 }) (plain-name f (x % 4096) (drop f s) name m e) in
        rw (name-plain start.name f (x % 4096) (drop f s), e, rising)

    tail-any : (k : Key) (e : Entry) (m : ℕ) → read_tail w v k p f x y s ≡ good e m → read_tail w v start p f x y s ≡ good e m
    unfolding read_tail
    tail-any k e m q =
        bind_inv _ _ _ _ q λ name i j named ordered sum.
        need-inv _ _ _ _ _ _ ordered λ rising is.
        good-inv _ _ _ _ is λ e-is j-is.
        tail-start name i (sym (name-plain k.name f (x % 4096) (drop f s)) ∙ named) ∙ rw (e-is, j-is, sum)

  -- what is sound after some entry is sound after the empty name
  pub any-key : (k : Key) (s : List ℕ) (e : Entry) (m : ℕ) → read_entry w v k p s ≡ good e m → read_entry w v start p s ≡ good e m
  any-key k s e m q =
      bind_inv _ _ _ _ (sym (read_entry-head w v k p s) ∙ q) λ h i j head rest sum.
      read_entry-head w v start p s ∙ bind-good _ _ _ _ _ _ head (tail-any h.length h.flags h.word s k e j rest) ∙ rw sum
