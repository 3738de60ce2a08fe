-- The tests of an extension's head, one after another.
use mathlib.Core.Path.{◌≡◌, sym, ◌∙◌}
use mathlib.Core.List.{List}
use mathlib.Core.Bool.{Bool, true, false, ◌&&◌}
use Prim.Native.Nat.{ℕ, ◌+◌, ◌-◌, ◌≤◌, ◌<◌}
use native.Mathlib.Omega.{arith}
use lib.ListN.{length, take, drop, get_or, length-drop}
use lib.Seq.{drop-drop, get_or-drop}
use lib.Dec.{leb}
use borrow.Author.Tests.{le-leb, lt-leb}
use Rattle.format.specs.Bytes.{be32, eq_list}
use Rattle.format.specs.Layout.{TREE, REUC, cache_tree, resolve_undo, other, optional}
use Rattle.format.specs.Reading.{bad, good, need, shift}
use Rattle.format.specs.Reader.{Seen, read_tree, read_data, read_extension}
use Rattle.format_laws.proofs.Lists.{part_length}
use Rattle.format_laws.proofs.Numbers.{be32-drop}
use Rattle.format_laws.proofs.Readings.{same_size}
use Rattle.extensions.specs.Heads.{part, undos_in, known}

-- a test of the signature, as the code cuts it out
pub four_bytes : (b : List ℕ) (at : ℕ) (s : List ℕ) (r : Bool) {t : Bool} → r ≡ eq_list (part b at (at + 4)) s → r ≡ t → eq_list (take 4 (drop at b)) s ≡ t
four_bytes b at s r e f = let four : at + 4 - at ≡ 4 = omega arith in rw four at (sym e) ∙ f

module _ (w : ℕ) (b : List ℕ) (at : ℕ) (inside : at ≤ length b) (ns : List (List ℕ)) (k : Seen) where
  pub head-short : length b - at < 8 → read_extension w ns k at (drop at b) ≡ bad 12 at
  unfolding read_extension need
  head-short h = let l = length-drop at b in rw (lt-leb 8 (length (drop at b)) (omega arith))

  module _ (long : 8 ≤ length b - at) (size : ℕ) (is : size ≡ be32 b (at + 4)) where
    size_is : be32 (drop at b) 4 ≡ size
    size_is = be32-drop at b 4 ∙ sym is

    eight : leb 8 (length (drop at b)) ≡ true
    eight = let l = length-drop at b in le-leb 8 (length (drop at b)) (omega arith)

    pub head-cut : length b - at - 8 < size → read_extension w ns k at (drop at b) ≡ bad 12 at
    unfolding read_extension need
    head-cut h = let l = length-drop at b in rw (eight, size_is, lt-leb (8 + size) (length (drop at b)) (omega arith))

    module _ (fits : size ≤ length b - at - 8) where
      whole : leb (8 + size) (length (drop at b)) ≡ true
      whole = let l = length-drop at b in le-leb (8 + size) (length (drop at b)) (omega arith)

      first_byte : get_or (drop at b) 0 0 ≡ get_or b at 0
      first_byte = let e : at + 0 ≡ at = omega arith in get_or-drop at b 0 0 ∙ rw e

      pub head-unknown : (leb 65 (get_or b at 0) && leb (get_or b at 0) 90) ≡ false → read_extension w ns k at (drop at b) ≡ bad 13 at
      unfolding read_extension need optional
      head-unknown h = rw (eight, size_is, whole, first_byte, h)

      module _ (letter : (leb 65 (get_or b at 0) && leb (get_or b at 0) 90) ≡ true) (end : ℕ) (ends : end ≡ at + 4 + 4 + size) where
        data_is : take size (drop 8 (drop at b)) ≡ part b (at + 8) end
        data_is = let e : end - (at + 8) ≡ size = omega arith in rw (e, drop-drop 8 at b)

        read-rest : read_extension w ns k at (drop at b) ≡ shift 8 (read_data w ns k at (take 4 (drop at b)) (part b (at + 8) end))
        unfolding read_extension need optional
        read-rest = rw (eight, size_is, whole, first_byte, letter, data_is)

        pub head-tree : eq_list (take 4 (drop at b)) TREE ≡ true
            → read_extension w ns k at (drop at b) ≡ known k.cache_tree at (read_tree w ns at (part b (at + 8) end)) cache_tree
        unfolding read_data known
        head-tree e = read-rest ∙ rw e

        module _ (no-tree : eq_list (take 4 (drop at b)) TREE ≡ false) where
          pub head-undo : eq_list (take 4 (drop at b)) REUC ≡ true
              → read_extension w ns k at (drop at b)
              ≡ known k.resolve_undo at (undos_in w at (part b (at + 8) end)) resolve_undo
          unfolding read_data known
          head-undo e = read-rest ∙ rw (no-tree, e)

          pub head-other : eq_list (take 4 (drop at b)) REUC ≡ false
              → read_extension w ns k at (drop at b) ≡ good (other (take 4 (drop at b)) (part b (at + 8) end)) (end - at)
          unfolding read_data shift
          head-other e = let l = part_length b (at + 8) end (omega arith) in read-rest ∙ rw (no-tree, e) (same_size (omega arith))
