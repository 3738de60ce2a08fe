-- Laws of what is told of a name among siblings, of the last of them, and of a scan. w is the width of an object name.
use Rattle.std.proofs.Common.{Some, None}
use mathlib.Core.Path.{◌≡◌}
use mathlib.Core.List.{List}
use mathlib.Core.Bool.{true, false}
use Prim.Native.Nat.{ℕ, ◌+◌, ◌-◌, ◌≤◌, ◌<◌}
use native.Mathlib.Omega.{arith}
use lib.ListN.{length, drop}
use Rattle.format.specs.Bytes.{eq_list}
use Rattle.format.specs.Records.{Forest}
use Rattle.format.specs.Layout.{distinct}
use Rattle.tree_nodes.specs.Flat.{trees_length, name_of, Reads}
use Rattle.tree_search.specs.Siblings.{Cursor, AnswerHolds}
use Rattle.tree_search.proofs.Siblings.{last-all, last-next, last-here, Searching, search-start, search-on, search-end}

-- ---- the last of some siblings

module _ (d : List ℕ) (at k : ℕ) where
  pub cursor-all : {w : ℕ} → at ≤ length d → Cursor w d at k at k
  cursor-all l = record { least = omega arith; most = l; last = λ f m differ r. last-all d f at k m differ r }

  module _ {w : ℕ} (place left : ℕ) (cursor : Cursor w d at k place left) (some_left : 0 < left) where
    pub cursor-next : (next rest : ℕ) → next ≡ place + trees_length w 1 (drop place d) → next ≤ length d → rest ≡ left - 1 → Cursor w d at k next rest
    cursor-next next rest is l rest-is = record {
      least = omega arith;
      most = l;
      last = λ f m differ r. rw rest-is (last-next d f place left (cursor.last f m differ r) some_left next is);
    }

    pub cursor-here : (name : List ℕ) → eq_list name (name_of (drop place d)) ≡ true → AnswerHolds w d at k name (Some (Some place))
    cursor-here name e = record {
      least = cursor.least;
      most = cursor.most;
      is = λ f m differ r. last-here d f place left (cursor.last f m differ r) some_left name e;
    }

  pub told-unknown : {w : ℕ} (name : List ℕ) → at ≤ length d → AnswerHolds w d at k name None
  told-unknown name l = record { least = l; most = omega arith; is = λ f m differ r. _ }

-- ---- a scan that has come to a place: the name is not before it

pub record Scanning (w : ℕ) (d : List ℕ) (at k : ℕ) (name : List ℕ) (place left : ℕ) : Type 0 where
  pub least : at ≤ place
  pub most : place ≤ length d
  pub is : (f : Forest) (m : ℕ) → distinct f ≡ true → Reads w (drop at d) f k m → Searching w d f name place left

module _ (d : List ℕ) (at k : ℕ) (name : List ℕ) where
  pub scan-start : {w : ℕ} → at ≤ length d → Scanning w d at k name at k
  scan-start l = record { least = omega arith; most = l; is = λ f m differ r. search-start d f name at k m differ r }

  module _ {w : ℕ} (place left : ℕ) (x : Scanning w d at k name place left) where
    pub scan-on : 0 < left → eq_list name (name_of (drop place d)) ≡ false → (next rest : ℕ) → next ≡ place + trees_length w 1 (drop place d) → next ≤ length d → rest ≡ left - 1
        → Scanning w d at k name next rest
    scan-on some_left e next rest is l rest-is = record {
      least = omega arith;
      most = l;
      is = λ f m differ r. rw rest-is (search-on d f name place left (x.is f m differ r) some_left e next is);
    }

    pub scan-here : 0 < left → eq_list name (name_of (drop place d)) ≡ true → AnswerHolds w d at k name (Some (Some place))
    scan-here some_left e =
        cursor-here d at k place left
        (record { least = x.least; most = x.most; last = λ f m differ r. (x.is f m differ r).last })
        some_left name e

    pub scan-end : left ≤ 0 → AnswerHolds w d at k name (Some None)
    scan-end l = record { least = omega arith; most = omega arith; is = λ f m differ r. search-end d f name place left (x.is f m differ r) l }
