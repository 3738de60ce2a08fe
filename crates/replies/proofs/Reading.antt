-- What a program reads from a list of numbers: a refusal's number and place, or the item that the bytes of its name make.
use mathlib.Core.Path.{◌≡◌, refl}
use mathlib.Core.List.{List, [], ◌∷◌, ◌++◌}
use mathlib.Core.Bool.{Bool, true, false, not}
use Prim.Native.Nat.{ℕ}
use native.Mathlib.Omega.{arith}
use lib.ListN.{take, get_or}
use lib.Dec.{eqb}
use Rattle.format.specs.Layout.{bit}
use Rattle.entries.specs.Record.{entry_with}
use Rattle.answers.specs.declared.Shown.{Shown}
use Rattle.answers.specs.declared.Shown.TheVariants as S
use Rattle.answers.specs.Answers.{View, refused, in_file, in_workspace, part_in, name_in, view_of}
use Rattle.replies.specs.Arrays.{name_reply, refusal_in, place_in, buffer_in, bytes_in, given_fields}

-- ---- parts of a reply

-- the bytes that a reply's name points at are the name that is shown
name-bytes : (s : Shown) (more file work : List ℕ) → bytes_in (name_reply s ++ more) file work ≡ name_in s file work
unfolding bytes_in buffer_in name_in part_in
name-bytes (S.InFile at n) more file work = refl
name-bytes (S.InWorkspace n) more file work = refl

-- the numbers after it, of a node and of a resolve-undo record
pub after-shown : (s : Shown) (a b c d : ℕ) → let r = name_reply s ++ (a ∷ b ∷ c ∷ d ∷ []) in
    (get_or r 5 0 ≡ a) × (get_or r 6 0 ≡ b) × (get_or r 7 0 ≡ c) × (get_or r 8 0 ≡ d)
after-shown (S.InFile at n) a b c d = (refl, refl, refl, refl)
after-shown (S.InWorkspace n) a b c d = (refl, refl, refl, refl)

pub after-path : (s : Shown) (a b c : ℕ) → let r = name_reply s ++ (a ∷ b ∷ c ∷ []) in (get_or r 5 0 ≡ a) × (get_or r 6 0 ≡ b) × (get_or r 7 0 ≡ c)
after-path (S.InFile at n) a b c = (refl, refl, refl)
after-path (S.InWorkspace n) a b c = (refl, refl, refl)

-- yes and no
pub flag-back : (b : Bool) → not (eqb (bit b) 0) ≡ b
flag-back true = refl
flag-back false = refl

-- of an object name that is given, what is after its w bytes is not read: put is given the same entry, and so writes the same file
pub given-unread : (w : ℕ) (numbers object other name : List ℕ) → take w object ≡ take w other
    → entry_with w (given_fields numbers object) name ≡ entry_with w (given_fields numbers other) name
given-unread w numbers object other name e = rw e refl

-- ---- what is told: v, by a refusal's number and place, or by 0 and the item x

pub record Tells {A : Type 0} (v : View A) (refusal place : ℕ) (x : A) : Type 0 where
  pub refuses : (n p : ℕ) → v ≡ refused n p → (refusal ≡ n) × (place ≡ p)
  pub file : (e : A) → v ≡ in_file e → (refusal ≡ 0) × (x ≡ e)
  pub workspace : (e : A) → v ≡ in_workspace e → (refusal ≡ 0) × (x ≡ e)

-- a refusal, whatever the item
pub denied-tells : {A : Type 0} (v : View A) (n p : ℕ) (x : A) → refused n p ≡ v → Tells v n p x
denied-tells v n p x e =
    rw (← e)
    (record {
      refuses = λ i j q. (cc, cc);
      file = λ y q. let z : ◌≡◌ {A = ℕ} 0 1 = cc in absurd (omega arith);
      workspace = λ y q. let z : ◌≡◌ {A = ℕ} 0 1 = cc in absurd (omega arith);
    })

module _ {A : Type 0} (more : List ℕ) where
  tells : (s : Shown) (x : A) → Tells (view_of s x) (refusal_in (name_reply s ++ more)) (place_in (name_reply s ++ more)) x
  tells (S.InFile at n) x = record {
    refuses = λ i j e. let z : ◌≡◌ {A = ℕ} 0 1 = cc in absurd (omega arith);
    file = λ y e. (refl, cc);
    workspace = λ y e. let z : ◌≡◌ {A = ℕ} 0 1 = cc in absurd (omega arith);
  }
  tells (S.InWorkspace n) x = record {
    refuses = λ i j e. let z : ◌≡◌ {A = ℕ} 0 1 = cc in absurd (omega arith);
    file = λ y e. let z : ◌≡◌ {A = ℕ} 0 1 = cc in absurd (omega arith);
    workspace = λ y e. (refl, cc);
  }

  -- of the item that a name makes
  pub shown-tells : (item : List ℕ → A) (s : Shown) (f work : List ℕ) (v : View A) → view_of s (item (name_in s f work)) ≡ v
      → Tells v (refusal_in (name_reply s ++ more)) (place_in (name_reply s ++ more)) (item (bytes_in (name_reply s ++ more) f work))
  shown-tells item s f work v e = rw (name-bytes s more f work, ← e) (tells s (item (name_in s f work)))
