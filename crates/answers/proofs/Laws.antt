-- Laws of the workspace, of names that answers point at, and of items.
use mathlib.Core.Path.{◌≡◌, refl, sym, ◌∙◌}
use mathlib.Core.List.{List, [], ◌∷◌, ◌++◌}
use mathlib.Core.Bool.{true, false}
use mathlib.Core.Option.{none}
use Prim.Native.Nat.{ℕ, zero, suc, ◌+◌, ◌-◌, ◌≤◌, ◌<◌}
use native.Mathlib.Omega.{arith}
use lib.ListN.{length, take, drop, replicate, get_elem?, length-append, length-replicate, length-drop}
use lib.Seq.{length-take-le, take-take, take_at}
use borrow.Author.Tests.{lt-ltb, le-ltb, le-leb, lt-leb}
use Rattle.format.specs.Reading.{Read, bad, good}
use Rattle.format_laws.proofs.Tests.{cond-inv}
use Rattle.format_laws.proofs.Readings.{bad-good}
use Rattle.format_laws.proofs.Lists.{past-zeros}
use Rattle.fields.specs.Workspace.{Frame}
use Rattle.answers.specs.declared.Shown.TheVariants.{InWorkspace}
use Rattle.answers.specs.Answers.{too_small, in_room, cleared, holding, part_in, name_in}

-- ---- the workspace

module _ (work : List ℕ) where
  pub small : length work < 8192 → too_small work ≡ true
  unfolding too_small
  small h = lt-ltb (length work) 8192 h

  pub large : 8192 ≤ length work → too_small work ≡ false
  unfolding too_small
  large h = le-ltb (length work) 8192 h

  -- the reading of a file with it
  module _ {A : Type 0} (x : Read A) where
    pub room_small : too_small work ≡ true → in_room work x ≡ bad 19 0
    unfolding in_room
    room_small t = rw t

    pub room-large : too_small work ≡ false → in_room work x ≡ x
    unfolding in_room
    room-large t = rw t

    pub room-inv {ℓ} : {X : Type ℓ} (a : A) (m : ℕ) → in_room work x ≡ good a m → (too_small work ≡ false → x ≡ good a m → X) → X
    unfolding in_room
    room-inv a m e g = cond-inv (too_small work) (bad 19 0) x (good a m) e (λ t q. bad-good _ _ _ _ q) g

  -- one that is too small stays as it is; of any other, cleared is what fields::clear leaves
  pub cleared-small : length work < 8192 → cleared work ≡ work
  unfolding cleared
  cleared-small h = rw (small h)

  pub cleared-large : 8192 ≤ length work → cleared work ≡ replicate 8192 0 ++ drop 8192 work
  unfolding cleared
  cleared-large h = rw (large h)

  pub cleared-frame : 8192 ≤ length work → Frame work (cleared work)
  cleared-frame h =
      rw (cleared-large h)
      (record {
        long = length-append (replicate 8192 0) (drop 8192 work) ∙ omega (arith, length-replicate {A = ℕ} 8192 0, length-drop 8192 work);
        past = past-zeros 8192 (drop 8192 work);
      })

-- only what lies past the 8,192nd byte of a workspace matters to what is left of it when it is cleared
pub cleared-same : (work written : List ℕ) → 8192 ≤ length work → Frame work written → cleared written ≡ cleared work
cleared-same work written room frame =
    let also : 8192 ≤ length written = omega (arith, frame) in
    cleared-large written also ∙ rw frame.past (sym (cleared-large work room))

-- a workspace that was written up to its 8,192nd byte: what fields::clear_from leaves of it
module _ (work written : List ℕ) (rest : drop 8192 written ≡ drop 8192 work) where
  pub holding-after : (n : ℕ) → n ≤ length written → take n written ++ (replicate (8192 - n) 0 ++ drop 8192 written) ≡ holding (take n written) work
  unfolding holding
  holding-after n h = rw (rest, length-take-le n written h)

-- ---- names

module _ (at n : ℕ) (s : List ℕ) where
  pub part_out : length s < at + n → part_in at n s ≡ []
  unfolding part_in
  part_out h = rw (lt-leb (at + n) (length s) h)

  pub part_in_lem : at + n ≤ length s → part_in at n s ≡ take n (drop at s)
  unfolding part_in
  part_in_lem h = rw (le-leb (at + n) (length s) h)

-- a part of the first m elements
pub part-within : (m at n : ℕ) (s : List ℕ) → at + n ≤ m → take n (drop at (take m s)) ≡ take n (drop at s)
part-within m zero n s h = take-take n m s (omega arith)
part-within zero (suc at) n s h = absurd (omega arith)
part-within (suc m) (suc at) n [] h = refl
part-within (suc m) (suc at) n (x ∷ s) h = part-within m at n s (omega arith)

-- a name that a workspace holds is the one that an answer with its length points at
pub holding-name : (name file work : List ℕ) → name_in (InWorkspace (length name)) file (holding name work) ≡ name
unfolding name_in holding
holding-name name file work =
    let rest : List ℕ = replicate (8192 - length name) 0 ++ drop 8192 work in
    let fits : 0 + length name ≤ length (name ++ rest) = simp length-append (omega arith) in
    part_in_lem 0 (length name) (name ++ rest) fits ∙ take_at name rest (length name) refl

-- ---- items

-- a list has no item past its end
pub item-none : {A : Type 0} (l : List A) (k : ℕ) → length l ≤ k → get_elem? l k ≡ none
item-none [] k h = refl
item-none (a ∷ l) zero h = absurd (omega arith)
item-none (a ∷ l) (suc k) h = item-none l k (omega arith)
