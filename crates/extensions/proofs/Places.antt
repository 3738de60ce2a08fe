-- Where the data of the first extension with the signature x are: what a loop over the extensions knows of it.
use mathlib.Core.Path.{◌≡◌, sym, ◌∙◌}
use mathlib.Core.List.{List}
use mathlib.Core.Bool.{cond}
use Prim.Native.Nat.{ℕ, suc, ◌+◌, ◌-◌, ◌≤◌}
use native.Mathlib.Omega.{arith}
use lib.ListN.{length, take, drop, length-drop}
use lib.Seq.{drop-drop}
use Rattle.format.specs.Bytes.{be32, eq_list}
use Rattle.format.specs.Places.{data_from, data_place}
use Rattle.format_laws.proofs.Numbers.{be32-drop}
use Rattle.std.specs.Prelude as Code
use Rattle.std.specs.Prelude.{Some, None, IfSome}
use Rattle.extensions.specs.declared.Place.{Place}
use Rattle.extensions.specs.Heads.{Inside}

-- where the data begin that were found, else the place n
abbrev pub start_or : Code.Option Place → ℕ → ℕ
start_or None n = n
start_or (Some f) n = f.at

-- some extensions, from at to place, have been passed; where one with the signature is among them, its data were found
pub record Seeks (x b : List ℕ) (at place : ℕ) (f : Code.Option Place) : Type 0 where
  pub passed : ℕ
  pub few : at + passed ≤ place
  pub same : (fuel : ℕ) → data_from x (passed + fuel) at (drop at b) ≡ start_or f (data_from x fuel place (drop place b))

module _ (x b : List ℕ) (at : ℕ) where
  pub seeks-none : Seeks x b at at None
  seeks-none = record { passed = 0; few = omega arith; same = λ fuel. let all : 0 + fuel ≡ fuel = omega arith in rw all }

  module _ (place : ℕ) (f : Code.Option Place) (h : Seeks x b at place f) where
    -- one extension more
    pub seeks-more : (next : ℕ) (f' : Code.Option Place) → Inside b place next
        → ((rest : ℕ) → start_or f (cond (eq_list (take 4 (drop place b)) x) (place + 8) rest) ≡ start_or f' rest) → Seeks x b at next f'
    unfolding data_from
    seeks-more next f' inside kind =
        let size = be32-drop place b 4 in
        let next-is : place + (8 + be32 (drop place b) 4) ≡ next = omega arith in
        record {
          passed = suc h.passed;
          few = omega arith;
          same =
              λ fuel.
              let more : suc h.passed + fuel ≡ h.passed + suc fuel = omega arith in
              rw more (h.same (suc fuel) ∙ rw (drop-drop (8 + be32 (drop place b) 4) place b, next-is) (kind (data_from x fuel next (drop next b))));
        }

  pub seeks-end : (place : ℕ) (f : Code.Option Place) → Seeks x b at place f → place ≤ length b → IfSome f (λ p. p.at ≡ data_place x at b)
  unfolding data_place
  seeks-end place None h inside = tt
  seeks-end place (Some f) h inside =
      let l = length-drop at b in
      let all : h.passed + (length (drop at b) - h.passed) ≡ length (drop at b) = omega arith in
      sym (rw all at (h.same (length (drop at b) - h.passed)))
