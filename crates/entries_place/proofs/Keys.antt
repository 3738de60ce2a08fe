-- How the code compares an entry to a key, from how their names compare.
use mathlib.Core.Path.{◌≡◌}
use mathlib.Core.Bool.{true, false, not, ◌&&◌, ◌||◌}
use Prim.Native.Nat.{ℕ}
use native.Mathlib.Omega.{arith}
use lib.Dec.{eqb, ltb}
use Rattle.std.proofs.Common.{Less, Equal, Greater}
use Rattle.format.specs.Bytes.{eq_list}
use Rattle.format.specs.Names.{compare}
use Rattle.format.specs.Records.{Key}
use Rattle.format.specs.Requests.{goes_before, same_key, mixes}
use Rattle.format_laws.proofs.Tests.{by-test}
use Rattle.format_laws.proofs.Lists.{eq_list-true, eq_list-refl}
use Rattle.format_laws.proofs.Orders.{other-orders, compare_self, compare_same}
use Rattle.entries_place.specs.Places.{KeysCompared}

module _ (a b : Key) where
  other_name : (compare a.name b.name ≡ Equal → ⊥) → eq_list a.name b.name ≡ false
  other_name h = by-test (eq_list a.name b.name) (λ p. absurd (h (rw (eq_list-true a.name b.name p) (compare_self b.name)))) (λ p. p)

  pub compared-below : compare a.name b.name ≡ Less → KeysCompared a b (record { before = true; same = false; mixes = false })
  unfolding goes_before same_key mixes
  compared-below e =
      let other = other_name (λ same. other-orders e same) in
      record { before = rw e; same = rw other; mixes = rw other }

  pub compared-above : compare a.name b.name ≡ Greater → KeysCompared a b (record { before = false; same = false; mixes = false })
  unfolding goes_before same_key mixes
  compared-above e =
      let other = other_name (λ same. let z : ◌≡◌ {A = ℕ} 0 1 = cc in omega arith) in
      record { before = rw e; same = rw other; mixes = rw other }

  -- of one name the stages decide
  pub compared_same : compare a.name b.name ≡ Equal
      → KeysCompared a b (record { before = ltb a.stage b.stage; same = eqb a.stage b.stage; mixes = not (eqb a.stage b.stage) && (eqb a.stage 0 || eqb b.stage 0) })
  unfolding goes_before same_key mixes
  compared_same e =
      let one : eq_list a.name b.name ≡ true = rw (compare_same a.name b.name e) (eq_list-refl b.name) in
      record { before = rw e; same = rw one; mixes = rw one }
