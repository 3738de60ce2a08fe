use mathlib.Core.Path.{refl, sym, ◌∙◌}
use mathlib.Core.List.{List}
use Prim.Native.Nat.{ℕ}
use native.Mathlib.Omega.{arith}
use Rattle.entries_directory.proofs.Ahead.{stays-long}
use Rattle.tree_search.specs.declared.table.Region.{Region}
use Rattle.tree_check.specs.Keys.{KeysPut}
use Rattle.tree_check.proofs.gather.put_ahead.Goals as goal

-- keys were put, and then one more
keys-more : (region : Region) (t₀ t t' : List ℕ) → KeysPut region t₀ t → KeysPut region t t' → KeysPut region t₀ t'
keys-more region t₀ t t' put more = record { vacant = more.vacant; known = λ w d known. more.known w d (put.known w d known) }

pub loop-init : goal.loop-init
loop-init c = (c.requires.0, refl, c.requires.1, c.requires.2, omega arith, record { vacant = c.requires.3; known = λ w d known. known })

pub put_first-count-requires : goal.put_first-count-requires
put_first-count-requires c = let inv = c.loop.invariant in (inv.0, inv.2, inv.3, inv.5.vacant)

pub returns-then-most_keys-count : goal.returns-then-most_keys-count
returns-then-most_keys-count c =
    keys-more _ _ _ _ c.loop.invariant.5 c.put_first-count.ensures.1

pub advance-front-requires : goal.advance-front-requires
advance-front-requires c = let inv = c.loop.invariant in (inv.0, inv.2, omega arith)

pub loop-preserved : goal.loop-preserved
loop-preserved c =
    let inv = c.loop.invariant in
    let step = c.advance-front.ensures in
    let put = c.put_first-count.ensures in
    (step.fits, step.frame.long ∙ inv.1, omega (arith, step.frame, inv.2), stays-long _ _ _ step.fits (sym c.stays.ensures ∙ c.if-not-stays.false), omega (arith, put.0, inv.4), keys-more _ _ _ _ inv.5 put.1)

pub shape_of-names-then-not-stays : goal.shape_of-names-then-not-stays
shape_of-names-then-not-stays c = c.advance-front.ensures.frame.long ∙ c.loop.invariant.1

pub returns-then-not-stays : goal.returns-then-not-stays
returns-then-not-stays c =
    keys-more _ _ _ _ c.loop.invariant.5 c.put_first-count.ensures.1
