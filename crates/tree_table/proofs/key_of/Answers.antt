use Rattle.tree_table.proofs.Slots.{pair-byte, key-end, key-odd, key_more}
use Rattle.tree_table.specs.Keys.{key_in}
use native.Mathlib.Omega.{arith}
use native.Mathlib.Nat.{mul-le-mul}
use mathlib.Core.List.{List}
use lib.ListN.{length, get_or}
use Rattle.std.proofs.Common.{get_or-drop}
use Prim.Native.Nat.{ℕ, ◌+◌, ◌*◌, ◌/◌, ◌≤◌, ◌<◌}
use mathlib.Core.Path.{◌≡◌, sym, ap, ◌∙◌}
use Rattle.tree_table.proofs.key_of.Goals as goal
use Rattle.tree_table.proofs.key_of.Goals.{After-from-in-loop-pair, After-from-then-odd-eq1}

few : (m h : ℕ) → m < 1073741824 → h < 4294967296 → h * m ≤ 4294967295 * 1073741823
few m h a b = mul-le-mul {n₂ = 4294967295} {m₂ = 1073741823} (omega arith) (omega arith)

-- the two bytes of a pair
first : (c : After-from-in-loop-pair) → c.from.result ≡ get_or c.args.s.now (c.loop-pair.pair-index * 2) 0
first c =
    let e = c.as_chunks.ensures in
    let i = c.loop-pair.pair-index in
    let z : i * 2 + 0 ≡ i * 2 = omega arith in
    c.from.ensures ∙ pair-byte c.args.s.now c.as_chunks.result.0.now _ i 0 e.front (omega (arith, e.front_len)) (omega arith) ∙ rw z

second : (c : After-from-in-loop-pair) → c.from-in-loop-pair.result ≡ get_or c.args.s.now (c.loop-pair.pair-index * 2 + 1) 0
second c =
    let e = c.as_chunks.ensures in
    let i = c.loop-pair.pair-index in
    c.from-in-loop-pair.ensures ∙ pair-byte c.args.s.now c.as_chunks.result.0.now _ i 1 e.front (omega (arith, e.front_len)) (omega arith)

pub loop-pair-init : goal.loop-pair-init
unfolding key_in
loop-pair-init c = (omega arith, c.multiplier-m.ensures.1, c.multiplier-n.ensures.1, rw (c.multiplier-m.ensures.0, c.multiplier-n.ensures.0))

pub loop-pair-preserved : goal.loop-pair-preserved
loop-pair-preserved c =
    let s = c.args.s.now in
    let i = c.loop-pair.pair-index in
    let e = c.as_chunks.ensures in
    let next : (i + 1) * 2 ≡ i * 2 + 2 = omega arith in
    let more : i * 2 + 1 < length s = omega (arith, e.front_len) in
    let h = (goal.at.loop-pair-preserved c).After-from-in-loop-pair in (
      c.step_key-h.ensures.2,
      c.loop-pair.invariant.2,
      c.loop-pair.invariant.1,
      rw (next, c.step_key-h.ensures.0, first h, second h) (c.loop-pair.invariant.3 ∙ key_more _ _ c.loop-pair.h s (i * 2) more),
    )

-- the byte after the pairs
last : (c : After-from-then-odd-eq1) → c.from-then-odd-eq1.result ≡ get_or c.args.s.now (c.loop-pair.pair-index * 2) 0
last c =
    let e = c.as_chunks.ensures in
    let s = c.args.s.now in
    let n : length s / 2 * 2 + 0 ≡ c.loop-pair.pair-index * 2 = omega (arith, e.front_len) in
    c.from-then-odd-eq1.ensures ∙ ap (λ (x : List ℕ). get_or x 0 0) e.back ∙ get_or-drop (length s / 2 * 2) s 0 0 ∙ rw n

pub returns-then-odd-eq1 : goal.returns-then-odd-eq1
returns-then-odd-eq1 c =
    let s = c.args.s.now in
    let e = c.as_chunks.ensures in
    let i = c.loop-pair.pair-index in
    let here : i * 2 < length s = omega (arith, e.front_len, e.back_len) in
    let end : length s ≤ i * 2 + 1 = omega (arith, e.front_len) in
    let x = last (goal.at.returns-then-odd-eq1 c).After-from-then-odd-eq1 in
    (sym (c.loop-pair.invariant.3 ∙ key-odd _ _ c.loop-pair.h s (i * 2) here end ∙ rw (c.last_key.ensures.0, c.step_key.ensures.0, x)), c.last_key.ensures.1)

pub returns : goal.returns
returns c =
    let s = c.args.s.now in
    (sym (c.loop-pair.invariant.3 ∙ key-end _ _ c.loop-pair.h s (c.loop-pair.pair-index * 2) (omega arith) ∙ sym c.last_key-2.ensures.0), c.last_key-2.ensures.1)
