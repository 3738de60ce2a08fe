-- The flags and the extended word of an entry: their parts are read, and the parts that are read make them.
use mathlib.Core.Path.{◌≡◌}
use mathlib.Core.Bool.{Bool, true, false}
use Prim.Native.Nat.{ℕ, ◌+◌, ◌*◌, ◌/◌, ◌%◌, ◌<◌, min}
use native.Mathlib.Omega.{arith}
use lib.ListN.{length}
use lib.Dec.{eqb, ltb}
use borrow.Author.Tests.{ltb-true, eqb-true, eqb-false, lt-ltb, eq-eqb, ne_eqb}
use Rattle.format.specs.Names.{length_field}
use Rattle.format.specs.Records.{Entry}
use Rattle.format.specs.Layout.{bit, flags_of, word_of}
use Rattle.format.specs.Reader.{is_set, ok_word}
use Rattle.format_laws.proofs.Tests.{and-inv, and_both, by-test}
use Rattle.format_laws.proofs.Numbers.{bit_below}

pub bit-is_set : (b x : ℕ) → bit (is_set b x) ≡ x / b % 2
unfolding is_set
bit-is_set b x =
    by-test (eqb (x / b % 2) 1)
    (λ set. rw set (omega (arith, eqb-true)))
    (λ clear. let other : x / b % 2 ≡ 1 → ⊥ = eqb-false _ _ clear in rw clear (omega arith))

is_set-bit : (b x : ℕ) (t : Bool) → x / b % 2 ≡ bit t → is_set b x ≡ t
unfolding is_set
is_set-bit b x true h = eq-eqb _ _ h
is_set-bit b x false h = ne_eqb (x / b % 2) 1 (λ one. omega arith)

flags-parts :
    (v x s n : ℕ) → v < 2 → x < 2 → s < 4 → let f : ℕ = v * 32768 + x * 16384 + s * 4096 + min n 4095 in
    (f < 65536) × (f / 32768 % 2 ≡ v) × (f / 16384 % 2 ≡ x) × (f / 4096 % 4 ≡ s) × (f % 4096 ≡ min n 4095)
flags-parts v x s n hv hx hs = omega arith

-- the flags' parts are read
pub flags-read :
    (extended : Bool) (e : Entry) → e.stage < 4 →
    (flags_of extended e < 65536)
    × (is_set 32768 (flags_of extended e) ≡ e.assume_valid)
    × (is_set 16384 (flags_of extended e) ≡ extended)
    × (flags_of extended e / 4096 % 4 ≡ e.stage)
    × (flags_of extended e % 4096 ≡ length_field (length e.name))
unfolding flags_of length_field
flags-read extended e h =
    let (fits, valid, long, stage, field) = flags-parts (bit e.assume_valid) (bit extended) e.stage (length e.name) (bit_below e.assume_valid) (bit_below extended) h in
    (fits, is_set-bit _ _ _ valid, is_set-bit _ _ _ long, stage, field)

-- the parts that are read make the flags
pub read_flags :
    (x n : ℕ) → x < 65536 → x % 4096 ≡ length_field n →
    bit (is_set 32768 x) * 32768 + bit (is_set 16384 x) * 16384 + x / 4096 % 4 * 4096 + length_field n ≡ x
read_flags x n h field =
    let top : x / 32768 % 2 ≡ x / 32768 = omega arith in
    rw (bit-is_set 32768 x, bit-is_set 16384 x, top) (omega arith)

word-parts :
    (x y : ℕ) → x < 2 → y < 2 → let f : ℕ = x * 16384 + y * 8192 in (f < 32768) × (f % 8192 ≡ 0) × (f / 16384 % 2 ≡ x) × (f / 8192 % 2 ≡ y)
word-parts x y hx hy = omega arith

pub word_read :
    (e : Entry) →
    (word_of e < 65536) × (ok_word (word_of e) ≡ true) × (is_set 16384 (word_of e) ≡ e.skip_worktree) × (is_set 8192 (word_of e) ≡ e.intent_to_add)
unfolding word_of ok_word
word_read e =
    let (fits, low, skip, intent) = word-parts (bit e.skip_worktree) (bit e.intent_to_add) (bit_below e.skip_worktree) (bit_below e.intent_to_add) in
    (omega arith, and_both _ _ (lt-ltb _ _ fits) (eq-eqb _ _ low), is_set-bit _ _ _ skip, is_set-bit _ _ _ intent)

pub read_word : (y : ℕ) → ok_word y ≡ true → bit (is_set 16384 y) * 16384 + bit (is_set 8192 y) * 8192 ≡ y
unfolding ok_word
read_word y h =
    let (top, low) = and-inv (ltb y 32768) (eqb (y % 8192) 0) h in
    let fits : y < 32768 = ltb-true _ _ top in
    let clear : y % 8192 ≡ 0 = eqb-true _ _ low in
    rw (bit-is_set 16384 y, bit-is_set 8192 y) (omega arith)
