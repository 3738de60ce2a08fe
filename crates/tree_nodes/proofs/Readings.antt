-- Laws of readings: how many bytes a reading takes.
use mathlib.Core.Path.{◌≡◌, refl}
use mathlib.Core.List.{List}
use mathlib.Core.Bool.{Bool, true, false, ◌&&◌}
use mathlib.Core.Option.{Option, none, some}
use Prim.Native.Nat.{ℕ, ◌+◌, ◌-◌, ◌≤◌, ◌<◌}
use native.Mathlib.Omega.{arith}
use lib.ListN.{length, drop, length-drop}
use lib.Dec.{ltb, leb}
use borrow.Author.Tests.{ltb-true, leb-true}
use Rattle.format.specs.Bytes.{before, decimal, value}
use Rattle.format.specs.Records as Records
use Rattle.format.specs.Reading.{Read, bad, good, need, shift, bind}
use Rattle.format.specs.Reader.{read_text, count_in, need_some, read_count, read_subtrees, read_object, read_node}
use Rattle.format_laws.proofs.Readings.{bad-good}

-- from least to most bytes, where it is no refusal
pub record Took {A : Type 0} (least most : ℕ) (r : Read A) : Type 0 where
  pub of : (a : A) (m : ℕ) → r ≡ good a m → (least ≤ m) × (m ≤ most)

took-bad : {A : Type 0} (n p least most : ℕ) → Took {A = A} least most (bad n p)
took-bad n p least most = record { of = λ a m e. bad-good n p a m e }

took-good : {A : Type 0} (a : A) (k least most : ℕ) → least ≤ k → k ≤ most → Took least most (good a k)
took-good a k least most h l = record { of = λ b m e. let q : k ≡ m = cc in (omega arith, omega arith) }

pub need-took : {A : Type 0} (b : Bool) (n p least most : ℕ) (r : Read A) → (b ≡ true → Took least most r) → Took least most (need b n p r)
unfolding need
need-took true n p least most r h = h refl
need-took false n p least most r h = took-bad n p least most

shift-took : {A : Type 0} (m least most : ℕ) (r : Read A) → least ≤ m → m ≤ most → Took 0 (most - m) r → Took least most (shift m r)
unfolding shift
shift-took m least most (bad n p) h l t = took-bad n p least most
shift-took m least most (good a k) h l t = let q : k ≤ most - m = (t.of a k refl).1 in took-good a (m + k) least most (omega arith) (omega arith)

pub bind-took : {A B : Type 0} (least most : ℕ) (r : Read A) (k : A → ℕ → Read B) → Took least most r → ((a : A) (m : ℕ) → r ≡ good a m → m ≤ most → Took 0 (most - m) (k a m)) → Took least most (bind r k)
unfolding bind
bind-took least most (bad n p) k t h = took-bad n p least most
bind-took least most (good a m) k t h = let q = t.of a m refl in shift-took m least most (k a m) q.0 q.1 (h a m refl q.1)

some-took : {A B : Type 0} (o : Option B) (n p most : ℕ) (k : B → Read A) → ((b : B) → Took 0 most (k b)) → Took 0 most (need_some o n p k)
unfolding need_some
some-took none n p most k h = took-bad n p 0 most
some-took (some b) n p most k h = h b

good-took : {A : Type 0} (a : A) (most : ℕ) → Took 0 most (good a 0)
good-took a most = took-good a 0 0 most (omega arith) (omega arith)

text-took : (b n p : ℕ) (s : List ℕ) → Took 1 (length s) (read_text b n p s)
unfolding read_text
text-took b n p s =
    need-took (ltb (before b s) (length s)) n p 1 (length s) _ (λ e. let h : before b s < length s = ltb-true _ _ e in took-good _ _ 1 (length s) (omega arith) (omega arith))

pub count-took : (p : ℕ) (s : List ℕ) → Took 1 (length s) (read_count p s)
unfolding read_count
count-took p s = bind-took 1 (length s) _ _ (text-took 32 15 p s) (λ t m e l. some-took (count_in t) 15 p (length s - m) _ (λ c. good-took c (length s - m)))

pub subtrees-took : (p : ℕ) (s : List ℕ) → Took 1 (length s) (read_subtrees p s)
unfolding read_subtrees
subtrees-took p s =
    bind-took 1 (length s) _ _ (text-took 10 15 p s) (λ t m e l. need-took (decimal t && leb (value t) 2147483647) 15 p 0 (length s - m) _ (λ b. good-took (value t) (length s - m)))

object-took : (w p : ℕ) (c : Records.Count) (s : List ℕ) → Took 0 (length s) (read_object w p c s)
unfolding read_object
object-took w p (Records.valid n) s = need-took (leb w (length s)) 15 p 0 (length s) _ (λ e. took-good _ w 0 (length s) (omega arith) (leb-true _ _ e))
object-took w p Records.invalid s = good-took _ (length s)

-- a part that begins m bytes further on
pub rest-took : {A : Type 0} (least m : ℕ) (s : List ℕ) (r : Read A) → Took least (length (drop m s)) r → Took 0 (length s - m) r
rest-took least m s r t = record { of = λ a k e. let q : k ≤ length (drop m s) = (t.of a k e).1 in let l : length (drop m s) ≡ length s - m = length-drop m s in (omega arith, omega arith) }

pub node-took : (w p : ℕ) (s : List ℕ) → Took 1 (length s) (read_node w p s)
unfolding read_node
node-took w p s =
    bind-took 1 (length s) _ _ (text-took 0 15 p s) λ name m e₁ l₁.
    rest-took 1 m s _
    (bind-took 1 (length (drop m s)) _ _ (count-took p (drop m s)) λ count n e₂ l₂.
    rest-took 1 n (drop m s) _
    (bind-took 1 (length (drop n (drop m s))) _ _ (subtrees-took p (drop n (drop m s))) λ subtrees o e₃ l₃.
    rest-took 0 o (drop n (drop m s)) _
    (bind-took 0 (length (drop o (drop n (drop m s)))) _ _ (object-took w p count (drop o (drop n (drop m s)))) λ object q e₄ l₄.
    good-took _ _)))
