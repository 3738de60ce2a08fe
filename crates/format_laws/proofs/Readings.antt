-- Laws of readers' answers: how they are taken apart and put together.
use mathlib.Core.Path.{◌≡◌, refl, ap}
use mathlib.Core.List.{List, [], ◌∷◌, ◌++◌, append_assoc}
use mathlib.Core.Bool.{Bool, true, false, cond}
use mathlib.Core.Option.{Option, none, some, none-ne-some}
use Prim.Native.Nat.{ℕ, ◌+◌}
use native.Mathlib.Nat.{add_assoc}
use native.Mathlib.Omega.{arith}
use Rattle.format.specs.Reading.{Read, bad, good, need, shift, bind}
use Rattle.format.specs.Reader.{need_some}

-- ---- refusals and values

pub bad-good {ℓ} : {A : Type 0} {X : Type ℓ} (n p : ℕ) (a : A) (m : ℕ) → bad n p ≡ good a m → X
bad-good n p a m e = let z : ◌≡◌ {A = ℕ} 0 1 = cc in absurd (omega arith)

pub none-some {ℓ} : {A : Type 0} {X : Type ℓ} {a : A} → none ≡ some a → X
none-some {a = a} e = absurd (none-ne-some a e)

pub same_size : {A : Type 0} {a : A} {m n : ℕ} → m ≡ n → good a m ≡ good a n
same_size {a = a} e = ap (λ x. good a x) e

-- ---- a value's parts, by continuation: what it binds are variables, so that a goal can be rewritten afterwards

module _ {ℓ} {X : Type ℓ} {A : Type 0} where
  pub good-inv : (a b : A) (m n : ℕ) → good a m ≡ good b n → (a ≡ b → m ≡ n → X) → X
  good-inv a b m n e f = f (cc) (cc)

  pub need-inv : (t : Bool) (n p : ℕ) (r : Read A) (a : A) (m : ℕ) → need t n p r ≡ good a m → (t ≡ true → r ≡ good a m → X) → X
  unfolding need
  need-inv true n p r a m e f = f refl e
  need-inv false n p r a m e f = bad-good n p a m e

  pub shift-inv : (k : ℕ) (r : Read A) (a : A) (m : ℕ) → shift k r ≡ good a m → ((j : ℕ) → r ≡ good a j → k + j ≡ m → X) → X
  unfolding shift
  shift-inv k (bad n p) a m e f = bad-good n p a m e
  shift-inv k (good b j) a m e f = good-inv b a (k + j) m e (λ q l. f j (rw q refl) l)

  pub bind_inv :
      {B : Type 0} (r : Read B) (k : B → ℕ → Read A) (a : A) (m : ℕ) → bind r k ≡ good a m →
      ((b : B) (i j : ℕ) → r ≡ good b i → k b i ≡ good a j → i + j ≡ m → X) → X
  unfolding bind
  bind_inv (bad n p) k a m e f = bad-good n p a m e
  bind_inv (good b i) k a m e f = shift-inv i (k b i) a m e (λ j q l. f b i j refl q l)

  pub need_some-inv :
      {B : Type 0} (o : Option B) (n p : ℕ) (k : B → Read A) (a : A) (m : ℕ) → need_some o n p k ≡ good a m →
      ((b : B) → o ≡ some b → k b ≡ good a m → X) → X
  unfolding need_some
  need_some-inv none n p k a m e f = bad-good n p a m e
  need_some-inv (some b) n p k a m e f = f b refl e

-- ---- the same steps forward

pub need-good : {A : Type 0} (t : Bool) (n p : ℕ) (r : Read A) (a : A) (m : ℕ) → t ≡ true → r ≡ good a m → need t n p r ≡ good a m
unfolding need
need-good t n p r a m h e = rw h e

pub shift-good : {A : Type 0} (k : ℕ) (r : Read A) (a : A) (m : ℕ) → r ≡ good a m → shift k r ≡ good a (k + m)
unfolding shift
shift-good k r a m e = rw e

pub bind-good :
    {A B : Type 0} (r : Read A) (k : A → ℕ → Read B) (a : A) (i : ℕ) (b : B) (j : ℕ) → r ≡ good a i → k a i ≡ good b j → bind r k ≡ good b (i + j)
unfolding bind
bind-good r k a i b j e q = rw e (shift-good i (k a i) b j q)

-- two ways to go on that agree on what was answered
pub bind-same : {A B : Type 0} (r : Read A) (k l : A → ℕ → Read B) → ((a : A) (m : ℕ) → r ≡ good a m → k a m ≡ l a m) → bind r k ≡ bind r l
unfolding bind
bind-same (bad n p) k l h = refl
bind-same (good a m) k l h = ap (λ x. shift m x) (h a m refl)

-- ---- a test may be made first

pub shift-need : {A : Type 0} (k : ℕ) (t : Bool) (n p : ℕ) (r : Read A) → shift k (need t n p r) ≡ need t n p (shift k r)
unfolding shift need
shift-need k true n p r = refl
shift-need k false n p r = refl

pub bind-need : {A B : Type 0} (t : Bool) (n p : ℕ) (r : Read A) (k : A → ℕ → Read B) → bind (need t n p r) k ≡ need t n p (bind r k)
unfolding need bind
bind-need true n p r k = refl
bind-need false n p r k = refl

pub bind-cond : {A B : Type 0} (t : Bool) (r q : Read A) (k : A → ℕ → Read B) → bind (cond t r q) k ≡ cond t (bind r k) (bind q k)
bind-cond true r q k = refl
bind-cond false r q k = refl

-- ---- lists, one after another

-- the answer r with the elements xs in front, which took m bytes
unfoldable pub in_front : {A : Type 0} → List A → ℕ → Read (List A) → Read (List A)
in_front xs m (bad n p) = bad n p
in_front xs m (good ys k) = good (xs ++ ys) (m + k)

module _ {A : Type 0} where
  pub front-none : (r : Read (List A)) → in_front [] 0 r ≡ r
  unfolding in_front
  front-none (bad n p) = refl
  front-none (good ys k) = same_size (omega arith)

  pub front-one : (x : A) (m : ℕ) (r : Read (List A)) → shift m (bind r (λ xs n. good (x ∷ xs) 0)) ≡ in_front (x ∷ []) m r
  unfolding shift bind in_front
  front-one x m (bad n p) = refl
  front-one x m (good xs k) = same_size (omega arith)

  pub front-front : (xs ys : List A) (m n : ℕ) (r : Read (List A)) → in_front xs m (in_front ys n r) ≡ in_front (xs ++ ys) (m + n) r
  unfolding in_front
  front-front xs ys m n (bad a p) = refl
  front-front xs ys m n (good zs k) = rw (append_assoc xs ys zs, add_assoc m n k)

  pub front-inv {ℓ} : {X : Type ℓ} (xs : List A) (m : ℕ) (r : Read (List A)) (ys : List A) (k : ℕ) → in_front xs m r ≡ good ys k
      → ((zs : List A) (l : ℕ) → r ≡ good zs l → xs ++ zs ≡ ys → m + l ≡ k → X) → X
  unfolding in_front
  front-inv xs m (bad n p) ys k e f = bad-good n p ys k e
  front-inv xs m (good zs l) ys k e f = good-inv _ _ _ _ e (λ q s. f zs l refl q s)
