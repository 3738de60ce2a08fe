-- Extensions that are spelled, at most one of each known kind, are read, and what is read was spelled and has at most one of each.
use mathlib.Core.Path.{◌≡◌, refl, sym, ◌∙◌}
use mathlib.Core.List.{List, [], ◌∷◌, ◌++◌, append_assoc}
use mathlib.Core.Bool.{Bool, true, false, not}
use mathlib.Core.Option.{Option, none, some}
use Prim.Native.Nat.{ℕ, zero, suc, ◌+◌, ◌≤◌}
use native.Mathlib.Omega.{arith}
use lib.ListN.{length, take, drop, length-append, length-drop, take-append-drop}
use lib.Seq.{take-append_seam, drop-append_seam, length-take-le, take-add, take_at, drop_at, drop-drop, get_or-take}
use lib.Dec.{leb}
use borrow.Author.Tests.{leb-true, le-leb}
use Rattle.format.specs.Bytes.{Bytes, be32, put32, eq_list}
use Rattle.format.specs.Records.{Tree, Undo}
use Rattle.format.specs.Layout.{bit, Extension, cache_tree, resolve_undo, other, TREE, REUC, optional, Says, IsExtension, Extensions, extensions_end, extensions_more, trees, undos, only}
use Rattle.format.specs.Reading.{Read, good, need, shift, bind}
use Rattle.format.specs.Reader.{Seen, none_seen, also_seen, read_data, read_extension, read_extensions, first}
use Rattle.format_laws.proofs.Tests.{false-true, cond-inv}
use Rattle.format_laws.proofs.Lists.{eq_list-true}
use Rattle.format_laws.proofs.Numbers.{bit_below, bytes_drop, length-put32, be32-at, be32-below, put32-be32}
use Rattle.format_laws.proofs.Readings.{bad-good, good-inv, need-inv, shift-inv, bind_inv, same_size}
use Rattle.spelling.proofs.Fuel.{fuel-step}
use Rattle.spelling.proofs.Tree.{read-tree, tree-read}
use Rattle.spelling.proofs.Undo.{read-undos, undos-read}

-- ---- at most one of each known kind

-- whether none of this kind has been read
abbrev pub is_new : Extension → Seen → Bool
is_new (cache_tree t) k = not k.cache_tree
is_new (resolve_undo us) k = not k.resolve_undo
is_new (other s d) k = true

-- those in xs and those that have been read are together at most one of each kind
abbrev pub Once : Seen → List Extension → Type 0
Once k xs = (bit k.cache_tree + length (trees xs) ≤ 1) × (bit k.resolve_undo + length (undos xs) ≤ 1)

bit-new : (b : Bool) (n : ℕ) → bit b + suc n ≤ 1 → not b ≡ true
bit-new true n h = absurd (omega arith)
bit-new false n h = refl

new-bit : (b : Bool) → not b ≡ true → bit b ≡ 0
new-bit true e = false-true e
new-bit false e = refl

once-end : (k : Seen) → Once k []
unfolding trees undos
once-end k = let t = bit_below k.cache_tree in let u = bit_below k.resolve_undo in omega arith

once-new : (x : Extension) (xs : List Extension) (k : Seen) → Once k (x ∷ xs) → is_new x k ≡ true
unfolding trees undos
once-new (cache_tree t) xs k h = bit-new k.cache_tree (length (trees xs)) h.0
once-new (resolve_undo us) xs k h = bit-new k.resolve_undo (length (undos xs)) h.1
once-new (other s d) xs k h = refl

once-rest : (x : Extension) (xs : List Extension) (k : Seen) → Once k (x ∷ xs) → Once (also_seen x k) xs
unfolding trees undos
once-rest (cache_tree t) xs k h = omega arith
once-rest (resolve_undo us) xs k h = omega arith
once-rest (other s d) xs k h = h

once_more : (x : Extension) (xs : List Extension) (k : Seen) → is_new x k ≡ true → Once (also_seen x k) xs → Once k (x ∷ xs)
unfolding trees undos
once_more (cache_tree t) xs k e h = let z = new-bit k.cache_tree e in omega arith
once_more (resolve_undo us) xs k e h = let z = new-bit k.resolve_undo e in omega arith
once_more (other s d) xs k e h = h

length-only : {A : Type 0} (o : Option A) (l : List A) → l ≡ only o → length l ≤ 1
length-only none l e = rw e (omega arith)
length-only (some a) l e = rw e (omega arith)

only-first : {A : Type 0} (l : List A) → length l ≤ 1 → l ≡ only (first l)
only-first [] h = refl
only-first (a ∷ []) h = refl
only-first (a ∷ b ∷ l) h = absurd (omega arith)

-- where nothing has been read, that is as the file's layout says it
pub only-once : (xs : List Extension) (o : Option Tree) (q : Option (List Undo)) → trees xs ≡ only o → undos xs ≡ only q → Once none_seen xs
only-once xs o q e f = let t = length-only o (trees xs) e in let u = length-only q (undos xs) f in omega arith

pub once-only : (xs : List Extension) → Once none_seen xs → (trees xs ≡ only (first (trees xs))) × (undos xs ≡ only (first (undos xs)))
once-only xs h = (only-first (trees xs) (omega arith), only-first (undos xs) (omega arith))

-- ---- the data of one extension

read-data : (w : ℕ) (ns : List (List ℕ)) (k : Seen) (p : ℕ) (x : Extension) (s d : List ℕ) → Says w ns x s d → is_new x k ≡ true
    → read_data w ns k p s d ≡ good x (length d)
unfolding read_data bind shift need eq_list
read-data w ns k p (cache_tree t) s d h new = rw h.0 (simp (new, read-tree w ns p h.1 h.2) (same_size (omega arith)))
read-data w ns k p (resolve_undo us) s d h new = rw h.0 (simp (new, read-undos w p (length d) h.1 (omega arith)) (same_size (omega arith)))
read-data w ns k p (other s₁ d₁) s d h new = rw (h.4, h.5, h.0, h.1) refl

data-read : (w : ℕ) (ns : List (List ℕ)) (k : Seen) (p : ℕ) (s d : List ℕ) (x : Extension) (m : ℕ)
    → length s ≡ 4 → optional s ≡ true → read_data w ns k p s d ≡ good x m
    → (m ≡ length d) × Says w ns x s d × (is_new x k ≡ true)
unfolding read_data
data-read w ns k p s d x m four may q =
    cond-inv (eq_list s TREE) _ _ _ q
    (λ tree q₁.
    need-inv _ _ _ _ _ _ q₁ λ new q₂.
    bind_inv _ _ _ _ q₂ λ t i j treeq q₃ size.
    good-inv _ _ _ _ q₃ λ is done.
    let h = tree-read w ns p d t i treeq in
    rw (← is) (omega arith, (eq_list-true s TREE tree, h.1, h.2), new))
    λ no-tree q₁.
    cond-inv (eq_list s REUC) _ _ _ q₁
    (λ undo q₂.
    need-inv _ _ _ _ _ _ q₂ λ new q₃.
    bind_inv _ _ _ _ q₃ λ us i j undosq q₄ size.
    good-inv _ _ _ _ q₄ λ is done.
    let h = undos-read w p (length d) [] d us i undosq in
    rw (← is) (omega arith, (eq_list-true s REUC undo, h.1), new))
    λ no-undo q₂.
    good-inv _ _ _ _ q₂ λ is size.
    rw (← is, ← size) (refl, (refl, refl, four, may, no-tree, no-undo), refl)

-- ---- one extension

says_four : (w : ℕ) (ns : List (List ℕ)) (x : Extension) (s d : List ℕ) → Says w ns x s d → length s ≡ 4
says_four w ns (cache_tree t) s d h = rw h.0 refl
says_four w ns (resolve_undo us) s d h = rw h.0 refl
says_four w ns (other s₁ d₁) s d h = h.2

says-optional : (w : ℕ) (ns : List (List ℕ)) (x : Extension) (s d : List ℕ) → Says w ns x s d → optional s ≡ true
unfolding optional
says-optional w ns (cache_tree t) s d h = rw h.0 refl
says-optional w ns (resolve_undo us) s d h = rw h.0 refl
says-optional w ns (other s₁ d₁) s d h = h.3

-- the first byte decides
optional-take : (n : ℕ) (s : List ℕ) → 1 ≤ n → optional (take n s) ≡ optional s
unfolding optional
optional-take n s h = rw (get_or-take n s 0 0 h) refl

pub read-extension : (w : ℕ) (ns : List (List ℕ)) (k : Seen) (p : ℕ) {x : Extension} {a : List ℕ} (rest : List ℕ) → IsExtension w ns x a → is_new x k ≡ true
    → read_extension w ns k p (a ++ rest) ≡ good x (length a)
unfolding read_extension shift need
read-extension w ns k p {x} {a} rest h new =
    let sig : List ℕ = h.signature in
    let d : List ℕ = h.content in
    let n : List ℕ = put32 (length d) in
    let s : List ℕ = sig ++ (n ++ (d ++ rest)) in
    let four : length sig ≡ 4 = says_four w ns x sig d h.says in
    let four₁ : length n ≡ 4 = length-put32 (length d) in
    let whole : a ++ rest ≡ s = rw h.bytes (simp append_assoc) in
    let size : length a ≡ 8 + length d = rw h.bytes (simp length-append (omega arith)) in
    let long : length s ≡ 8 + length d + length rest = simp length-append (omega arith) in
    let number : be32 s 4 ≡ length d = be32-at sig (length d) (d ++ rest) 4 four h.fits in
    let signature : take 4 s ≡ sig = take_at sig (n ++ (d ++ rest)) 4 four in
    let may : optional s ≡ true = sym (optional-take 4 s (omega arith)) ∙ rw signature (says-optional w ns x sig d h.says) in
    let past : drop 8 s ≡ d ++ rest = sym (drop-drop 4 4 s) ∙ rw (drop_at sig (n ++ (d ++ rest)) 4 four) (drop_at n (d ++ rest) 4 four₁) in
    let eight : leb 8 (length s) ≡ true = le-leb 8 (length s) (omega arith) in
    let fits : leb (8 + length d) (length s) ≡ true = le-leb (8 + length d) (length s) (omega arith) in
    rw (whole, number, eight, fits, may, signature, past, take-append_seam d rest, read-data w ns k p x sig d h.says new) (same_size (omega arith))

-- of any list, whether or not its elements are bytes
pub extension-data : (w : ℕ) (ns : List (List ℕ)) (k : Seen) (p : ℕ) (s : List ℕ) (x : Extension) (m : ℕ) → read_extension w ns k p s ≡ good x m
    → (8 + be32 s 4 ≤ length s) × (m ≡ 8 + be32 s 4) × Says w ns x (take 4 s) (take (be32 s 4) (drop 8 s)) × (is_new x k ≡ true)
unfolding read_extension
extension-data w ns k p s x m q =
    need-inv _ _ _ _ _ _ q λ eight q₁.
    need-inv _ _ _ _ _ _ q₁ λ fits q₂.
    need-inv _ _ _ _ _ _ q₂ λ may q₃.
    shift-inv _ _ _ _ q₃ λ j dataq size.
    let long : 8 + be32 s 4 ≤ length s = leb-true _ _ fits in
    let l = length-drop 8 s in
    let left = length-take-le (be32 s 4) (drop 8 s) (omega arith) in
    let four = length-take-le 4 s (omega arith) in
    let h = data-read w ns k p (take 4 s) (take (be32 s 4) (drop 8 s)) x j four (optional-take 4 s (omega arith) ∙ may) dataq in
    (long, omega arith, h.1, h.2)

pub extension-takes : (w : ℕ) (ns : List (List ℕ)) (k : Seen) (p : ℕ) (s : List ℕ) (x : Extension) (m : ℕ) → read_extension w ns k p s ≡ good x m
    → (8 ≤ m) × (m ≤ length s)
extension-takes w ns k p s x m q = let h = extension-data w ns k p s x m q in omega arith

pub extension-read : (w : ℕ) (ns : List (List ℕ)) (k : Seen) (p : ℕ) (s : List ℕ) (x : Extension) (m : ℕ) → Bytes s → read_extension w ns k p s ≡ good x m
    → (m ≤ length s) × IsExtension w ns x (take m s) × (is_new x k ≡ true)
extension-read w ns k p s x m are q =
    let h = extension-data w ns k p s x m q in
    let n : ℕ = be32 s 4 in
    let d : List ℕ = take n (drop 8 s) in
    let l = length-drop 8 s in
    let left : length d ≡ n = length-take-le n (drop 8 s) (omega arith) in
    let m-is : m ≡ 4 + (4 + n) = omega arith in
    let number : put32 n ≡ take 4 (drop 4 s) = put32-be32 s 4 are (omega arith) in
    let parts : take (4 + n) (drop 4 s) ≡ put32 (length d) ++ d = rw (take-add 4 n (drop 4 s), drop-drop 4 4 s, left, number) refl in
    rw m-is (
      omega arith,
      record { signature = take 4 s; content = d; says = h.2; fits = rw left (be32-below s 4 are); bytes = take-add 4 (4 + n) s ∙ rw parts refl },
      h.3,
    )

extension-long : {w : ℕ} {ns : List (List ℕ)} {x : Extension} {a : List ℕ} → IsExtension w ns x a → 4 ≤ length a
extension-long h = rw h.bytes (simp length-append (omega (arith, length-put32 (length h.content))))

-- ---- all extensions

extensions-none : (w : ℕ) (ns : List (List ℕ)) (fuel : ℕ) (k : Seen) (p : ℕ) → read_extensions w ns fuel k p [] ≡ good [] 0
unfolding read_extensions
extensions-none w ns zero k p = refl
extensions-none w ns (suc fuel) k p = refl

extensions-step : (w : ℕ) (ns : List (List ℕ)) (fuel : ℕ) (k : Seen) (p : ℕ) (s : List ℕ) → 1 ≤ length s
    → read_extensions w ns (suc fuel) k p s
    ≡ bind (read_extension w ns k p s) (λ x m. bind (read_extensions w ns fuel (also_seen x k) (p + m) (drop m s)) (λ xs n. good (x ∷ xs) 0))
unfolding read_extensions
extensions-step w ns fuel k p [] h = absurd (omega arith)
extensions-step w ns fuel k p (y ∷ s) h = refl

pub read-extensions : (w : ℕ) (ns : List (List ℕ)) (fuel : ℕ) (k : Seen) (p : ℕ) {xs : List Extension} {a : List ℕ} → Extensions w ns xs a → Once k xs
    → length a ≤ fuel → read_extensions w ns fuel k p a ≡ good xs (length a)
unfolding bind shift
read-extensions w ns fuel k p extensions_end once h = extensions-none w ns fuel k p
read-extensions w ns zero k p (extensions_more {a = a} {b = b} e es) once h =
    let l = length-append a b in let long = extension-long e in absurd (omega arith)
read-extensions w ns (suc fuel) k p (extensions_more {x = x} {xs = xs} {a = a} {b = b} e es) once h =
    let l = length-append a b in
    let long = extension-long e in
    let one = read-extension w ns k p b e (once-new x xs k once) in
    let more = read-extensions w ns fuel (also_seen x k) (p + length a) es (once-rest x xs k once) (omega arith) in
    extensions-step w ns fuel k p (a ++ b) (omega arith) ∙ simp (one, drop-append_seam, more, length-append) (same_size (omega arith))

pub extensions-read : (w : ℕ) (ns : List (List ℕ)) (fuel : ℕ) (k : Seen) (p : ℕ) (s : List ℕ) (xs : List Extension) (m : ℕ) → Bytes s
    → read_extensions w ns fuel k p s ≡ good xs m → (m ≡ length s) × Extensions w ns xs s × Once k xs
unfolding read_extensions
extensions-read w ns zero k p [] xs m are q = good-inv _ _ _ _ q λ is size. rw (← is, ← size) (refl, extensions_end, once-end k)
extensions-read w ns (suc fuel) k p [] xs m are q = good-inv _ _ _ _ q λ is size. rw (← is, ← size) (refl, extensions_end, once-end k)
extensions-read w ns zero k p (y ∷ s) xs m are q = bad-good _ _ _ _ q
extensions-read w ns (suc fuel) k p (y ∷ s) xs m are q =
    bind_inv _ _ _ _ q λ e i₀ j₀ oneq q₁ size₀.
    bind_inv _ _ _ _ q₁ λ es i₁ j₁ moreq q₂ size₁.
    good-inv _ _ _ _ q₂ λ is done.
    more (y ∷ s) e es i₀ i₁ (extension-read w ns k p (y ∷ s) e i₀ are oneq)
    (extensions-read w ns fuel (also_seen e k) (p + i₀) (drop i₀ (y ∷ s)) es i₁ (bytes_drop i₀ (y ∷ s) are) moreq)
    is
    (omega arith)
  where
    more : (s : List ℕ) (e : Extension) (es : List Extension) (i₀ i₁ : ℕ) → (i₀ ≤ length s) × IsExtension w ns e (take i₀ s) × (is_new e k ≡ true)
        → (i₁ ≡ length (drop i₀ s)) × Extensions w ns es (drop i₀ s) × Once (also_seen e k) es → e ∷ es ≡ xs → m ≡ i₀ + i₁
        → (m ≡ length s) × Extensions w ns xs s × Once k xs
    more s e es i₀ i₁ h g is size =
        let l = length-drop i₀ s in
        rw (← is) (omega arith, rw (take-append-drop i₀ s) at (extensions_more h.1 g.1), once_more e es k h.2 g.2)

-- the extensions in s with no fuel to be seen, and its steps: what code is proved against
unfoldable pub extensions_of : ℕ → List (List ℕ) → Seen → ℕ → List ℕ → Read (List Extension)
extensions_of w ns k p s = read_extensions w ns (length s) k p s

pub extensions_of-end : (w : ℕ) (ns : List (List ℕ)) (k : Seen) (p : ℕ) → extensions_of w ns k p [] ≡ good [] 0
unfolding extensions_of
extensions_of-end w ns k p = extensions-none w ns 0 k p

pub extensions_of-step : (w : ℕ) (ns : List (List ℕ)) (k : Seen) (p : ℕ) (s : List ℕ) → 1 ≤ length s
    → extensions_of w ns k p s
    ≡ bind (read_extension w ns k p s) (λ x m. bind (extensions_of w ns (also_seen x k) (p + m) (drop m s)) (λ xs n. good (x ∷ xs) 0))
unfolding extensions_of
extensions_of-step w ns k p s h =
    fuel-step {Q = Seen × ℕ}
    (λ q t. read_extension w ns q.0 q.1 t)
    (λ q x m. (also_seen x q.0, q.1 + m))
    (λ fuel q t. read_extensions w ns fuel q.0 q.1 t)
    (λ fuel q. extensions-none w ns fuel q.0 q.1)
    (λ fuel q t. extensions-step w ns fuel q.0 q.1 t)
    (λ q t x m e. let takes = extension-takes w ns q.0 q.1 t x m e in omega arith)
    (k, p)
    s
    h
