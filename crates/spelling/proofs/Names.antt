-- The name of an entry, plain or packed: what is spelled is read, and what is read was spelled.
use mathlib.Core.Path.{◌≡◌, refl, sym, ◌∙◌}
use mathlib.Core.List.{List, [], ◌∷◌, ◌++◌, append_assoc}
use mathlib.Core.Bool.{Bool, true, false, cond}
use Prim.Native.Nat.{ℕ, zero, suc, ◌+◌, ◌-◌, ◌/◌, ◌%◌, ◌≤◌, ◌<◌, min}
use native.Mathlib.Omega.{arith}
use lib.ListN.{length, take, drop, get_or, replicate, length-append, length-drop, length-take, length-replicate, take-append-drop}
use lib.Seq.{drop-append_seam, take-append_seam, take-append-add, take_at, take-take, take-add, length-take-le}
use lib.Dec.{eqb, leb, ltb}
use borrow.Author.Tests.{ltb-true, ltb-false, leb-true, eqb-true, lt-ltb, le-ltb, le-leb, eq-eqb}
use Rattle.format.specs.Bytes.{two, put_n, before, lacks, zeros}
use Rattle.format.specs.Names.{ok_name, length_field}
use Rattle.format.specs.Layout.{when, entry_length, Plain, Packed, NameBytes}
use Rattle.format.specs.Reading.{good}
use Rattle.format.specs.Reader.{plain_length, read_plain, read_n, joined, read_suffix, read_packed, read_name}
use Rattle.format_laws.proofs.Tests.{and-inv, and_both, by-test, cond-inv, by_cond}
use Rattle.format_laws.proofs.Lists.{take-one, take-two}
use Rattle.format_laws.proofs.Texts.{before_at, take-before, lacks-right}
use Rattle.format_laws.proofs.Names.{ok_name-lacks}
use Rattle.format_laws.proofs.Readings.{good-inv, need-inv, bind_inv, need-good, bind-good}
use Rattle.spelling.proofs.Bytes.{put_n-one, put_n-two, two-put_n, put_n-of-two, zeros-replicate, replicate-zeros}

-- ---- the plain name of versions 2 and 3, f being the bytes before it

-- one NUL or more follows
entry_length-over : (f n : ℕ) → f + n < entry_length f n
unfolding entry_length
entry_length-over f n = omega arith

-- the length field says a short name's length, and a NUL ends a long one
plain_length-at : (name r : List ℕ) → lacks 0 name ≡ true → plain_length (length_field (length name)) (name ++ 0 ∷ r) ≡ length name
unfolding plain_length length_field
plain_length-at name r h =
    by_cond (λ n. n ≡ length name) (ltb (min (length name) 4095) 4095) (min (length name) 4095) (before 0 (name ++ 0 ∷ r))
    (λ p. omega (arith, ltb-true))
    (λ p. before_at 0 name r h)

plain_length-padded :
    (name : List ℕ) (n : ℕ) (r : List ℕ) → 0 < n → lacks 0 name ≡ true →
    plain_length (length_field (length name)) (name ++ (replicate n 0 ++ r)) ≡ length name
plain_length-padded name zero r pos h = absurd (omega arith)
plain_length-padded name (suc n) r pos h = plain_length-at name (replicate n 0 ++ r) h

-- the name and its NULs, cut from what follows
padding-cut : (name : List ℕ) (n : ℕ) (r : List ℕ) → drop (length name) (take (length name + n) (name ++ (replicate n 0 ++ r))) ≡ replicate n 0
padding-cut name n r =
    rw (take-append-add name (replicate n 0 ++ r) n, take_at (replicate n 0) r n (length-replicate n 0)) (drop-append_seam name (replicate n 0))

read_plain_lem :
    (f p : ℕ) (name a rest : List ℕ) → ok_name name ≡ true → Plain f name a →
    read_plain f p (length_field (length name)) (a ++ rest) ≡ good name (length a)
unfolding read_plain
read_plain_lem f p name a rest ok is =
    let l : ℕ = length name in
    let n : ℕ = entry_length f l - (f + l) in
    let over : f + l < entry_length f l = entry_length-over f l in
    let s : List ℕ = name ++ (replicate n 0 ++ rest) in
    let whole : a ++ rest ≡ s = rw is (append_assoc name (replicate n 0) rest) in
    let taken : entry_length f l - f ≡ l + n = omega arith in
    let long : length s ≡ l + (n + length rest) = simp (length-append, length-replicate) in
    let size : length a ≡ l + n = rw is (simp (length-append, length-replicate)) in
    let len : plain_length (length_field l) s ≡ l = plain_length-padded name n rest (omega arith) (ok_name-lacks name ok) in
    let front : take l s ≡ name = take-append_seam name (replicate n 0 ++ rest) in
    let same : eqb (length_field l) (length_field l) ≡ true = eq-eqb (length_field l) (length_field l) refl in
    let within : ltb l (length s) ≡ true = omega (arith, lt-ltb) in
    let fits : leb (entry_length f l) (f + length s) ≡ true = omega (arith, le-leb) in
    let pads : zeros (drop l (take (l + n) s)) ≡ true = rw (padding-cut name n rest) (zeros-replicate n) in
    rw (whole, len, front, taken, size)
    (need-good _ _ _ _ _ _ within (need-good _ _ _ _ _ _ (and_both _ _ ok same) (need-good _ _ _ _ _ _ fits (need-good _ _ _ _ _ _ pads refl))))

-- a name of n bytes and zeros up to the entry's end
plain-cut :
    (f n : ℕ) (s : List ℕ) → entry_length f n ≤ f + length s → zeros (drop n (take (entry_length f n - f) s)) ≡ true →
    take (entry_length f n - f) s ≡ take n s ++ replicate (entry_length f n - (f + n)) 0
plain-cut f n s fits pads =
    let over : f + n < entry_length f n = entry_length-over f n in
    let m : ℕ = entry_length f n - f in
    let size : length (drop n (take m s)) ≡ entry_length f n - (f + n) = rw (length-drop n (take m s), length-take m s) (omega arith) in
    sym (take-append-drop n (take m s))
    ∙ rw (take-take n m s (omega arith), replicate-zeros (drop n (take m s)) pads, size) refl

-- what a reading of a plain name of n bytes goes by
pub record PlainRead (f field : ℕ) (s name : List ℕ) (m n : ℕ) : Type 0 where
  pub within : n < length s
  pub ok : ok_name (take n s) ≡ true
  pub field_is : field ≡ length_field n
  pub fits : entry_length f n ≤ f + length s
  pub pads : zeros (drop n (take (entry_length f n - f) s)) ≡ true
  pub name_is : take n s ≡ name
  pub size : entry_length f n - f ≡ m

pub plain-inv : (f p field : ℕ) (s name : List ℕ) (m : ℕ) → read_plain f p field s ≡ good name m → PlainRead f field s name m (plain_length field s)
unfolding read_plain
plain-inv f p field s name m e =
    let n : ℕ = plain_length field s in
    need-inv _ _ _ _ _ _ e λ within e₁.
    need-inv _ _ _ _ _ _ e₁ λ named e₂.
    need-inv _ _ _ _ _ _ e₂ λ fits e₃.
    need-inv _ _ _ _ _ _ e₃ λ pads e₄.
    good-inv _ _ _ _ e₄ λ name_is m-is.
    let (ok, same) = and-inv (ok_name (take n s)) (eqb field (length_field n)) named in
    record { within = ltb-true _ _ within; ok = ok; field_is = eqb-true _ _ same; fits = leb-true _ _ fits; pads = pads; name_is = name_is; size = m-is }

plain-read :
    (f p field : ℕ) (s name : List ℕ) (m : ℕ) → read_plain f p field s ≡ good name m →
    (m ≤ length s) × Plain f name (take m s) × (ok_name name ≡ true) × (field ≡ length_field (length name))
plain-read f p field s name m e =
    let n : ℕ = plain_length field s in
    let h : PlainRead f field s name m n = plain-inv f p field s name m e in
    let size : length (take n s) ≡ n = length-take-le n s (omega (arith, h.within)) in
    rw (← h.name_is, ← h.size, size) (omega (arith, h.fits), plain-cut f n s h.fits h.pads, h.ok, h.field_is)

-- ---- the packed name of version 4: the number N

read_one_lem : (p most n : ℕ) (r : List ℕ) → n < 128 → n ≤ most → read_n p most (n ∷ r) ≡ good n 1
unfolding read_n
read_one_lem p most n r small h =
    let some : leb 1 (suc (length r)) ≡ true = omega (arith, le-leb) in
    rw (lt-ltb n 128 small) (need-good _ _ _ _ _ _ some (need-good _ _ _ _ _ _ (le-leb n most h) refl))

read-two : (p most x y : ℕ) (r : List ℕ) → 128 ≤ x → y < 128 → two x y ≤ most → read_n p most (x ∷ y ∷ r) ≡ good (two x y) 2
unfolding read_n
read-two p most x y r large small h =
    let some : leb 1 (suc (suc (length r))) ≡ true = omega (arith, le-leb) in
    let more : leb 2 (suc (suc (length r))) ≡ true = omega (arith, le-leb) in
    rw (le-ltb x 128 large)
    (need-good _ _ _ _ _ _ some (need-good _ _ _ _ _ _ more (need-good _ _ _ _ _ _ (and_both _ _ (lt-ltb y 128 small) (le-leb (two x y) most h)) refl)))

pub read-n : (p most n : ℕ) (r : List ℕ) → n ≤ most → read_n p most (put_n n ++ r) ≡ good n (length (put_n n))
read-n p most n r h =
    by-test (ltb n 128)
    (λ small. let below : n < 128 = ltb-true n 128 small in rw (put_n-one n below) (read_one_lem p most n r below h))
    (λ large.
    let above : 128 ≤ n = ltb-false n 128 large in
    let back : two (128 + n / 128 - 1) (n % 128) ≡ n = two-put_n n above in
    rw (put_n-two n above) (read-two p most (128 + n / 128 - 1) (n % 128) r (omega arith) (omega arith) (omega arith) ∙ rw back refl))

pub n-read : (p most : ℕ) (s : List ℕ) (n m : ℕ) → read_n p most s ≡ good n m → (m ≤ length s) × (n ≤ most) × (take m s ≡ put_n n)
unfolding read_n
n-read p most s n m e =
    let x : ℕ = get_or s 0 0 in
    let y : ℕ = get_or s 1 0 in
    need-inv _ _ _ _ _ _ e λ one e₁.
    let some : 1 ≤ length s = leb-true _ _ one in
    cond-inv (ltb x 128) _ _ _ e₁
    (λ small e₂.
    need-inv _ _ _ _ _ _ e₂ λ within e₃.
    good-inv _ _ _ _ e₃ λ n-is m-is.
    rw (← n-is, ← m-is) (some, leb-true _ _ within, take-one s some ∙ sym (put_n-one x (ltb-true _ _ small))))
    (λ large e₂.
    need-inv _ _ _ _ _ _ e₂ λ both e₃.
    need-inv _ _ _ _ _ _ e₃ λ tests e₄.
    good-inv _ _ _ _ e₄ λ n-is m-is.
    let (small, within) = and-inv (ltb y 128) (leb (two x y) most) tests in
    let more : 2 ≤ length s = leb-true _ _ both in
    rw (← n-is, ← m-is) (more, leb-true _ _ within, take-two s more ∙ sym (put_n-of-two x y (ltb-false _ _ large) (ltb-true _ _ small))))

-- ---- the packed name: the bytes after N

read-suffix :
    (p : ℕ) (previous : List ℕ) (n : ℕ) (s rest : List ℕ) → ok_name (take (length previous - n) previous ++ s) ≡ true →
    read_suffix p previous (length_field (length (take (length previous - n) previous ++ s))) n (s ++ 0 ∷ rest)
    ≡ good (take (length previous - n) previous ++ s) (length s + 1)
unfolding read_suffix joined
read-suffix p previous n s rest ok =
    let name : List ℕ = take (length previous - n) previous ++ s in
    let field : ℕ = length_field (length name) in
    let at : before 0 (s ++ 0 ∷ rest) ≡ length s = before_at 0 s rest (lacks-right 0 (take (length previous - n) previous) s (ok_name-lacks name ok)) in
    let front : take (length s) (s ++ 0 ∷ rest) ≡ s = take-append_seam s (0 ∷ rest) in
    let within : ltb (length s) (length (s ++ 0 ∷ rest)) ≡ true = rw (length-append s (0 ∷ rest)) (omega (arith, lt-ltb)) in
    let same : eqb field field ≡ true = eq-eqb field field refl in
    rw (at, front) (need-good _ _ _ _ _ _ within (need-good _ _ _ _ _ _ (and_both _ _ ok same) refl))

suffix-read :
    (p : ℕ) (previous : List ℕ) (field n : ℕ) (s name : List ℕ) (m : ℕ) → read_suffix p previous field n s ≡ good name m →
    (m ≤ length s) × (name ≡ joined previous n s) × (take m s ≡ take (before 0 s) s ++ (0 ∷ [])) × (ok_name name ≡ true) × (field ≡ length_field (length name))
unfolding read_suffix
suffix-read p previous field n s name m e =
    need-inv _ _ _ _ _ _ e λ within e₁.
    need-inv _ _ _ _ _ _ e₁ λ named e₂.
    good-inv _ _ _ _ e₂ λ name_is m-is.
    let (ok, same) = and-inv (ok_name (joined previous n s)) (eqb field (length_field (length (joined previous n s)))) named in
    let short : before 0 s < length s = ltb-true _ _ within in
    rw (← name_is, ← m-is) (omega arith, refl, take-before 0 s short, ok, eqb-true _ _ same)

-- ---- the packed name

read-packed :
    (p : ℕ) (previous name a rest : List ℕ) → ok_name name ≡ true → Packed previous name a →
    read_packed p previous (length_field (length name)) (a ++ rest) ≡ good name (length a)
unfolding read_packed
read-packed p previous name a rest ok is =
    let n : ℕ = is.n in
    let s : List ℕ = is.s in
    let front : List ℕ = take (length previous - n) previous in
    let whole : a ++ rest ≡ put_n n ++ (s ++ 0 ∷ rest) = rw is.bytes (simp append_assoc) in
    let after : drop (length (put_n n)) (put_n n ++ (s ++ 0 ∷ rest)) ≡ s ++ 0 ∷ rest = drop-append_seam (put_n n) (s ++ 0 ∷ rest) in
    let size : length a ≡ length (put_n n) + (length s + 1) = rw is.bytes (simp length-append) in
    let named : ok_name (front ++ s) ≡ true = rw is.joined at ok in
    rw (whole, size, is.joined)
    (bind-good _ _ _ _ _ _ (read-n p (length previous) n (s ++ 0 ∷ rest) is.within) (rw after (read-suffix p previous n s rest named)))

packed-read :
    (p : ℕ) (previous : List ℕ) (field : ℕ) (s name : List ℕ) (m : ℕ) → read_packed p previous field s ≡ good name m →
    (m ≤ length s) × Packed previous name (take m s) × (ok_name name ≡ true) × (field ≡ length_field (length name))
unfolding read_packed joined
packed-read p previous field s name m e =
    bind_inv _ _ _ _ e λ n i j e₁ e₂ m-is.
    let (i-short, within, number) = n-read p (length previous) s n i e₁ in
    let (j-short, is, cut, ok, same) = suffix-read p previous field n (drop i s) name j e₂ in
    let t : List ℕ = take (before 0 (drop i s)) (drop i s) in
    let long : i + j ≤ length s = omega (arith, length-drop i s) in
    let bytes : take (i + j) s ≡ put_n n ++ (t ++ (0 ∷ [])) = take-add i j s ∙ rw (number, cut) refl in
    rw (← m-is) (long, record { n = n; s = t; within = within; joined = is; bytes = bytes }, ok, same)

-- ---- the name, by version

pub read_name_lem :
    (v f p : ℕ) (previous name a rest : List ℕ) → ok_name name ≡ true → NameBytes v f previous name a →
    read_name v f p previous (length_field (length name)) (a ++ rest) ≡ good name (length a)
unfolding read_name
read_name_lem v f p previous name a rest ok is = go (eqb v 4) is
  where
    go : (t : Bool) → when t (Packed previous name a) (Plain f name a) →
        cond t (read_packed p previous (length_field (length name)) (a ++ rest)) (read_plain f p (length_field (length name)) (a ++ rest)) ≡ good name (length a)
    go true packed = read-packed p previous name a rest ok packed
    go false plain = read_plain_lem f p name a rest ok plain

pub name-read :
    (v f p : ℕ) (previous : List ℕ) (field : ℕ) (s name : List ℕ) (m : ℕ) → read_name v f p previous field s ≡ good name m →
    (m ≤ length s) × NameBytes v f previous name (take m s) × (ok_name name ≡ true) × (field ≡ length_field (length name))
unfolding read_name
name-read v f p previous field s name m e = go (eqb v 4) e
  where
    go : (t : Bool) → cond t (read_packed p previous field s) (read_plain f p field s) ≡ good name m →
        (m ≤ length s) × when t (Packed previous name (take m s)) (Plain f name (take m s)) × (ok_name name ≡ true) × (field ≡ length_field (length name))
    go true q = packed-read p previous field s name m q
    go false q = plain-read f p field s name m q
