-- Laws of the names that are ahead of a walk over the entries.
use mathlib.Core.Path.{◌≡◌, refl, sym, ap, ap₂, subst, ◌∙◌}
use mathlib.Core.List.{List, [], ◌∷◌}
use mathlib.Core.Bool.{true, false, ◌&&◌}
use Prim.Native.Nat.{ℕ, ◌+◌, ◌-◌, ◌≤◌, ◌<◌}
use native.Mathlib.Omega.{arith}
use lib.ListN.{length, drop}
use lib.Dec.{eqb, leb, ltb}
use borrow.Author.Tests.{eqb-true, lt-ltb, ltb-true, leb-true}
use Rattle.std.specs.Prelude.{Ok, Err}
use Rattle.format.specs.declared.Refusal.{Refusal}
use Rattle.format.specs.Bytes.{lacks}
use Rattle.format.specs.Names.{common, compare}
use Rattle.format.specs.Layout.{names}
use Rattle.format.specs.Reader.{entry_of}
use Rattle.format_laws.proofs.Tests.{false-true, by-test, and-inv, cond-inv}
use Rattle.format_laws.proofs.Lists.{drop-to}
use Rattle.format_laws.proofs.Names.{common-append}
use Rattle.format_laws.proofs.Readings.{good-inv, front-inv}
use Rattle.fields.specs.Workspace.{Frame}
use Rattle.fields.proofs.Workspace.{frame_same, frame_then}
use Rattle.entries_run.specs.declared.Step.{Step}
use Rattle.entries_run.specs.Steps.{name_at, EntryPassed, run_from}
use Rattle.entries_run.proofs.Steps.{entries-good, entries-again, entries-never, run_none}
use Rattle.directories.specs.Names.{not_above, sorted_from, begins, leads, beyond}
use Rattle.directories.proofs.Order.{begins-common}
use Rattle.directories.proofs.Prefixes.{begins-split}
use Rattle.directories.proofs.Runs.{beyond-step, beyond-end}
use Rattle.entries_directory.specs.declared.Front.{Front}
use Rattle.entries_directory.specs.Ahead.{FrontFits, Ahead, After, after_none, after_some, FrontAdvanced, DirectoryPassed, FrontMoved, File, MoreFiles, Files, files_none, files_more, FilesPassed}

-- ---- a step

next-sorted : (x y : List ℕ) (ys : List (List ℕ)) → sorted_from x (y ∷ ys) ≡ true → sorted_from y ys ≡ true
unfolding sorted_from
next-sorted x y ys e = (and-inv (not_above (compare x y)) (sorted_from y ys) e).1

pub fits-end : (b : List ℕ) (s : Front) → FrontFits b s → FrontFits b (record { cursor = s.cursor; ahead = 0; common = 0 })
fits-end b s h = record { inside = h.inside; short = omega arith; few = omega arith }

module _ (w : ℕ) (v : ℕ) (b work : List ℕ) (s : Front) (work' : List ℕ) where
  -- over the last name
  pub step_end : (r : Front) → r.ahead ≡ 0 → s.ahead ≤ 1 → (x : List ℕ) (xs : List (List ℕ)) → Ahead w v b work s x xs → After w v b work' r x xs
  unfolding names
  step_end r z few x xs h =
      let e : s.ahead - 1 ≡ 0 = omega arith in
      good-inv _ _ _ _ (sym (run_none w v b work s.cursor) ∙ ap (λ (n : ℕ). run_from w v n b work s.cursor) (sym e) ∙ h.reads) λ q m.
      subst (After w v b work' r x) (ap names q ∙ h.rest) (after_none z)

  module _ (more : 1 < s.ahead) where
    left-some : 0 < s.ahead - 1
    left-some = omega arith

    -- over a name that an entry follows which is refused
    pub step-bad {ℓ} : {X : Type ℓ} (m : Refusal) → EntryPassed w v b work s.cursor work' (Err m) → (x : List ℕ) (xs : List (List ℕ)) → Ahead w v b work s x xs → X
    step-bad m t x xs h = entries-never w v b work s.cursor work' (s.ahead - 1) left-some _ _ m h.reads t

    module _ (st : Step) (t : EntryPassed w v b work s.cursor work' (Ok st)) where
      pub step_fits : FrontFits b s → FrontFits b (record { cursor = st.next; ahead = s.ahead - 1; common = st.common })
      step_fits h = record { inside = t.inside st refl; short = t.common st refl; few = omega (arith, h.few) }

      pub step-on : (x : List ℕ) (xs : List (List ℕ)) → Ahead w v b work s x xs → After w v b work' (record { cursor = st.next; ahead = s.ahead - 1; common = st.common }) x xs
      unfolding names entry_of
      step-on x xs h =
          entries-again w v b work s.cursor work' (s.ahead - 1) left-some _ _ _ h.reads t λ u.
          front-inv _ _ _ _ _ (sym (entries-good w v b work s.cursor work' (s.ahead - 1) left-some st u) ∙ h.reads) λ gs l q parts sum.
          let y = name_at v b work' st.next.start st.next.len in
          let is : (y ∷ names gs) ≡ xs = ap names parts ∙ h.rest in
          subst (After w v b work' _ x) is
          (after_some (record { some = left-some; name = refl; entries = gs; taken = l; reads = q; rest = refl; sorted = next-sorted x y (names gs) (ap (sorted_from x) is ∙ h.sorted) }) ((u.found st refl).common ∙ ap (λ (z : List ℕ). common z y) h.name))

-- ---- the first name ahead

-- whether it is in a directory that the name before it is in
pub stays-is : (w : ℕ) (v : ℕ) (b work : List ℕ) (s : Front) (last q : List ℕ) (xs : List (List ℕ)) → After w v b work s last xs → begins q last ≡ true
    → (ltb 0 s.ahead && leb (length q) s.common) ≡ leads (begins q) xs
unfolding leads
stays-is w v b work s last q _ (after_none z) i = rw z
stays-is w v b work s last q _ (after_some {x} {xs} h e) i = rw (lt-ltb 0 s.ahead h.some, e) (sym (begins-common q last x i))

pub stays-some : (s : Front) (k : ℕ) → (ltb 0 s.ahead && leb k s.common) ≡ true → 1 ≤ s.ahead
stays-some s k e = ltb-true 0 s.ahead (and-inv (ltb 0 s.ahead) (leb k s.common) e).0

pub stays-long : (b : List ℕ) (s : Front) (k : ℕ) → FrontFits b s → (ltb 0 s.ahead && leb k s.common) ≡ true → k ≤ s.cursor.len
stays-long b s k fits e = omega (arith, fits.short, leb-true k s.common (and-inv (ltb 0 s.ahead) (leb k s.common) e).1)

-- it is there, and in the directory
pub stays-in {ℓ} : (w : ℕ) {X : Type ℓ} (v : ℕ) (b work : List ℕ) (s : Front) (last q : List ℕ) (xs : List (List ℕ)) → After w v b work s last xs → begins q last ≡ true
    → (ltb 0 s.ahead && leb (length q) s.common) ≡ true
    → ((y : List ℕ) (ys : List (List ℕ)) → xs ≡ y ∷ ys → Ahead w v b work s y ys → s.common ≡ common last y → begins q y ≡ true → X) → X
stays-in w v b work s last q _ (after_none z) i e f = false-true (rw z at e)
stays-in w v b work s last q _ (after_some {x} {xs} h c) i e f =
    f x xs refl h c (begins-common q last x i ∙ ap (leb (length q)) (sym c) ∙ (and-inv (ltb 0 s.ahead) (leb (length q) s.common) e).1)

-- ---- past one name or more

-- the loop of a walk: work₀ and s₀ are what it starts from, past the first name
pub record Going (b work₀ : List ℕ) (s₀ : Front) (work : List ℕ) (s : Front) : Type 0 where
  pub fits : FrontFits b s
  pub fewer : s.ahead ≤ s₀.ahead
  pub room : 8192 ≤ length work
  pub frame : Frame work₀ work

module _ (w : ℕ) (v : ℕ) (b work : List ℕ) (s : Front) (work₀ : List ℕ) (s₀ : Front) (t : FrontAdvanced w v b work s work₀ s₀) where
  pub going_start : 8192 ≤ length work → Going b work₀ s₀ work₀ s₀
  going_start room = record { fits = t.fits; fewer = omega arith; room = omega (arith, t.frame.long); frame = frame_same work₀ }

  pub going_end : 1 ≤ s.ahead → (work' : List ℕ) (s' : Front) → Going b work₀ s₀ work' s' → FrontMoved b work s work' s'
  going_end some work' s' h = record { fits = h.fits; less = omega (arith, t.fewer, h.fewer); frame = frame_then t.frame h.frame }

pub going_on : (w : ℕ) (v : ℕ) (b work₀ : List ℕ) (s₀ : Front) (work : List ℕ) (s : Front) (work' : List ℕ) (s' : Front)
    → Going b work₀ s₀ work s → FrontAdvanced w v b work s work' s' → Going b work₀ s₀ work' s'
going_on w v b work₀ s₀ work s work' s' h t = record {
  fits = t.fits;
  fewer = omega (arith, t.fewer, h.fewer);
  room = omega (arith, t.frame.long, h.room);
  frame = frame_then h.frame t.frame;
}

-- ---- past the names in a directory

-- of the names xs those in the directory q have been passed in part, with one before them
pub record Passing (w : ℕ) (v : ℕ) (b work : List ℕ) (s : Front) (q : List ℕ) (xs : List (List ℕ)) : Type 0 where
  pub rest : List (List ℕ)
  pub last : List ℕ
  pub in_it : begins q last ≡ true
  pub after : After w v b work s last rest
  pub left : beyond (begins q) rest ≡ beyond (begins q) xs

module _ (w : ℕ) (v : ℕ) (b : List ℕ) (q : List ℕ) (xs : List (List ℕ)) where
  pub pass-start : (work : List ℕ) (s : Front) (last : List ℕ) → After w v b work s last xs → begins q last ≡ true → Passing w v b work s q xs
  pass-start work s last h i = record { rest = xs; last = last; in_it = i; after = h; left = refl }

  module _ (work : List ℕ) (s : Front) (h : Passing w v b work s q xs) where
    pub pass_on : (work' : List ℕ) (r : Front) → (ltb 0 s.ahead && leb (length q) s.common) ≡ true → FrontAdvanced w v b work s work' r → Passing w v b work' r q xs
    pass_on work' r e t =
        stays-in w v b work s h.last q h.rest h.after h.in_it e λ y ys is ahead c i.
        record { rest = ys; last = y; in_it = i; after = t.after y ys ahead; left = sym (beyond-step q y ys i) ∙ ap (beyond (begins q)) (sym is) ∙ h.left }

    pub pass-end : (x : List ℕ) → begins q x ≡ true → (ltb 0 s.ahead && leb (length q) s.common) ≡ false → DirectoryPassed w v b work s q (x ∷ xs)
    pass-end x i e =
        let out : leads (begins q) h.rest ≡ false = sym (stays-is w v b work s h.last q h.rest h.after h.in_it) ∙ e in
        record {
          last = h.last;
          in_it = h.in_it;
          after = subst (After w v b work s h.last) (sym (beyond-end (begins q) h.rest out) ∙ h.left ∙ sym (beyond-step q x xs i)) h.after;
        }

-- ---- past the files of a directory

-- where neither s nor what follows in t after the bytes that the two have in common has a byte, t has it not
lacks-common : (b : ℕ) (s t : List ℕ) → lacks b s ≡ true → lacks b (drop (common s t) t) ≡ true → lacks b t ≡ true
unfolding common lacks
lacks-common b [] t h l = l
lacks-common b (x ∷ s) [] h l = refl
lacks-common b (x ∷ s) (y ∷ t) h l =
    cond-inv (eqb x b) false (lacks b s) true h (λ p e. false-true e)
    (λ p e.
    by-test (eqb x y)
    (λ i. rw (← (eqb-true x y i), p) (lacks-common b s t e (rw i at l)))
    (λ i. rw i at l))

-- a name in the directory of a file, by what follows the bytes that the two have in common
file-after : (q s t : List ℕ) → File q s → begins q t ≡ true → lacks 47 (drop (common s t) t) ≡ true → File q t
file-after q s t h i l =
    let sum : common s t ≡ length q + common (drop (length q) s) (drop (length q) t) = ap₂ common (begins-split q s h.in_it) (begins-split q t i) ∙ common-append q (drop (length q) s) (drop (length q) t) in
    record { in_it = i; alone = lacks-common 47 (drop (length q) s) (drop (length q) t) h.alone (ap (lacks 47) (drop-to t (length q) _ _ sum) ∙ l) }

module _ (w : ℕ) (v : ℕ) (b : List ℕ) (q : List ℕ) where
  pub files-start : (work : List ℕ) (s : Front) (x : List ℕ) (xs : List (List ℕ)) → After w v b work s x xs → File q x → FilesPassed w v b work s q (x ∷ xs)
  files-start work s x xs h i = record { rest = xs; files = files_more files_none i; last = x; is_file = i; after = h }

  pub files-on : (whole : List (List ℕ)) (work : List ℕ) (s : Front) → FilesPassed w v b work s q whole → (work' : List ℕ) (r : Front) → MoreFiles v b work s (length q)
      → FrontAdvanced w v b work s work' r → FilesPassed w v b work' r q whole
  files-on whole work s h work' r m t =
      stays-in w v b work s h.last q h.rest h.after h.is_file.in_it m.stays λ y ys is ahead c i.
      let i' = file-after q h.last y h.is_file i (rw (← c, ← ahead.name) m.alone) in
      record { rest = ys; files = files_more (subst (Files q whole) is h.files) i'; last = y; is_file = i'; after = t.after y ys ahead }
