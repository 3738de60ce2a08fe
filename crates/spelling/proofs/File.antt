-- A whole file: it is accepted exactly when records spell it, one set of records only spells it, and what a cut of it can show.
use mathlib.Core.Path.{◌≡◌, refl, sym, ap, ◌∙◌}
use mathlib.Core.Logic.{◌⊎◌, inl, inr}
use mathlib.Core.List.{List, ◌++◌, append_assoc}
use mathlib.Core.Bool.{true, ◌&&◌}
use mathlib.Core.Option.{Option, none, some}
use Prim.Native.Nat.{ℕ, ◌+◌, ◌-◌, ◌≤◌, ◌<◌}
use native.Mathlib.Omega.{arith}
use lib.ListN.{length, take, drop, replicate, length-append, length-drop, length-replicate, take-append-drop}
use lib.Seq.{take_at, drop_at, drop-drop, take-take, length-take-le}
use lib.Dec.{leb}
use borrow.Author.Tests.{le-leb, leb-true}
use Rattle.format.specs.Bytes.{Bytes, be32, put32, eq_list}
use Rattle.format.specs.Records.{Entry, start, Records}
use Rattle.format.specs.Layout.{trees, undos, only, DIRC, names, Body, Spells}
use Rattle.format.specs.Checksum.{Checksum, checksum_of, checksum_in, is_sound}
use Rattle.format.specs.Reading.{good, need, shift, bind}
use Rattle.format.specs.Reader.{read_entries, none_seen, first, Contents, read_body, read_file}
use Rattle.format_laws.proofs.Tests.{and-inv, and_both}
use Rattle.format_laws.proofs.Lists.{eq_list-true, eq-eq_list}
use Rattle.format_laws.proofs.Numbers.{bytes_take, bytes_drop, length-put32, be32-take, be32-at, be32-below, put32-be32}
use Rattle.format_laws.proofs.Readings.{good-inv, need-inv, shift-inv, bind_inv}
use Rattle.spelling.proofs.Checksums.{digest-matches, zeros-sound, Which, which, sound-inv}
use Rattle.spelling.proofs.Entries.{read-entries, entries-read}
use Rattle.spelling.proofs.Extensions.{only-once, once-only, read-extensions, extensions-read}

-- ---- the header

-- the bytes of a header, and of what follows it
abbrev pub headed : ℕ → ℕ → List ℕ → List ℕ
headed v n s = DIRC ++ (put32 v ++ (put32 n ++ s))

module _ (v n : ℕ) (s : List ℕ) where
  pub headed-length : length (headed v n s) ≡ 12 + length s
  headed-length = simp (length-append, length-put32) (omega arith)

  headed-signature : take 4 (headed v n s) ≡ DIRC
  headed-signature = refl

  pub headed-version : v < 4294967296 → be32 (headed v n s) 4 ≡ v
  headed-version h = be32-at DIRC v (put32 n ++ s) 4 refl h

  pub headed-count : n < 4294967296 → be32 (headed v n s) 8 ≡ n
  headed-count h =
      let l : length (DIRC ++ put32 v) ≡ 8 = simp length-append (omega (arith, length-put32 v)) in
      rw (← (append_assoc DIRC (put32 v) (put32 n ++ s))) (be32-at (DIRC ++ put32 v) n s 8 l h)

  pub headed-rest : drop 12 (headed v n s) ≡ s
  headed-rest =
      let l : length (DIRC ++ (put32 v ++ put32 n)) ≡ 12 = simp length-append (omega (arith, length-put32 v, length-put32 n)) in
      let e : headed v n s ≡ (DIRC ++ (put32 v ++ put32 n)) ++ s = simp append_assoc in
      rw e (drop_at (DIRC ++ (put32 v ++ put32 n)) s 12 l)

four : (k : ℕ) (s : List ℕ) → drop k s ≡ take 4 (drop k s) ++ drop (k + 4) s
four k s = sym (take-append-drop 4 (drop k s)) ∙ rw (drop-drop 4 k s)

-- twelve bytes or more that begin so are a header and what follows it
headed-back : (b : List ℕ) → Bytes b → 12 ≤ length b → take 4 b ≡ DIRC → b ≡ headed (be32 b 4) (be32 b 8) (drop 12 b)
headed-back b bytes long sig =
    let rest : drop 4 b ≡ put32 (be32 b 4) ++ (put32 (be32 b 8) ++ drop 12 b) =
    rw (put32-be32 b 4 bytes (omega arith), put32-be32 b 8 bytes (omega arith), ← (four 8 b)) (four 4 b) in
    four 0 b ∙ ap (λ (x : List ℕ). x ++ drop 4 b) sig ∙ ap (λ (x : List ℕ). DIRC ++ x) rest

-- ---- the body

first-only : {A : Type 0} (o : Option A) (l : List A) → l ≡ only o → first l ≡ o
first-only none l e = rw e refl
first-only (some a) l e = rw e refl

-- what a body that is spelled is read as
abbrev pub contents_of : {w : ℕ} {r : Records} {b : List ℕ} → Checksum → Body w r b → Contents
contents_of {r = r} sum h = record { version = h.version; checksum = sum; end = 12 + length h.entry_bytes; records = r }

read-body : (w : ℕ) (sum : Checksum) (r : Records) (b : List ℕ) (h : Body w r b) → read_body w h.version sum b ≡ good (contents_of sum h) (length b)
unfolding read_body shift bind
read-body w sum r b h =
    let a = h.entry_bytes in
    let x = h.extension_bytes in
    let count : be32 b 8 ≡ length r.entries = rw h.bytes (headed-count h.version (length r.entries) (a ++ x) h.few) in
    let rest : drop 12 b ≡ a ++ x = rw h.bytes (headed-rest h.version (length r.entries) (a ++ x)) in
    let entries = read-entries w h.version 12 x h.entries_are in
    let after : drop (length a) (a ++ x) ≡ x = drop_at a x (length a) refl in
    let extensions = read-extensions w (names r.entries) (length x) none_seen (12 + length a) h.extensions_are (only-once h.extensions r.cache_tree r.resolve_undo h.tree_is h.undo_is) (omega arith) in
    let t : first (trees h.extensions) ≡ r.cache_tree = first-only r.cache_tree _ h.tree_is in
    let u : first (undos h.extensions) ≡ r.resolve_undo = first-only r.resolve_undo _ h.undo_is in
    let long : length b ≡ 12 + (length a + (length x + 0)) =
    ap length h.bytes ∙ headed-length h.version (length r.entries) (a ++ x) ∙ simp length-append (omega arith) in
    rw (long, count, rest) (simp (entries, after, extensions, t, u))

body-read : (w v : ℕ) (sum : Checksum) (b : List ℕ) (c : Contents) (m : ℕ) → Bytes b → 12 ≤ length b → take 4 b ≡ DIRC → be32 b 4 ≡ v → 2 ≤ v → v ≤ 4 → read_body w v sum b ≡ good c m → Body w c.records b
unfolding read_body
body-read w v sum b c m bytes long sig ver lo hi q =
    shift-inv _ _ _ _ q λ j q₁ _.
    bind_inv _ _ _ _ q₁ λ es i k eq q₂ _.
    bind_inv _ _ _ _ q₂ λ xs o l xq q₃ _.
    good-inv _ _ _ _ q₃ λ is _.
    let rest-bytes : Bytes (drop 12 b) = bytes_drop 12 b bytes in
    let (within, entries, n-is) = entries-read _ _ _ _ _ _ _ _ rest-bytes eq in
    let (_, extensions, once) = extensions-read _ _ _ _ _ _ _ _ (bytes_drop i (drop 12 b) rest-bytes) xq in
    let (tree_is, undo_is) = once-only xs once in
    let n-fits = be32-below b 8 bytes in
    let bytes-are : b ≡ headed v (length es) (take i (drop 12 b) ++ drop i (drop 12 b)) =
    rw (← ver, n-is, take-append-drop i (drop 12 b)) (headed-back b bytes long sig) in
    rw (← is) (record {
      version = v;
      two_to_four = (lo, hi);
      few = omega arith;
      entry_bytes = take i (drop 12 b);
      extension_bytes = drop i (drop 12 b);
      extensions = xs;
      entries_are = entries;
      extensions_are = extensions;
      tree_is = tree_is;
      undo_is = undo_is;
      bytes = bytes-are;
    })

-- ---- the file

-- what check says of the checksum of a file that records spell
abbrev pub spelled_sum : {w : ℕ} {hash : List ℕ → List ℕ} {r : Records} {f : List ℕ} → Spells w hash r f → Checksum
spelled_sum {hash = hash} h = checksum_of (hash h.body) h.checksum

module _ (w : ℕ) (hash : List ℕ → List ℕ) (width : (b : List ℕ) → length (hash b) ≡ w) where
  -- a checksum, right or left out, has w bytes and is not wrong
  checksum-long : (b s : List ℕ) → (s ≡ hash b) ⊎ (s ≡ replicate w 0) → length s ≡ w
  checksum-long b s (inl e) = rw e (width b)
  checksum-long b s (inr e) = rw e (length-replicate w 0)

  checksum-sound : (b s : List ℕ) → (s ≡ hash b) ⊎ (s ≡ replicate w 0) → is_sound (checksum_of (hash b) s) ≡ true
  checksum-sound b s (inl e) = rw (e, digest-matches (hash b)) refl
  checksum-sound b s (inr e) = rw e (zeros-sound (hash b) w)

  -- where the body and the checksum are in the file
  module _ (r : Records) (f : List ℕ) (h : Spells w hash r f) where
    pub file-long : length f ≡ length h.body + w
    file-long = ap length h.file_is ∙ length-append h.body h.checksum ∙ rw (checksum-long h.body h.checksum h.right_or_left_out) refl

    body_at : length f - w ≡ length h.body
    body_at = omega (arith, file-long)

    pub body-first : take (length f - w) f ≡ h.body
    body-first = rw body_at (ap (take (length h.body)) h.file_is ∙ take_at h.body h.checksum (length h.body) refl)

    pub checksum-last : drop (length f - w) f ≡ h.checksum
    checksum-last = rw body_at (ap (drop (length h.body)) h.file_is ∙ drop_at h.body h.checksum (length h.body) refl)

  -- what is spelled is accepted, and read as these records
  pub spelled-read : (r : Records) (f : List ℕ) (h : Spells w hash r f) → read_file w hash f ≡ good (contents_of (spelled_sum h) h.body_is) (length h.body)
  unfolding read_file need checksum_in
  spelled-read r f h =
      let b = h.body in
      let last = h.checksum in
      let body = h.body_is in
      let n = length r.entries in
      let s : List ℕ = body.entry_bytes ++ body.extension_bytes in
      let lf : length f ≡ length b + w = file-long r f h in
      let lb : length b ≡ 12 + length s = ap length body.bytes ∙ headed-length body.version n s in
      let bs : take (length f - w) f ≡ b = body-first r f h in
      let cs : drop (length f - w) f ≡ last = checksum-last r f h in
      let whole : f ≡ headed body.version n (s ++ last) =
      h.file_is ∙ ap (λ (x : List ℕ). x ++ last) body.bytes ∙ simp append_assoc in
      let sig : take 4 f ≡ DIRC = rw whole (headed-signature body.version n (s ++ last)) in
      let small : body.version < 4294967296 = omega (arith, body.two_to_four.1) in
      let ver : be32 f 4 ≡ body.version = rw whole (headed-version body.version n (s ++ last) small) in
      let t₁ : leb (12 + w) (length f) ≡ true = le-leb (12 + w) (length f) (omega arith) in
      let t₂ : leb (length f) 16777216 ≡ true = le-leb _ _ h.short in
      let t₃ : eq_list (take 4 f) DIRC ≡ true = eq-eq_list _ _ sig in
      let t₄ : (leb 2 (be32 f 4) && leb (be32 f 4) 4) ≡ true = rw ver (and_both _ _ (le-leb _ _ body.two_to_four.0) (le-leb _ _ body.two_to_four.1)) in
      let sum_is : checksum_of (hash (take (length f - w) f)) (drop (length f - w) f) ≡ spelled_sum h = rw (cs, bs) refl in
      rw (t₁, t₂, t₃, t₄, sum_is, checksum-sound b last h.right_or_left_out, bs, ver) (read-body w (spelled_sum h) r b body)

  -- what is accepted is spelled
  pub read-spelled : (f : List ℕ) (c : Contents) (m : ℕ) → Bytes f → read_file w hash f ≡ good c m → Spells w hash c.records f
  unfolding read_file checksum_in
  read-spelled f c m bytes q =
      need-inv _ _ _ _ _ _ q λ t₁ q₁.
      need-inv _ _ _ _ _ _ q₁ λ t₂ q₂.
      need-inv _ _ _ _ _ _ q₂ λ t₃ q₃.
      need-inv _ _ _ _ _ _ q₃ λ t₄ q₄.
      need-inv _ _ _ _ _ _ q₄ λ t₅ q₅.
      let b : List ℕ = take (length f - w) f in
      let long : 12 + w ≤ length f = leb-true _ _ t₁ in
      let (lo, hi) = and-inv _ _ t₄ in
      let lb : length (take (length f - w) f) ≡ length f - w = length-take-le (length f - w) f (omega arith) in
      let wide : length (drop (length f - w) f) ≡ w = length-drop (length f - w) f ∙ omega arith in
      let sig : take 4 b ≡ DIRC = take-take 4 (length f - w) f (omega arith) ∙ eq_list-true _ _ t₃ in
      let ver : be32 b 4 ≡ be32 f 4 = be32-take f (length f - w) 4 (omega arith) in
      record {
        body = b;
        body_is = body-read w (be32 f 4) _ b c m (bytes_take (length f - w) f bytes) (omega arith) sig ver (leb-true _ _ lo) (leb-true _ _ hi) q₅;
        checksum = drop (length f - w) f;
        right_or_left_out = sound-inv (hash b) (drop (length f - w) f) w wide t₅;
        file_is = sym (take-append-drop (length f - w) f);
        short = leb-true _ _ t₂;
      }

  -- what was read says of the checksum what the last bytes are
  pub checksum-read : (f : List ℕ) (c : Contents) (m : ℕ) → Bytes f → read_file w hash f ≡ good c m
      → Which (hash (take (length f - w) f)) (drop (length f - w) f) w c.checksum
  checksum-read f c m bytes q = good-inv _ _ _ _ (sym (spelled-read r f h) ∙ q) λ same _. rw (ap (λ (d : Contents). d.checksum) same) at says
    where
      r : Records
      r = c.records

      h : Spells w hash r f
      h = read-spelled f c m bytes q

      says : Which (hash (take (length f - w) f)) (drop (length f - w) f) w (spelled_sum h)
      says =
          rw (body-first r f h, checksum-last r f h)
          (which (hash h.body) h.checksum w (checksum-long h.body h.checksum h.right_or_left_out) (checksum-sound h.body h.checksum h.right_or_left_out))

  -- one set of records only spells a file
  pub one : (r q : Records) (f : List ℕ) → Spells w hash r f → Spells w hash q f → r ≡ q
  one r q f h k =
      good-inv _ _ _ _ (sym (spelled-read r f h) ∙ spelled-read q f k) λ e _. ap (λ (c : Contents). c.records) e

-- ---- a cut file. Nothing of the hash is used

-- what is at the beginning of a list that begins with a spelled body
record Begins (w v : ℕ) (es : List Entry) (f : List ℕ) : Type 0 where
  version_is : be32 f 4 ≡ v
  count_is : be32 f 8 ≡ length es
  taken : ℕ
  entries_are : read_entries w v (length es) start 12 (drop 12 f) ≡ good es taken

begins : (w : ℕ) (r : Records) (b rest f : List ℕ) (h : Body w r b) → f ≡ b ++ rest → Begins w h.version r.entries f
begins w r b rest f h e =
    let n = length r.entries in
    let s : List ℕ = h.entry_bytes ++ (h.extension_bytes ++ rest) in
    let whole : f ≡ headed h.version n s = e ∙ ap (λ (x : List ℕ). x ++ rest) h.bytes ∙ simp append_assoc in
    let small : h.version < 4294967296 = omega (arith, h.two_to_four.1) in
    rw whole (record {
      version_is = headed-version h.version n s small;
      count_is = headed-count h.version n s h.few;
      taken = length h.entry_bytes;
      entries_are = rw (headed-rest h.version n s) (read-entries w h.version 12 (h.extension_bytes ++ rest) h.entries_are);
    })

same : (w v u : ℕ) (es fs : List Entry) (f : List ℕ) → Begins w v es f → Begins w u fs f → (v ≡ u) × (es ≡ fs)
same w v u es fs f h k =
    let version : v ≡ u = sym h.version_is ∙ k.version_is in
    let count : length es ≡ length fs = sym h.count_is ∙ k.count_is in
    let again : read_entries w u (length fs) start 12 (drop 12 f) ≡ good es h.taken = rw (← version, ← count) h.entries_are in
    (version, good-inv _ _ _ _ (sym again ∙ k.entries_are) λ e _. e)

-- a file and a beginning of it, both spelled, have the same version and the same entries
pub cut : (w : ℕ) (hash : List ℕ → List ℕ) (r q : Records) (f : List ℕ) (c : ℕ) (h : Spells w hash r f) (k : Spells w hash q (take c f))
    → (h.body_is.version ≡ k.body_is.version) × (r.entries ≡ q.entries)
cut w hash r q f c h k =
    same w _ _ r.entries q.entries f (begins w r h.body h.checksum f h.body_is h.file_is)
    (begins w q k.body (k.checksum ++ drop c f) f k.body_is
    (sym (take-append-drop c f) ∙ ap (λ (x : List ℕ). x ++ drop c f) k.file_is ∙ append_assoc k.body k.checksum (drop c f)))
