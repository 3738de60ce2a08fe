-- The proofs of the demands, over every width w and every hash of that width, from the answers and from the reading of a file that records
-- spell. Where a proof holds for whatever a call reads of a file, x is that.
use mathlib.Core.Path.{◌≡◌, refl, sym, ap, ◌∙◌}
use mathlib.Core.Logic.{◌↔◌, ◌⊎◌, inl, inr}
use mathlib.Core.Bool.{Bool, true, false}
use mathlib.Core.List.{List, ◌++◌, append_assoc}
use mathlib.Core.Option.{Option, none, some}
use Prim.Native.Nat.{ℕ, zero, suc, ◌-◌, ◌≤◌, ◌<◌}
use native.Mathlib.Omega.{arith}
use lib.ListN.{length, take, drop, get_elem?, replicate, length-replicate, length-append}
use lib.Seq.{take_at, drop_at}
use lib.Dec.{eqb, leb}
use borrow.Author.Tests.{leb-true}
use Rattle.format.specs.Bytes.{Bytes, eq_list}
use Rattle.format.specs.Checksum as M
use Rattle.format.specs.Names.{ok_name}
use Rattle.format.specs.Records.{Key, Records, Entry}
use Rattle.format.specs.Layout.{Entries, entries_end, entries_more, Spells}
use Rattle.format.specs.Reading.{Read, bad, good}
use Rattle.format.specs.Reader.{Contents, read_file}
use Rattle.answers.specs.declared.Checksum.{Checksum}
use Rattle.answers.specs.declared.Checksum.TheVariants.{Matches, LeftOut, Wrong}
use Rattle.answers.specs.declared.Summary.{Summary}
use Rattle.std.specs.Prelude.{Result, Ok, Err}
use Rattle.format.specs.Refusals.{Numbered, denied}
use Rattle.answers.specs.Answers.{too_small, in_room, cleared, holding, work_after, refused, in_workspace, checksum_as, summary_of, checked_of, check_answer, entry_answer, node_answer, undo_answer, pick, listed, items_of, entry_of, node_of, undo_of}
use Rattle.format_laws.proofs.Tests.{and-inv}
use Rattle.format_laws.proofs.Numbers.{bytes_take}
use Rattle.answers.proofs.Laws.{room-large, room-inv}
use Rattle.kinds.specs.Kinds.{width_of, hash_of, read_kind}
use Rattle.kinds.proofs.Laws.{file-known}
use Rattle.spelling.proofs.Checksums.{Which}
use Rattle.spelling.proofs.File.{contents_of, spelled_sum, spelled-read, read-spelled, checksum-read, cut}
use Rattle.answers.specs.Writing.{rewrite_answer, put_answer, remove_answer}

-- an accepted file has been read
pub accepted-inv {ℓ} :
    {X : Type ℓ} (work : List ℕ) (x : Read Contents) (s : Summary) → too_small work ≡ false → check_answer work x ≡ Ok s →
    ((c : Contents) (m : ℕ) → x ≡ good c m → X) → X
unfolding check_answer
accepted-inv {X = X} work x s room e f = by x (sym (ap checked_of (room-large work x room)) ∙ e) f
  where
    by : (y : Read Contents) → checked_of y ≡ Ok s → ((c : Contents) (m : ℕ) → y ≡ good c m → X) → X
    by (bad n p) q g = let z : ◌≡◌ {A = ℕ} 0 1 = cc in absurd (omega arith)
    by (good c m) q g = g c m refl

-- ---- demand 1

-- what is refused, with the workspace, is refused by every call
pub all-refuse : (w : ℕ) (hash : List ℕ → List ℕ) (work : List ℕ) (x : Read Contents) (n p : ℕ) → in_room work x ≡ bad n p →
    (check_answer work x ≡ denied n p)
    × ((k : ℕ) →
    (entry_answer work k x ≡ refused n p)
    × (work_after (entry_answer work k x) work ≡ cleared work)
    × (node_answer work k x ≡ refused n p)
    × (undo_answer work k x ≡ refused n p))
    × ((asked room : ℕ) (e : Entry) (k : Key) →
    (rewrite_answer w hash work asked room x ≡ bad n p)
    × (put_answer w hash work asked e room x ≡ bad n p)
    × (remove_answer w hash work asked k room x ≡ bad n p))
unfolding check_answer entry_answer node_answer undo_answer rewrite_answer put_answer remove_answer
all-refuse w hash work x n p e = (rw e refl, λ k. (rw e refl, rw e refl, rw e refl, rw e refl), λ asked room y k. (rw e refl, rw e refl, rw e refl))

-- 19 leaves the workspace
pub left : (work : List ℕ) → too_small work ≡ true → cleared work ≡ work
unfolding cleared
left work small = rw small

pub zeroed : (work : List ℕ) → too_small work ≡ false → (take 8192 (cleared work) ≡ replicate 8192 0) × (drop 8192 (cleared work) ≡ drop 8192 work)
unfolding cleared
zeroed work room =
    let zeros : List ℕ = replicate 8192 0 in
    let n : length zeros ≡ 8192 = length-replicate {A = ℕ} 8192 0 in
    rw room (take_at zeros (drop 8192 work) 8192 n, drop_at zeros (drop 8192 work) 8192 n)

-- the parts of a workspace that holds a name
held : (name work : List ℕ) → length name ≤ 8192 →
    (take (length name) (holding name work) ≡ name)
    × (take (8192 - length name) (drop (length name) (holding name work)) ≡ replicate (8192 - length name) 0)
    × (drop 8192 (holding name work) ≡ drop 8192 work)
unfolding holding
held name work short =
    let zeros : List ℕ = replicate (8192 - length name) 0 in
    let n : length zeros ≡ 8192 - length name = length-replicate (8192 - length name) 0 in
    let l : length (name ++ zeros) ≡ 8192 = length-append name zeros ∙ omega arith in (
      take_at name _ _ refl,
      rw (drop_at name (zeros ++ drop 8192 work) (length name) refl) (take_at zeros (drop 8192 work) (8192 - length name) n),
      rw (← append_assoc name zeros (drop 8192 work)) (drop_at (name ++ zeros) (drop 8192 work) 8192 l),
    )

-- each entry of a file has a name
entry_named : (w v : ℕ) {key : Key} {es : List Entry} {a : List ℕ} → Entries w v key es a → (k : ℕ) (e : Entry) → get_elem? es k ≡ some e → ok_name e.name ≡ true
entry_named w v entries_end k e q = let z : ◌≡◌ {A = ℕ} 0 1 = cc in absurd (omega arith)
entry_named w v (entries_more {e = x} is more) zero e q = let same : x ≡ e = cc in rw same at is.name
entry_named w v (entries_more is more) (suc k) e q = entry_named w v more k e q

short-name : (name : List ℕ) → ok_name name ≡ true → length name ≤ 8192
unfolding ok_name
short-name name ok =
    let (_, more) = and-inv (leb 1 (length name)) _ ok in
    let (short, _) = and-inv (leb (length name) 8192) _ more in
    leb-true (length name) 8192 short

-- a view in the workspace is of an item of the list
in-workspace : (t : Bool) (o : Option Entry) (e : Entry) → pick t o ≡ in_workspace e → o ≡ some e
in-workspace t none e q = let z : ◌≡◌ {A = ℕ} 0 1 = cc in absurd (omega arith)
in-workspace true (some a) e q = cc
in-workspace false (some a) e q = let z : ◌≡◌ {A = ℕ} 0 1 = cc in absurd (omega arith)

-- x is the reading of a file, where it is no refusal
abbrev pub ReadBy : (w : ℕ) (hash : List ℕ → List ℕ) (f : List ℕ) (x : Read Contents) → Type 0
ReadBy w hash f x = (c : Contents) (m : ℕ) → x ≡ good c m → read_file w hash f ≡ good c m

pub read_by : (kind : ℕ) (f : List ℕ) → ReadBy (width_of kind) (hash_of kind) f (read_kind kind f)
read_by kind f c m e = file-known kind f c m e λ _ q. q

module _ (w : ℕ) (hash : List ℕ → List ℕ) (work : List ℕ) (width : (b : List ℕ) → length (hash b) ≡ w) (f : List ℕ) (x : Read Contents) (read : ReadBy w hash f x) where
  shown-named : (k : ℕ) (e : Entry) → Bytes f → entry_answer work k x ≡ in_workspace e → length e.name ≤ 8192
  unfolding entry_answer
  shown-named k e bytes = by (in_room work x) refl
    where
      by : (r : Read Contents) → in_room work x ≡ r → entry_of k r ≡ in_workspace e → length e.name ≤ 8192
      by (bad n p) is q = let z : ◌≡◌ {A = ℕ} 0 1 = cc in absurd (omega arith)
      by (good c m) is q =
          room-inv work x c m is λ large good-is.
          let h = read-spelled w hash width f c m bytes (read c m good-is) in
          short-name e.name (entry_named w h.body_is.version h.body_is.entries_are k e (in-workspace (eqb c.version 4) _ e q))

  pub name-left : (k : ℕ) (e : Entry) → Bytes f → entry_answer work k x ≡ in_workspace e →
      (take (length e.name) (work_after (entry_answer work k x) work) ≡ e.name)
      × (take (8192 - length e.name) (drop (length e.name) (work_after (entry_answer work k x) work)) ≡ replicate (8192 - length e.name) 0)
      × (drop 8192 (work_after (entry_answer work k x) work) ≡ drop 8192 work)
  name-left k e bytes q = rw q (held e.name work (shown-named k e bytes q))

  -- ---- demand 2

  pub file-read : too_small work ≡ false → (c : Contents) (m : ℕ) → Bytes f → x ≡ good c m →
      Spells w hash c.records f
      × (check_answer work x ≡ Ok (summary_of c))
      × ((k : ℕ) →
      (entry_answer work k x ≡ pick (eqb c.version 4) (get_elem? c.records.entries k))
      × (node_answer work k x ≡ listed (items_of c.records.cache_tree) k)
      × (undo_answer work k x ≡ listed c.records.resolve_undo k))
  unfolding in_room check_answer entry_answer node_answer undo_answer
  file-read room c m bytes e =
      (read-spelled w hash width f c m bytes (read c m e), rw (room, e) refl, λ k. (rw (room, e) refl, rw (room, e) refl, rw (room, e) refl))

  -- what check says of the checksum
  abbrev Guarded : Checksum → Type 0
  Guarded sum =
      let n : ℕ = length f - w in
      ((sum ≡ Matches) × (drop n f ≡ hash (take n f))) ⊎ ((sum ≡ LeftOut) × (drop n f ≡ replicate w 0) × (eq_list (drop n f) (hash (take n f)) ≡ false))

  pub guarded : too_small work ≡ false → (s : Summary) → Bytes f → check_answer work x ≡ Ok s → Guarded s.checksum
  guarded room s bytes e =
      accepted-inv work x s room e λ c m q.
      let (_, checked, _) = file-read room c m bytes q in
      rw (ap checksum_said (sym e ∙ checked)) (by c.checksum (checksum-read w hash width f c m bytes (read c m q)))
    where
      checksum_said : Result Summary Numbered → Checksum
      checksum_said (Err x) = Wrong
      checksum_said (Ok s) = s.checksum

      by : (sum : M.Checksum) → Which (hash (take (length f - w) f)) (drop (length f - w) f) w sum → Guarded (checksum_as sum)
      by sum (inl (is, same)) = inl (ap checksum_as is, same)
      by sum (inr (is, left, differ)) = inr (ap checksum_as is, left, differ)

module _ (w : ℕ) (hash : List ℕ → List ℕ) (work : List ℕ) (width : (b : List ℕ) → length (hash b) ≡ w) (room : too_small work ≡ false) where
  -- ---- demand 3

  module _ (f : List ℕ) (r : Records) (h : Spells w hash r f) where
    pub checked : check_answer work (read_file w hash f) ≡ Ok (summary_of (contents_of (spelled_sum h) h.body_is))
    unfolding check_answer
    checked = ap checked_of (room-large work (read_file w hash f) room ∙ spelled-read w hash width r f h)

    pub entry-shown : (k : ℕ) → entry_answer work k (read_file w hash f) ≡ pick (eqb h.body_is.version 4) (get_elem? r.entries k)
    unfolding entry_answer
    entry-shown k = ap (entry_of k) (room-large work (read_file w hash f) room ∙ spelled-read w hash width r f h)

    pub node-shown : (k : ℕ) → node_answer work k (read_file w hash f) ≡ listed (items_of r.cache_tree) k
    unfolding node_answer
    node-shown k = ap (node_of k) (room-large work (read_file w hash f) room ∙ spelled-read w hash width r f h)

    pub undo-shown : (k : ℕ) → undo_answer work k (read_file w hash f) ≡ listed r.resolve_undo k
    unfolding undo_answer
    undo-shown k = ap (undo_of k) (room-large work (read_file w hash f) room ∙ spelled-read w hash width r f h)

  -- what is accepted is spelled
  accepted-spelled : (f : List ℕ) (s : Summary) → Bytes f → check_answer work (read_file w hash f) ≡ Ok s → (r : Records) × Spells w hash r f
  accepted-spelled f s bytes e =
      accepted-inv work (read_file w hash f) s room e λ c m q.
      (c.records, read-spelled w hash width f c m bytes q)

  pub exact : (f : List ℕ) → Bytes f → ((s : Summary) × (check_answer work (read_file w hash f) ≡ Ok s)) ↔ ((r : Records) × Spells w hash r f)
  exact f bytes = ((λ a. accepted-spelled f a.0 bytes a.1), (λ p. (_, checked f p.0 p.1)))

  -- the two answers for a cut, given that the cut is accepted
  same_entries : (f : List ℕ) (c : ℕ) (s t : Summary) → Bytes f → check_answer work (read_file w hash f) ≡ Ok s → check_answer work (read_file w hash (take c f)) ≡ Ok t
      → (t.entries ≡ s.entries) × ((k : ℕ) → entry_answer work k (read_file w hash (take c f)) ≡ entry_answer work k (read_file w hash f))
  same_entries f c s t bytes e d =
      let (r, h) = accepted-spelled f s bytes e in
      let (q, k) = accepted-spelled (take c f) t (bytes_take c f bytes) d in
      let both = cut w hash r q f c h k in
      let version : h.body_is.version ≡ k.body_is.version = both.0 in
      let same : r.entries ≡ q.entries = both.1 in
      let s-is : Ok s ≡ Ok (summary_of (contents_of (spelled_sum h) h.body_is)) = sym e ∙ checked f r h in
      let t-is : Ok t ≡ Ok (summary_of (contents_of (spelled_sum k) k.body_is)) = sym d ∙ checked (take c f) q k in
      let s-count : s.entries ≡ length r.entries = ap entries_of s-is in
      let t-count : t.entries ≡ length q.entries = ap entries_of t-is in (
        t-count ∙ ap length (sym same) ∙ sym s-count,
        λ i. entry-shown (take c f) q k i ∙ rw (← version, ← same) (sym (entry-shown f r h i)),
      )
    where
      entries_of : Result Summary Numbered → ℕ
      entries_of (Err x) = 0
      entries_of (Ok s) = s.entries

  pub cut-rule : (f : List ℕ) (c : ℕ) (s : Summary) → Bytes f → check_answer work (read_file w hash f) ≡ Ok s
      → ((n p : ℕ) × (check_answer work (read_file w hash (take c f)) ≡ denied n p))
      ⊎ ((t : Summary) × (check_answer work (read_file w hash (take c f)) ≡ Ok t) × (t.entries ≡ s.entries)
      × ((k : ℕ) → k < s.entries → entry_answer work k (read_file w hash (take c f)) ≡ entry_answer work k (read_file w hash f)))
  cut-rule f c s bytes e = go (check_answer work (read_file w hash (take c f))) refl
    where
      go : (a : Result Summary Numbered) → check_answer work (read_file w hash (take c f)) ≡ a
          → ((n p : ℕ) × (check_answer work (read_file w hash (take c f)) ≡ denied n p))
          ⊎ ((t : Summary) × (check_answer work (read_file w hash (take c f)) ≡ Ok t) × (t.entries ≡ s.entries)
          × ((k : ℕ) → k < s.entries → entry_answer work k (read_file w hash (take c f)) ≡ entry_answer work k (read_file w hash f)))
      go (Err x) d = inl (x.number, x.place, d)
      go (Ok t) d = let (count, shown) = same_entries f c s t bytes e d in inr (t, d, count, λ k _. shown k)
