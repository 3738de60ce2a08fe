-- A reply whose refusal is 0 is a success: no refusal has the number 0.
use mathlib.Core.Path.{◌≡◌, refl, sym, ap}
use mathlib.Core.Logic.{◌⊎◌, inl, inr}
use mathlib.Core.List.{List}
use mathlib.Core.Bool.{Bool, true, false, cond}
use mathlib.Core.Option.{Option, none, some}
use Prim.Native.Nat.{ℕ, ◌<◌}
use native.Mathlib.Omega.{arith}
use lib.ListN.{length, drop, get_or, get_elem?}
use lib.Dec.{eqb}
use Rattle.format.specs.Bytes.{be32}
use Rattle.format.specs.Records.{Entry, Key, Records, start}
use Rattle.format.specs.Reading.{Read, bad, good, need}
use Rattle.format.specs.Reader.{Contents, read_entry, read_file}
use Rattle.kinds.specs.Kinds.{ok_kind, width_of, hash_of, of_kind, read_kind}
use Rattle.answers.specs.declared.Summary.{Summary}
use Rattle.std.proofs.Common.{Result, Ok, Err}
use Rattle.format.specs.Refusals.{denied}
use Rattle.format.specs.Refusals as R
use Rattle.answers.specs.Answers.{View, refused, in_file, in_workspace, too_small, in_room, pick, listed, items_of, entry_of, node_of, undo_of, checked_of, check_answer, entry_answer, node_answer, undo_answer}
use Rattle.answers.specs.Writing.{requested, rewrite_answer, put_answer, remove_answer}
use Rattle.format.specs.Places.{body_in}
use Rattle.walk.specs.declared.Place.{Place}
use Rattle.walk.specs.Walks.{or18, view_in, walk_read, step_read, walk_answer, started_of, start_answer}
use Rattle.replies.specs.Arrays.{check_reply, start_reply, refusal_in}
use Rattle.replies.proofs.Reading.{Tells}
use Rattle.nerupazhil.specs.Replies.{StepReplies, WriteReplies}
use Rattle.nerupazhil.proofs.Numbers.{Numbered, numbered-bad, numbered-good, numbered-need, file-numbered, rewrite-numbered, put-numbered, remove-numbered}

-- the reading of a file with a workspace has a number from 1 on where it refuses
room-numbered : (kind : ℕ) (work f : List ℕ) → Numbered (in_room work (read_kind kind f))
unfolding in_room read_kind of_kind
room-numbered kind work f = by (too_small work)
  where
    by : (t : Bool) → Numbered (cond t (bad 19 0) (need (ok_kind kind) 29 0 (read_file (width_of kind) (hash_of kind) f)))
    by true = numbered-bad 19 0 (omega arith)
    by false = numbered-need _ _ _ _ (omega arith) (file-numbered (width_of kind) (hash_of kind) f)

-- ---- what is shown

pub record Positive {A : Type 0} (v : View A) : Type 0 where
  pub number : (n p : ℕ) → v ≡ refused n p → 0 < n

module _ {A : Type 0} where
  positive-refused : (n p : ℕ) → 0 < n → Positive {A = A} (refused n p)
  positive-refused n p h = record { number = λ i j e. let q : n ≡ i = cc in omega arith }

  positive-pick : (packed : Bool) (o : Option A) → Positive (pick packed o)
  positive-pick packed none = positive-refused 18 0 (omega arith)
  positive-pick true (some a) = record { number = λ i j e. let z : ◌≡◌ {A = ℕ} 0 1 = cc in absurd (omega arith) }
  positive-pick false (some a) = record { number = λ i j e. let z : ◌≡◌ {A = ℕ} 0 1 = cc in absurd (omega arith) }

  positive-listed : (o : Option (List A)) (k : ℕ) → Positive (listed o k)
  positive-listed none k = positive-refused 18 0 (omega arith)
  positive-listed (some xs) k = positive-pick false (get_elem? xs k)

  positive-answer : (x : Read Contents) (view : Read Contents → View A) → Numbered x → ((n p : ℕ) → view (bad n p) ≡ refused n p)
      → ((c : Contents) (m : ℕ) → Positive (view (good c m))) → Positive (view x)
  positive-answer (bad n p) view h e q = rw (e n p) (positive-refused n p (h.positive n p refl))
  positive-answer (good c m) view h e q = q c m

  -- a reply that tells such a view, with the refusal 0, tells an item
  pub shown-success : (v : View A) (refusal place : ℕ) (x : A) → Positive v → Tells v refusal place x → refusal ≡ 0 → (v ≡ in_file x) ⊎ (v ≡ in_workspace x)
  shown-success (refused n p) refusal place x h t e =
      let z : 0 < n = h.number n p refl in
      let q : refusal ≡ n = (t.refuses n p refl).0 in absurd (omega arith)
  shown-success (in_file y) refusal place x h t e = inl (ap in_file (sym (t.file y refl).1))
  shown-success (in_workspace y) refusal place x h t e = inr (ap in_workspace (sym (t.workspace y refl).1))

module _ (kind : ℕ) (work f : List ℕ) (k : ℕ) where
  pub positive-entry : Positive (entry_answer work k (read_kind kind f))
  unfolding entry_answer
  positive-entry = positive-answer _ (entry_of k) (room-numbered kind work f) (λ n p. refl) (λ c m. positive-pick (eqb c.version 4) (get_elem? c.records.entries k))

  pub positive-node : Positive (node_answer work k (read_kind kind f))
  unfolding node_answer
  positive-node = positive-answer _ (node_of k) (room-numbered kind work f) (λ n p. refl) (λ c m. positive-listed (items_of c.records.cache_tree) k)

  pub positive-undo : Positive (undo_answer work k (read_kind kind f))
  unfolding undo_answer
  positive-undo = positive-answer _ (undo_of k) (room-numbered kind work f) (λ n p. refl) (λ c m. positive-listed c.records.resolve_undo k)

pub positive-step : (kind : ℕ) (f : List ℕ) (at left : ℕ) → Positive (walk_answer kind f at left)
unfolding walk_answer step_read of_kind walk_read
positive-step kind f at left =
    view _ (numbered-need _ _ _ _ (omega arith) (numbered-need _ _ _ _ (omega arith) (eighteen (read_entry (width_of kind) (be32 f 4) start at (drop at (body_in (width_of kind) f))))))
  where
    eighteen : (x : Read Entry) → Numbered (or18 x)
    eighteen (bad n p) = numbered-bad 18 0 (omega arith)
    eighteen (good e m) = numbered-good e m

    view : (x : Read Entry) → Numbered x → Positive (view_in x)
    view (bad n p) h = positive-refused n p (h.positive n p refl)
    view (good e m) h = record { number = λ i j q. let z : ◌≡◌ {A = ℕ} 0 1 = cc in absurd (omega arith) }

-- where a step is a success, its reply has the place after it
pub step-next : (w at : ℕ) (v : View Entry) (next : Place) (f reply numbers object : List ℕ) → Positive v → StepReplies w at v next f reply numbers object
    → refusal_in reply ≡ 0 → (get_or reply 5 0 ≡ next.at) × (get_or reply 6 0 ≡ next.left)
step-next w at (refused n p) next f reply numbers object h r e =
    let z : 0 < n = h.number n p refl in
    let q : refusal_in reply ≡ n = ap refusal_in r.whole in absurd (omega arith)
step-next w at (in_file y) next f reply numbers object h r e = rw r.whole (refl, refl)
step-next w at (in_workspace y) next f reply numbers object h r e = rw r.whole (refl, refl)

-- ---- check, the start of a walk

-- a refusal's number is from 1 on
abbrev refusal_of : {A : Type 0} → Result A R.Numbered → ℕ
refusal_of (Err x) = x.number
refusal_of (Ok a) = 0

number-of : {A : Type 0} (i q n p : ℕ) → 0 < i → denied {A = A} i q ≡ denied n p → 0 < n
number-of i q n p h e = let same : i ≡ n = ap refusal_of e in omega arith

module _ (kind : ℕ) (work f : List ℕ) where
  pub check-positive : (n p : ℕ) → check_answer work (read_kind kind f) ≡ denied n p → 0 < n
  unfolding check_answer
  check-positive = by (in_room work (read_kind kind f)) (room-numbered kind work f)
    where
      by : (x : Read Contents) → Numbered x → (n p : ℕ) → checked_of x ≡ denied n p → 0 < n
      by (bad i q) h n p e = number-of i q n p (h.positive i q refl) e
      by (good c m) h n p e = absurd (cc)

  pub start-positive : (n p : ℕ) → start_answer work (read_kind kind f) ≡ denied n p → 0 < n
  unfolding start_answer
  start-positive = by (in_room work (read_kind kind f)) (room-numbered kind work f)
    where
      ready : (t : Bool) (k n p : ℕ) → cond t (denied 4 0) (Ok k) ≡ denied n p → 0 < n
      ready true k n p e = number-of 4 0 n p (omega arith) e
      ready false k n p e = absurd (cc)

      by : (x : Read Contents) → Numbered x → (n p : ℕ) → started_of x ≡ denied n p → 0 < n
      by (bad i q) h n p e = number-of i q n p (h.positive i q refl) e
      by (good c m) h n p e = ready (eqb c.version 4) (length c.records.entries) n p e

  pub check-success : refusal_in (check_reply (check_answer work (read_kind kind f))) ≡ 0 → (s : Summary) × (check_answer work (read_kind kind f) ≡ Ok s)
  check-success = by (check_answer work (read_kind kind f)) check-positive
    where
      by : (x : Result Summary R.Numbered) → ((n p : ℕ) → x ≡ denied n p → 0 < n) → refusal_in (check_reply x) ≡ 0 → (s : Summary) × (x ≡ Ok s)
      by (Err y) h e = let z : 0 < y.number = h y.number y.place refl in absurd (omega arith)
      by (Ok s) h e = (s, refl)

  pub start-success : refusal_in (start_reply (start_answer work (read_kind kind f))) ≡ 0 → (n : ℕ) × (start_answer work (read_kind kind f) ≡ Ok n)
  start-success = by (start_answer work (read_kind kind f)) start-positive
    where
      by : (x : Result ℕ R.Numbered) → ((n p : ℕ) → x ≡ denied n p → 0 < n) → refusal_in (start_reply x) ≡ 0 → (n : ℕ) × (x ≡ Ok n)
      by (Err y) h e = let z : 0 < y.number = h y.number y.place refl in absurd (omega arith)
      by (Ok n) h e = (n, refl)

-- ---- the calls that write

module _ (kind : ℕ) (work f : List ℕ) (asked room : ℕ) where
  numbered-answer : (ask : Records → Read (List ℕ)) → ((r : Records) → Numbered (ask r)) → Numbered (requested (in_room work (read_kind kind f)) ask)
  numbered-answer ask h = by (in_room work (read_kind kind f)) (room-numbered kind work f)
    where
      by : (x : Read Contents) → Numbered x → Numbered (requested x ask)
      by (bad n p) q = numbered-bad n p (q.positive n p refl)
      by (good c m) q = h c.records

  pub numbered-rewrite : Numbered (rewrite_answer (width_of kind) (hash_of kind) work asked room (read_kind kind f))
  unfolding rewrite_answer
  numbered-rewrite = numbered-answer _ (rewrite-numbered (width_of kind) (hash_of kind) asked room)

  pub numbered-put : (e : Entry) → Numbered (put_answer (width_of kind) (hash_of kind) work asked e room (read_kind kind f))
  unfolding put_answer
  numbered-put e = numbered-answer _ (put-numbered (width_of kind) (hash_of kind) asked e room)

  pub numbered-remove : (k : Key) → Numbered (remove_answer (width_of kind) (hash_of kind) work asked k room (read_kind kind f))
  unfolding remove_answer
  numbered-remove k = numbered-answer _ (remove-numbered (width_of kind) (hash_of kind) asked k room)

pub write-success : (kind : ℕ) (f : List ℕ) (asked : ℕ) (change : Records → Records) (x : Read (List ℕ)) (out work out' work' reply : List ℕ)
    → WriteReplies kind f asked change x out work out' work' reply → Numbered x → refusal_in reply ≡ 0
    → (bytes : List ℕ) × (x ≡ good bytes (get_or reply 2 0))
write-success kind f asked change (bad n p) out work out' work' reply w h e =
    let z : 0 < n = h.positive n p refl in
    let q : refusal_in reply ≡ n = ap refusal_in w.said in absurd (omega arith)
write-success kind f asked change (good bytes n) out work out' work' reply w h e =
    (bytes, ap (good bytes) (sym (ap (λ (r : List ℕ). get_or r 2 0) w.said)))
