-- The theorem of Statements, for every kind; so for SHA-1 and SHA-256.
use mathlib.Core.Path.{◌≡◌, refl, ap, ◌∙◌}
use mathlib.Core.List.{List}
use mathlib.Core.Bool.{true, false, ◌&&◌, ◌||◌}
use Prim.Native.Nat.{ℕ}
use Rattle.std.proofs.Common.{Ok}
use native.Mathlib.Omega.{arith}
use lib.ListN.{length, drop, get_elem?}
use lib.Dec.{eqb, leb}
use borrow.Author.Tests.{eq-eqb, eqb-false, leb-true}
use Rattle.format.specs.Bytes.{be32}
use Rattle.format.specs.Records.{start}
use Rattle.format.specs.Reading.{Read, bad, good}
use Rattle.format.specs.Refusals.{denied}
use Rattle.format.specs.Reader.{Contents, read_entries, read_file}
use Rattle.format.specs.Places.{body_in}
use Rattle.format_laws.proofs.Tests.{by-test, and-inv, and_both, cond-inv}
use Rattle.kinds.specs.Kinds.{ok_kind, width_of, hash_of, read_kind}
use Rattle.kinds.proofs.Laws.{file-known}
use Rattle.answers.specs.Answers.{too_small, in_room, pick, entry_answer}
use Rattle.answers.proofs.Laws.{room-large, room-inv, item-none}
use Rattle.file_read.proofs.Files.{file-says}
use Rattle.entries_run.proofs.Steps.{entries-length}
use Rattle.walk.specs.Walks.{started_of, start_answer, walkable}
use Rattle.walk.proofs.Steps.{steps-show, steps-named, steps-show-all}
use Rattle.walk.proofs.Statements.{WholeWalk}

-- ---- what a file has over which a walk goes

two-or-three : (v : ℕ) → (leb 2 v && leb v 4) ≡ true → eqb v 4 ≡ false → (eqb v 2 || eqb v 3) ≡ true
two-or-three v known old =
    let (low, high) = and-inv (leb 2 v) (leb v 4) known in
    by-test (eqb v 2) (λ two. rw two)
    (λ other. rw (other, eq-eqb v 3 (omega (arith, leb-true 2 v low, leb-true v 4 high, eqb-false v 2 other, eqb-false v 4 old))))

module _ (w : ℕ) (hash : List ℕ → List ℕ) (f : List ℕ) where
  file-walkable : {X : Type 0} (c : Contents) (m : ℕ) → read_file w hash f ≡ good c m → eqb c.version 4 ≡ false
      → (walkable w f ≡ true → (j : ℕ)
      → read_entries w (be32 f 4) (length c.records.entries) start 12 (drop 12 (body_in w f)) ≡ good c.records.entries j → X) → X
  unfolding walkable
  file-walkable c m q old g =
      let h = file-says w hash f c m q in
      let count = entries-length w (be32 f 4) (be32 (body_in w f) 8) start 12 (drop 12 (body_in w f)) c.records.entries h.size h.entries in
      g (and_both _ _ h.long (and_both _ _ h.signed (two-or-three (be32 f 4) h.known (rw (← h.version) old)))) h.size (rw count h.entries)

-- the same of a file of a kind
module _ (kind : ℕ) (f : List ℕ) where
  file-read : {X : Type 0} (c : Contents) (m : ℕ) → read_kind kind f ≡ good c m → eqb c.version 4 ≡ false
      → (ok_kind kind ≡ true → walkable (width_of kind) f ≡ true → (j : ℕ)
      → read_entries (width_of kind) (be32 f 4) (length c.records.entries) start 12 (drop 12 (body_in (width_of kind) f)) ≡ good c.records.entries j → X) → X
  file-read c m q old g = file-known kind f c m q λ known read. file-walkable (width_of kind) (hash_of kind) f c m read old (g known)

-- a walk starts
started-inv : {X : Type 0} (x : Read Contents) (n : ℕ) → started_of x ≡ Ok n
    → ((c : Contents) (m : ℕ) → x ≡ good c m → eqb c.version 4 ≡ false → length c.records.entries ≡ n → X) → X
started-inv (bad i p) n e g = let z : ◌≡◌ {A = ℕ} 0 1 = cc in absurd (omega arith)
started-inv (good c m) n e g =
    cond-inv (eqb c.version 4) (denied 4 0) (Ok (length c.records.entries)) (Ok n) e
    (λ four r. let z : ◌≡◌ {A = ℕ} 0 1 = cc in absurd (omega arith))
    (λ old r. g c m refl old (cc))

start-inv : {X : Type 0} (work : List ℕ) (x : Read Contents) (n : ℕ) → start_answer work x ≡ Ok n
    → ((c : Contents) (m : ℕ) → too_small work ≡ false → x ≡ good c m → eqb c.version 4 ≡ false → length c.records.entries ≡ n → X) → X
unfolding start_answer
start-inv work x n e g = started-inv (in_room work x) n e λ c m read old count. room-inv work x c m read λ large is. g c m large is old count

-- ---- the theorem

module _ (kind : ℕ) (f : List ℕ) where
  pub whole-walk : WholeWalk kind f
  whole-walk =
      record {
        each = λ c m q old k. file-read kind f c m q old λ known ok j es. steps-show kind known f ok (length c.records.entries) start 12 c.records.entries j es k;
        all = λ c m q old. file-read kind f c m q old λ known ok j es. steps-show-all kind known f ok (length c.records.entries) start 12 c.records.entries j es;
        started = λ work n e k.
            start-inv work (read_kind kind f) n e λ c m large q old count.
            let is : entry_answer work k (read_kind kind f) ≡ pick false (get_elem? c.records.entries k) = unfold entry_answer in rw (room-large work (read_kind kind f) large, q, old) in
            rw (is, ← count)
            (file-read kind f c m q old λ known ok j es. steps-show kind known f ok (length c.records.entries) start 12 c.records.entries j es k);
        placed = λ work n e k few.
            start-inv work (read_kind kind f) n e λ c m large q old count.
            rw (← count)
            (file-read kind f c m q old λ known ok j es. steps-named kind known f ok (length c.records.entries) c.records.entries j es k (omega arith));
        ended = λ work n e k past.
            start-inv work (read_kind kind f) n e λ c m large q old count.
            let none-there = item-none c.records.entries k (omega arith) in
            rw (← count)
            ((file-read kind f c m q old λ known ok j es. steps-show kind known f ok (length c.records.entries) start 12 c.records.entries j es k) ∙ ap (pick false) none-there);
      }

pub whole-walk-sha1 : (f : List ℕ) → WholeWalk 1 f
whole-walk-sha1 f = whole-walk 1 f

pub whole-walk-sha256 : (f : List ℕ) → WholeWalk 2 f
whole-walk-sha256 f = whole-walk 2 f
