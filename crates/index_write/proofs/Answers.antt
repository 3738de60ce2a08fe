-- What the requests answer: by their tests, and by the reading of the file.
use mathlib.Core.Path.{◌≡◌, refl, sym, ap, ◌∙◌}
use mathlib.Core.List.{List, [], ◌∷◌, ◌++◌}
use mathlib.Core.Bool.{true, false, not}
use Prim.Native.Nat.{ℕ, ◌≤◌, ◌<◌}
use native.Mathlib.Omega.{arith}
use lib.ListN.{length, drop, replicate}
use lib.Dec.{ltb}
use borrow.Author.Tests.{ltb-true}
use Rattle.format.specs.Bytes.{Bytes, fit32}
use Rattle.format.specs.Names.{ok_name}
use Rattle.format.specs.Records.{mode_of, Key, Records}
use Rattle.format.specs.Layout.{ok_mode}
use Rattle.std.specs.Prelude.{Result}
use Rattle.format.specs.Reading.{Read, bad, good, need}
use Rattle.format.specs.Refusals.{Numbered, denied}
use Rattle.format.specs.Reader.{Contents}
use Rattle.format.specs.Places.{body_in}
use Rattle.format.specs.Requests.{ok_asked, mixed, put_record, remove_record, holds, writing, rewrite_request, put_request, remove_request}
use Rattle.format_laws.proofs.Tests.{and-inv, by-test}
use Rattle.format_laws.proofs.Readings.{good-inv}
use Rattle.kinds.specs.Kinds.{width_of, hash_of, read_kind}
use Rattle.fields.specs.Workspace.{Frame}
use Rattle.entries.specs.declared.record.Fields.{Fields}
use Rattle.answers.specs.Answers.{in_room, cleared}
use Rattle.entries.specs.Record.{entry_with}
use Rattle.answers.specs.Writing.{requested}
use Rattle.answers.proofs.Laws.{cleared-frame, cleared-same}
use Rattle.file_read.specs.declared.Parts.{Parts}
use Rattle.file_read.specs.Contents.{Contains}
use Rattle.file_read.proofs.Room.{room_of, in-room, cleared_by}
use Rattle.entries_edit.specs.declared.Edit.{Edit}
use Rattle.file_write.specs.Bodies.{changed, WriteReady}
use Rattle.file_write.specs.Results.{FileWritten}
use Rattle.index_write.specs.Calls.{Writes, Opened, Planned, record_number}
use Rattle.index_write.proofs.Files.{has_of, count-few}

-- ---- the numbers of a record

pub fit_append : (a b : List ℕ) → fit32 a ≡ true → fit32 b ≡ true → fit32 (a ++ b) ≡ true
unfolding fit32
fit_append [] b h k = k
fit_append (n ∷ a) b h k = let (own, rest) = and-inv (ltb n 4294967296) (fit32 a) h in rw (own, fit_append a b rest k) refl

-- ---- the answer's parts

pub writes-bad : (x : Read (List ℕ)) (n p : ℕ) (out work work' : List ℕ) → x ≡ bad n p → work' ≡ cleared work → Writes x out work out work' (denied n p)
writes-bad x n p out work work' e after = record { said = rw e; filled = rw e; after = after }

-- of another answer that is the same, and another workspace of which the same is left
pub writes_as : (x y : Read (List ℕ)) (out work work₁ out' work' : List ℕ) (r : Result ℕ Numbered) → x ≡ y → cleared work₁ ≡ cleared work → Writes y out work₁ out' work' r
    → Writes x out work out' work' r
writes_as x y out work work₁ out' work' r e same h = record { said = rw e h.said; filled = rw e h.filled; after = h.after ∙ same }

-- ---- what is asked of the records that were read

module _ (kind : ℕ) (x : Read Contents) (c : Contents) (m : ℕ) (read : x ≡ good c m) (asked room : ℕ) where
  pub asked-refused : (ask : Records → Read (List ℕ)) → ok_asked asked ≡ false → requested x (λ r. need (ok_asked asked) 4 0 (ask r)) ≡ bad 4 0
  unfolding need
  asked-refused ask refused = rw (read, refused)

  pub rewrite-refused : ok_asked asked ≡ false → requested x (rewrite_request (width_of kind) (hash_of kind) asked room) ≡ bad 4 0
  unfolding rewrite_request
  rewrite-refused refused = asked-refused _ refused

  pub rewrite-is : ok_asked asked ≡ true → requested x (rewrite_request (width_of kind) (hash_of kind) asked room) ≡ writing (width_of kind) (hash_of kind) asked room c.records
  unfolding rewrite_request need
  rewrite-is ok = rw (read, ok)

  module _ (fields : Fields) (name : List ℕ) where
    pub put_refused : ok_asked asked ≡ false → requested x (put_request (width_of kind) (hash_of kind) asked (entry_with (width_of kind) fields name) room) ≡ bad 4 0
    unfolding put_request
    put_refused refused = asked-refused _ refused

    pub put-unsound : ok_asked asked ≡ true → 0 < record_number fields name → requested x (put_request (width_of kind) (hash_of kind) asked (entry_with (width_of kind) fields name) room) ≡ bad (record_number fields name) 0
    unfolding put_request need record_number mode_of
    put-unsound ok h =
        by-test (ok_mode fields.mode)
        (λ mode.
        by-test (ltb fields.stage 4)
        (λ stage. by-test (ok_name name) (λ named. absurd (let z : 0 < 0 = rw (mode, stage, named) at h in omega arith)) (λ named. rw (read, ok, mode, stage, named)))
        (λ stage. rw (read, ok, mode, stage)))
        (λ mode. rw (read, ok, mode))

    -- a sound record: the answer is that of the last test
    put-sound : ok_asked asked ≡ true → record_number fields name ≡ 0
        → requested x (put_request (width_of kind) (hash_of kind) asked (entry_with (width_of kind) fields name) room)
        ≡ need (not (mixed (record { name = name; stage = fields.stage }) c.records.entries)) 11 0
        (writing (width_of kind) (hash_of kind) asked room (put_record (width_of kind) (entry_with (width_of kind) fields name) c.records))
    unfolding put_request need record_number mode_of
    put-sound ok h =
        by-test (ok_mode fields.mode)
        (λ mode.
        by-test (ltb fields.stage 4)
        (λ stage. by-test (ok_name name) (λ named. rw (read, ok, mode, stage, named)) (λ named. absurd (let z : ◌≡◌ {A = ℕ} 9 0 = rw (mode, stage, named) at h in omega arith)))
        (λ stage. absurd (let z : ◌≡◌ {A = ℕ} 8 0 = rw (mode, stage) at h in omega arith)))
        (λ mode. absurd (let z : ◌≡◌ {A = ℕ} 7 0 = rw mode at h in omega arith))

    pub put-mixed : ok_asked asked ≡ true → record_number fields name ≡ 0 → mixed (record { name = name; stage = fields.stage }) c.records.entries ≡ true
        → requested x (put_request (width_of kind) (hash_of kind) asked (entry_with (width_of kind) fields name) room) ≡ bad 11 0
    unfolding need
    put-mixed ok h clash = put-sound ok h ∙ rw clash

    pub put_is : ok_asked asked ≡ true → record_number fields name ≡ 0 → mixed (record { name = name; stage = fields.stage }) c.records.entries ≡ false
        → requested x (put_request (width_of kind) (hash_of kind) asked (entry_with (width_of kind) fields name) room) ≡ writing (width_of kind) (hash_of kind) asked room (put_record (width_of kind) (entry_with (width_of kind) fields name) c.records)
    unfolding need
    put_is ok h apart = put-sound ok h ∙ rw apart

  module _ (k : Key) where
    pub remove-refused : ok_asked asked ≡ false → requested x (remove_request (width_of kind) (hash_of kind) asked k room) ≡ bad 4 0
    unfolding remove_request
    remove-refused refused = asked-refused _ refused

    pub remove_absent : ok_asked asked ≡ true → holds k c.records.entries ≡ false → requested x (remove_request (width_of kind) (hash_of kind) asked k room) ≡ bad 18 0
    unfolding remove_request need
    remove_absent ok absent = rw (read, ok, absent)

    pub remove-is : ok_asked asked ≡ true → holds k c.records.entries ≡ true
        → requested x (remove_request (width_of kind) (hash_of kind) asked k room) ≡ writing (width_of kind) (hash_of kind) asked room (remove_record (width_of kind) k c.records)
    unfolding remove_request need
    remove-is ok there = rw (read, ok, there)

-- a sound record: its stage, its name
pub sound-record : (fields : Fields) (name : List ℕ) → record_number fields name ≡ 0 → (fields.stage ≤ 3) × (ok_name name ≡ true)
unfolding record_number
sound-record fields name h =
    by-test (ok_mode fields.mode)
    (λ mode.
    by-test (ltb fields.stage 4)
    (λ stage.
    by-test (ok_name name) (λ named. (let l : fields.stage < 4 = ltb-true fields.stage 4 stage in omega arith, named)) (λ named. absurd (let z : ◌≡◌ {A = ℕ} 9 0 = rw (mode, stage, named) at h in omega arith)))
    (λ stage. absurd (let z : ◌≡◌ {A = ℕ} 8 0 = rw (mode, stage) at h in omega arith)))
    (λ mode. absurd (let z : ◌≡◌ {A = ℕ} 7 0 = rw mode at h in omega arith))

-- ---- what the calls leave behind, from what their second part does

module _ (kind : ℕ) (f work work₁ : List ℕ) (clear : work₁ ≡ cleared work) where
  -- the file is refused
  pub call-refused : (ask : Records → Read (List ℕ)) (n p : ℕ) (out : List ℕ) → in_room work (read_kind kind f) ≡ bad n p
      → Writes (requested (in_room work (read_kind kind f)) ask) out work out work₁ (denied n p)
  call-refused ask n p out e = writes-bad _ n p out work work₁ (rw e) clear

  -- it is accepted
  module _ (parts : Parts) (h : Contains (width_of kind) (in_room work (read_kind kind f)) (body_in (width_of kind) f) parts) where
    room : 8192 ≤ length work
    room = room_of work (read_kind kind f) h.contents h.taken h.read

    same : cleared work₁ ≡ cleared work
    same = rw clear (cleared-same work (cleared work) room (cleared-frame work room))

    pub call-opened : Opened kind f work₁ parts × (work₁ ≡ cleared work₁)
    call-opened =
        let frame : Frame work work₁ = rw clear (cleared-frame work room) in
        (record { room = omega (arith, frame, room); contains = rw (in-room work (read_kind kind f) room) at h }, clear ∙ sym same)

    pub call-answered : (ask : Records → Read (List ℕ)) (out out' work' : List ℕ) (r : Result ℕ Numbered)
        → Writes (requested (read_kind kind f) ask) out work₁ out' work' r → Writes (requested (in_room work (read_kind kind f)) ask) out work out' work' r
    call-answered ask out out' work' r written =
        writes_as _ _ out work work₁ out' work' r (ap (λ (x : Read Contents). requested x ask) (in-room work (read_kind kind f) room)) same written

-- ---- an edit, written

module _ (kind : ℕ) (f work : List ℕ) (bytes : Bytes f) (parts : Parts) (edit : Edit) (fields : Fields) (name : List ℕ) (p : Planned kind f work parts edit fields name) where
  pub edit-ready : WriteReady (width_of kind) (body_in (width_of kind) f) work parts edit fields name
  edit-ready =
      let h = p.opened.contains in
      record {
        room = record { least = h.least; most = h.most; room = p.opened.room };
        few = count-few kind f bytes parts h;
        reach = p.reach;
        stage = p.stage;
        short = p.short;
        records = h.contents.records;
        has = has_of kind f bytes parts h;
        there = p.there;
      }

  pub edit-writes : (asked : ℕ) (out work₁ out' work₂ : List ℕ) (r : Result ℕ Numbered) → FileWritten (width_of kind) (hash_of kind) (body_in (width_of kind) f) parts work asked edit (entry_with (width_of kind) fields name) out work₁ out' r
      → work₂ ≡ replicate 8192 0 ++ drop 8192 work₁ → (c : Contents) (m : ℕ) → read_kind kind f ≡ good c m
      → Writes (writing (width_of kind) (hash_of kind) asked (length out) (changed (width_of kind) edit (entry_with (width_of kind) fields name) c.records)) out work out' work₂ r
  edit-writes asked out work₁ out' work₂ r written clear c m read =
      let h = p.opened.contains in
      good-inv _ _ _ _ (sym h.read ∙ read) λ is taken.
      let a = written.answers h.contents.records (has_of kind f bytes parts h) p.there in
      rw (← is) (record { said = a.said; filled = a.filled; after = cleared_by work work₁ work₂ p.opened.room written.frame clear })
