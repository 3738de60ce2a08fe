-- Laws of the run of entries, one step after another, for loops over entries.
use mathlib.Core.Path.{◌≡◌, refl, sym, ap, subst, ◌∙◌}
use mathlib.Core.List.{List, [], ◌∷◌, ◌++◌, append-nil}
use mathlib.Core.Bool.{Bool, true, false, cond}
use mathlib.Core.Option.{some}
use Prim.Native.Nat.{ℕ, zero, suc, ◌+◌, ◌-◌, ◌≤◌, ◌<◌, zero-le}
use native.Mathlib.Nat.{zero-add}
use native.Mathlib.Omega.{arith}
use lib.ListN.{length, take, drop, get_elem?, length-append}
use lib.Seq.{drop-drop, take-append_seam}
use lib.Dec.{eqb}
use Rattle.std.specs.Prelude.{Result, Ok, Err}
use Rattle.format.specs.declared.Refusal.{Refusal}
use Rattle.format.specs.declared.Fault.{Fault}
use Rattle.format.specs.Refusals.{number_of, Numbered, denied}
use Rattle.format.specs.Records.{Entry, Key, key_of, start}
use Rattle.format.specs.Reading.{Read, bad, good, bind}
use Rattle.format.specs.Reader.{entry_of, read_entry, read_entries}
use Rattle.format.specs.Places.{entry_place, name_place}
use Rattle.format_laws.proofs.Readings.{bad-good, good-inv, bind_inv, in_front, front-none, front-one, front-front, front-inv}
use Rattle.spelling.proofs.Entries.{entry_named}
use Rattle.fields.specs.Begun.{Begun}
use Rattle.fields.specs.Workspace.{Frame}
use Rattle.fields.proofs.Beginnings.{begun-none, begun-name}
use Rattle.fields.proofs.Workspace.{frame_same, frame_then}
use Rattle.entries_run.specs.declared.Cursor.{Cursor}
use Rattle.entries_run.specs.declared.Step.{Step}
use Rattle.entries_run.specs.declared.Sought.{Sought}
use Rattle.entries_run.specs.Steps.{name_at, entry_at, Inside, Room, StepFound, EntryStepped, EntryPassed, first_cursor, run_from, RunRead, EntriesRead, AllRead, Readable, run_of, RunAnswered, EntryPlaced, SeekAnswered}

-- ---- one entry more

run-suc : (w : ℕ) (v n : ℕ) (k : Key) (p : ℕ) (s : List ℕ)
    → read_entries w v (suc n) k p s ≡ bind (read_entry w v k p s) (λ e m. bind (read_entries w v n (key_of e) (p + m) (drop m s)) (λ es o. good (e ∷ es) 0))
unfolding read_entries
run-suc w v n k p s = refl

module _ (w : ℕ) (v n : ℕ) (k : Key) (p : ℕ) (s : List ℕ) (more : 0 < n) where
  run_more : read_entries w v n k p s ≡ bind (read_entry w v k p s) (λ e m. bind (read_entries w v (n - 1) (key_of e) (p + m) (drop m s)) (λ es o. good (e ∷ es) 0))
  run_more =
      let e : n ≡ suc (n - 1) = omega arith in
      ap (λ (j : ℕ). read_entries w v j k p s) e ∙ run-suc w v (n - 1) k p s

  run-refused : (j : ℕ) → read_entry w v k p s ≡ bad j p → read_entries w v n k p s ≡ bad j p
  unfolding bind
  run-refused j e = run_more ∙ rw e

  run_on : (e : Entry) (m : ℕ) → read_entry w v k p s ≡ good e m
      → read_entries w v n k p s ≡ in_front (e ∷ []) m (read_entries w v (n - 1) (key_of e) (p + m) (drop m s))
  unfolding bind
  run_on e m q = run_more ∙ rw q (front-one e m _)

  -- the first of entries that were read
  run-first-entry {ℓ} : {X : Type ℓ} (es : List Entry) (m : ℕ) → read_entries w v n k p s ≡ good es m → ((e : Entry) (j : ℕ) → read_entry w v k p s ≡ good e j → X) → X
  run-first-entry es m q f = bind_inv _ _ _ _ (sym run_more ∙ q) (λ e i j is rest sum. f e i is)

-- a step from the cursor c, of which n entries are left
module _ (w : ℕ) (v : ℕ) (b work : List ℕ) (c : Cursor) (work' : List ℕ) (n : ℕ) (more : 0 < n) where
  pub entries-bad : (r : Refusal) → EntryStepped w v b work c work' (Err r) → run_from w v n b work c ≡ bad (number_of r) c.at
  entries-bad r t = run-refused w v n _ c.at _ more (number_of r) (t.same c.at)

  pub entries-good : (st : Step) → EntryStepped w v b work c work' (Ok st)
      → run_from w v n b work c ≡ in_front (entry_at w v b work' c.at st ∷ []) (st.next.at - c.at) (run_from w v (n - 1) b work' st.next)
  unfolding entry_of
  entries-good st t =
      let f : StepFound w v b work c work' st = t.found st refl in
      let here : c.at + (st.next.at - c.at) ≡ st.next.at = omega arith in
      run_on w v n _ c.at _ more _ _ (t.same c.at) ∙ rw (drop-drop (st.next.at - c.at) c.at b, here, ← f.stage)

  -- where the run was read, a step without tests is one with them
  pub entries-again {ℓ} : {X : Type ℓ} (es : List Entry) (m : ℕ) (r : Result Step Refusal) → RunRead w v n b work c es m → EntryPassed w v b work c work' r → (EntryStepped w v b work c work' r → X) → X
  entries-again es m r q t f = run-first-entry w v n _ c.at _ more es m q (λ e j is. f (t.same c.at e j is))

  -- and refuses nothing
  pub entries-never {ℓ} : {X : Type ℓ} (es : List Entry) (m : ℕ) (j : Refusal) → RunRead w v n b work c es m → EntryPassed w v b work c work' (Err j) → X
  entries-never es m j q t = entries-again es m (Err j) q t (λ u. bad-good _ _ _ _ (sym (entries-bad j u) ∙ q))

-- entries that were read before
module _ {w : ℕ} {v n : ℕ} {b work : List ℕ} {c : Cursor} {work' : List ℕ} (h : Readable w v n b work c) (more : 0 < n) where
  pub readable-again : (r : Result Step Refusal) → EntryPassed w v b work c work' r → EntryStepped w v b work c work' r
  readable-again r t = entries-again w v b work c work' (n + h.more) (omega arith) h.entries h.taken r h.run t (λ u. u)

  pub readable-never {ℓ} : {X : Type ℓ} (j : Refusal) → EntryPassed w v b work c work' (Err j) → X
  readable-never j t = entries-never w v b work c work' (n + h.more) (omega arith) h.entries h.taken j h.run t

  -- the others after the first
  pub readable-next : {st : Step} → EntryStepped w v b work c work' (Ok st) → Readable w v (n - 1) b work' st.next
  readable-next {st} t =
      let less : n + h.more - 1 ≡ n - 1 + h.more = omega arith in
      front-inv _ _ _ _ _ (sym (entries-good w v b work c work' (n + h.more) (omega arith) st t) ∙ h.run) λ gs k on parts sum.
      record { more = h.more; entries = gs; taken = k; run = rw less at on }

-- the run from the start
name_at-none : (v : ℕ) (b work : List ℕ) (t : Bool) → cond t (take 0 work) (take 0 (drop 0 b)) ≡ []
name_at-none v b work true = refl
name_at-none v b work false = refl

pub run-first : (w : ℕ) (v n : ℕ) (b work : List ℕ) → run_from w v n b work first_cursor ≡ read_entries w v n start 12 (drop 12 b)
unfolding name_at
run-first w v n b work = ap (λ (s : List ℕ). read_entries w v n (record { name = s; stage = 0 }) 12 (drop 12 b)) (name_at-none v b work (eqb v 4))

-- of count entries that were read, the first k
pub readable-first : (w : ℕ) (v count k : ℕ) (b work : List ℕ) → k ≤ count → AllRead w v count b → Readable w v k b work first_cursor
readable-first w v count k b work few (es, m, q) =
    let sum : k + (count - k) ≡ count = omega arith in
    record { more = count - k; entries = es; taken = m; run = rw sum (run-first w v count b work ∙ q) }

-- before the first entry nothing is known to be unsound, and after one its name is sound
pub begun_first : (v : ℕ) (b work : List ℕ) → Begun (name_at v b work 0 0)
unfolding name_at
begun_first v b work = rw (name_at-none v b work (eqb v 4)) begun-none

pub begun-next : (w : ℕ) (v : ℕ) (b work : List ℕ) (c : Cursor) (work' : List ℕ) (st : Step) → EntryStepped w v b work c work' (Ok st) → Begun (name_at v b work' st.next.start st.next.len)
unfolding entry_of
begun-next w v b work c work' st t = begun-name _ (entry_named w v _ c.at _ _ _ (t.same c.at))

pub run_none : (w : ℕ) (v : ℕ) (b work : List ℕ) (c : Cursor) → run_from w v 0 b work c ≡ good [] 0
unfolding read_entries
run_none w v b work c = refl

pub inside-first : (b work : List ℕ) → Room b work → Inside b first_cursor
inside-first b work r = record { small = r.most; inside = r.least; behind = omega arith; short = omega arith }

-- ---- entry after entry

-- the entries es lie between the start and the cursor
pub record Walked (w : ℕ) (v : ℕ) (b : List ℕ) (es : List Entry) (work : List ℕ) (c : Cursor) : Type 0 where
  pub after : 12 ≤ c.at
  pub whole : (n : ℕ) → read_entries w v (length es + n) start 12 (drop 12 b) ≡ in_front es (c.at - 12) (run_from w v n b work c)

get_elem?-seam : {A : Type 0} (es gs : List A) (e : A) → get_elem? ((es ++ (e ∷ [])) ++ gs) (length es) ≡ some e
get_elem?-seam [] gs e = refl
get_elem?-seam (x ∷ es) gs e = get_elem?-seam es gs e

module _ (w : ℕ) (v : ℕ) (b : List ℕ) where
  walked-first : (work : List ℕ) → Walked w v b [] work first_cursor
  walked-first work = record { after = omega arith; whole = λ n. rw zero-add (sym (front-none _ ∙ run-first w v n b work)) }

  module _ (es : List Entry) (work : List ℕ) (c : Cursor) (h : Walked w v b es work c) where
    -- the run of es, and of more entries
    pub walked_end : EntriesRead w v (length es) b es (c.at - 12)
    unfolding in_front
    walked_end =
        let none_more : length es + 0 ≡ length es = omega arith in
        let taken : c.at - 12 + 0 ≡ c.at - 12 = omega arith in
        rw none_more at (h.whole 0) ∙ rw (run_none w v b work c, append-nil es, taken)

    -- entry number length es begins at the cursor
    walked-place : c.at ≡ entry_place w v (length es) b
    unfolding entry_place
    walked-place = rw walked_end (omega (arith, h.after))

    walked_on : (count : ℕ) → length es ≤ count → read_entries w v count start 12 (drop 12 b) ≡ in_front es (c.at - 12) (run_from w v (count - length es) b work c)
    walked_on count few = let sum : length es + (count - length es) ≡ count = omega arith in rw sum at (h.whole (count - length es))

    -- where all entries are read, es are the first of them
    pub walked-take : (count : ℕ) (all : List Entry) (m : ℕ) → EntriesRead w v count b all m → length es ≤ count
        → es ≡ take (length es) all
    walked-take count all m e few = front-inv _ _ _ _ _ (sym (walked_on count few) ∙ e) (λ gs l q parts sum. rw (← parts) (sym (take-append_seam es gs)))

    -- and the others from the cursor on were read too
    pub walked-left : (count : ℕ) → length es ≤ count → AllRead w v count b → Readable w v (count - length es) b work c
    walked-left count few (all, m, q) =
        let none : count - length es + 0 ≡ count - length es = omega arith in
        front-inv _ _ _ _ _ (sym (walked_on count few) ∙ q) (λ gs l on parts sum. record { more = 0; entries = gs; taken = l; run = rw none on })

    module _ (work' : List ℕ) where
      -- a step that refuses
      walked-bad : (r : Refusal) → EntryStepped w v b work c work' (Err r) → (count : ℕ) → length es < count
          → read_entries w v count start 12 (drop 12 b) ≡ bad (number_of r) c.at
      unfolding in_front
      walked-bad r t count more = walked_on count (omega arith) ∙ rw (entries-bad w v b work c work' (count - length es) (omega arith) r t)

      -- a step over one entry more
      module _ (st : Step) (t : EntryStepped w v b work c work' (Ok st)) where
        walked_more : Walked w v b (es ++ (entry_at w v b work' c.at st ∷ [])) work' st.next
        walked_more =
            let f : StepFound w v b work c work' st = t.found st refl in
            record {
              after = omega (arith, h.after);
              whole = λ n.
                  let count : length (es ++ (entry_at w v b work' c.at st ∷ [])) + n ≡ length es + (n + 1) = rw length-append (omega arith) in
                  let taken : c.at - 12 + (st.next.at - c.at) ≡ st.next.at - 12 = omega (arith, h.after) in
                  let left : n + 1 - 1 ≡ n = omega arith in
                  rw (count, h.whole (n + 1), entries-good w v b work c work' (n + 1) (omega arith) st t, left) (front-front es _ _ _ _ ∙ rw taken);
            }

        walked-entry : (count : ℕ) (all : List Entry) (m : ℕ) → EntriesRead w v count b all m → length es < count
            → get_elem? all (length es) ≡ some (entry_at w v b work' c.at st)
        walked-entry count all m e more =
            let sum : length (es ++ (entry_at w v b work' c.at st ∷ [])) + (count - length es - 1) ≡ count = rw length-append (omega arith) in
            front-inv _ _ _ _ _ (sym (rw sum at (walked_more.whole (count - length es - 1))) ∙ e) λ gs l q parts rest.
            rw (← parts) (get_elem?-seam es gs _)

-- ---- a walk over entries, which has passed the entries es; work₀ is what it starts from

pub record Walking (w : ℕ) (v : ℕ) (b work₀ : List ℕ) (es : List Entry) (work : List ℕ) (c : Cursor) : Type 0 where
  pub inside : Inside b c
  pub frame : Frame work₀ work
  pub walked : Walked w v b es work c

pub walking-first : (w : ℕ) (v : ℕ) (b work : List ℕ) → Room b work → Walking w v b work [] work first_cursor
walking-first w v b work room = record { inside = inside-first b work room; frame = frame_same work; walked = walked-first w v b work }

module _ {w : ℕ} {v : ℕ} {b work₀ : List ℕ} {es : List Entry} {work : List ℕ} {c : Cursor} (h : Walking w v b work₀ es work c) where
  pub walking-more : {work' : List ℕ} {st : Step} → EntryStepped w v b work c work' (Ok st)
      → Walking w v b work₀ (es ++ (entry_at w v b work' c.at st ∷ [])) work' st.next
  walking-more {work'} {st} t =
      record { inside = (t.found st refl).next; frame = frame_then h.frame t.frame; walked = walked_more w v b es work c h.walked work' st t }

  module _ {count : ℕ} where
    pub ran-bad : {work' : List ℕ} (r : Refusal) (f : Fault) → f.refusal ≡ r → f.place ≡ c.at → length es < count → EntryStepped w v b work c work' (Err r)
        → RunAnswered w v b work₀ count work' (Err f)
    ran-bad {work'} r f is there more t =
        record {
          same = rw (is, there) (sym (ap run_of (walked-bad w v b es work c h.walked work' r t count more)));
          inside = zero-le;
          frame = frame_then h.frame t.frame;
        }

    pub ran-good : length es ≡ count → RunAnswered w v b work₀ count work (Ok c.at)
    ran-good all =
        let end : 12 + (c.at - 12) ≡ c.at = omega (arith, h.walked.after) in
        record { same = sym (ap run_of (rw all at (walked_end w v b es work c h.walked)) ∙ ap Ok end); inside = h.inside.inside; frame = h.frame }

-- ---- what callers read from answers

-- how many entries are read
pub entries-length : (work v n : ℕ) (k : Key) (p : ℕ) (s : List ℕ) (es : List Entry) (m : ℕ) → read_entries work v n k p s ≡ good es m → length es ≡ n
unfolding read_entries
entries-length work v zero k p s es m q = good-inv _ _ _ _ q λ es-is m-is. rw (← es-is) refl
entries-length work v (suc n) k p s es m q =
    bind_inv _ _ _ _ q λ e i j q₁ q₂ m-is.
    bind_inv _ _ _ _ q₂ λ fs c d q₃ q₄ j-is.
    good-inv _ _ _ _ q₄ λ es-is d-is. rw (← es-is) (ap suc (entries-length work v n (key_of e) (p + i) (drop i s) fs c q₃))

-- where the name begins that a step found
found_name : (w : ℕ) (v : ℕ) (b work : List ℕ) (c : Cursor) (work' : List ℕ) (st : Step) → StepFound w v b work c work' st → eqb v 4 ≡ false → st.next.start ≡ name_place w c.at b
unfolding name_place
found_name w v b work c work' st f old = f.begins old ∙ rw (f.head, f.flags)

module _ (w : ℕ) (v : ℕ) (b work : List ℕ) (at : ℕ) (st : Step) where
  pub entry_at-name : (entry_at w v b work at st).name ≡ name_at v b work st.next.start st.next.len
  unfolding entry_of
  entry_at-name = refl

pub run_of-bad : (res : Read (List Entry)) (n p : ℕ) → denied n p ≡ run_of res → res ≡ bad n p
run_of-bad (bad m q) n p e =
    let is : record { number = n; place = p } ≡ record { number = m; place = q } = cc in
    sym (ap (λ (x : Numbered). bad x.number x.place) is)
run_of-bad (good es m) n p e = absurd (cc)

pub run_of-good : {X : Type 0} (res : Read (List Entry)) (end : ℕ) → Ok end ≡ run_of res → ((es : List Entry) (m : ℕ) → res ≡ good es m → end ≡ 12 + m → X) → X
run_of-good (bad m q) end e f = absurd (cc)
run_of-good (good es m) end e f = f es m refl (cc)

-- ---- entry number k

bad-sought : {X : Type 0} {f : Fault} {s : Sought} → Err f ≡ Ok s → X
bad-sought e = absurd (cc)

good-sought : (P : Sought → Type 0) (s s' : Sought) → ◌≡◌ {A = Result Sought Fault} (Ok s) (Ok s') → P s → P s'
good-sought P s s' q = let same : s ≡ s' = cc in subst P same

module _ {w : ℕ} {v : ℕ} {b work₀ : List ℕ} {es : List Entry} {work : List ℕ} {c : Cursor} (h : Walking w v b work₀ es work c) {k : ℕ} {work' : List ℕ} where
  pub sought-bad : {r : Refusal} {f : Fault} → length es ≤ k → EntryStepped w v b work c work' (Err r) → SeekAnswered w v b work₀ k work' (Err f)
  sought-bad few t =
      record {
        entry = λ count all m e more. bad-good _ _ _ _ (sym (walked-bad w v b es work c h.walked work' _ t count (omega arith)) ∙ e);
        placed = λ s q. bad-sought q;
        place = λ s q. bad-sought q;
        name = λ s q. bad-sought q;
        frame = frame_then h.frame t.frame;
      }

  pub sought-good : {st : Step} → length es ≡ k → EntryStepped w v b work c work' (Ok st) → SeekAnswered w v b work₀ k work' (Ok (record { at = c.at; step = st }))
  sought-good {st} all_of t =
      let f : StepFound w v b work c work' st = t.found st refl in
      let parts : EntryPlaced w b c.at st = record { fixed = omega arith; name = omega arith; short = f.next.short; stage = f.stage } in
      record {
        entry = λ count all m e more. rw all_of at (walked-entry w v b es work c h.walked work' st t count all m e (omega arith));
        placed = λ other q. good-sought (λ s. EntryPlaced w b s.at s.step) _ other q parts;
        place = λ other q. good-sought (λ s. s.at ≡ entry_place w v k b) _ other q (rw all_of at (walked-place w v b es work c h.walked));
        name = λ other q. good-sought (λ s. eqb v 4 ≡ false → s.step.next.start ≡ name_place w s.at b) _ other q (found_name w v b work c work' st f);
        frame = frame_then h.frame t.frame;
      }
