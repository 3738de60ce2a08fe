-- Laws of the rest of an entry after the bytes before its name, and of what answers say.
use mathlib.Core.Path.{◌≡◌, refl, sym, ap, subst, ◌∙◌}
use mathlib.Core.List.{List}
use mathlib.Core.Bool.{Bool, true, false}
use Prim.Native.Nat.{ℕ, ◌+◌, ◌/◌, ◌%◌, ◌≤◌}
use native.Mathlib.Omega.{arith}
use lib.ListN.{length, drop}
use lib.Seq.{drop-drop}
use lib.Dec.{eqb}
use Rattle.std.specs.Prelude.{Result, Ok, Err}
use Rattle.format.specs.declared.Refusal.{Refusal}
use Rattle.format.specs.Refusals.{number_of, numbered}
use Rattle.format.specs.Names.{compare, rises}
use Rattle.format.specs.Records.{Entry}
use Rattle.format.specs.Reading.{Read, bad, good, need, shift, bind}
use Rattle.format.specs.Reader.{read_name, entry_of, read_tail}
use Rattle.format_laws.proofs.Tests.{false-true}
use Rattle.format_laws.proofs.Names.{common-le}
use Rattle.format_laws.proofs.Readings.{need-inv, shift-inv, bind_inv}
use Rattle.fields.specs.Workspace.{Frame}
use Rattle.fields.proofs.Workspace.{frame_same}
use Rattle.entries.specs.declared.Head.{Head}
use Rattle.entries.specs.Answers.{read_head, fixed_of, Size, HeadPassed}
use Rattle.entries.proofs.Before.{read_entry-bad, read_entry-good, entry-head, head-place, bad-head}
use Rattle.entries_run.specs.declared.Cursor.{Cursor}
use Rattle.entries_run.specs.declared.Step.{Step}
use Rattle.entries_run.specs.Steps.{name_at, key_at, Inside, HeadAt, read_of, StepFound, StepAnswered, StepRepeated, StepTested, read_rest, EntryStepped, EntryPassed}
use Rattle.entries_run.proofs.Names.{name_at-short}

-- ---- what is before the name

pub headed-as : (w : ℕ) (b : List ℕ) (c : Cursor) (h : Head) → Inside b c → w ≤ 32 → Size w (drop c.at b) h → c.at + h.length ≤ length b → HeadAt b c h
headed-as w b c h inside narrow size there = record { cursor = inside; most = omega (arith, size.most); there = there }

-- ---- what answers say

module _ (w : ℕ) (read : ℕ → Read Entry) (v : ℕ) (b work : List ℕ) (c : Cursor) (work' : List ℕ)
    (frame : Frame work work') (unwritten : eqb v 4 ≡ false → work' ≡ work) where
  pub answered-bad : (r : Refusal) → ((p : ℕ) → read p ≡ bad (number_of r) p) → StepAnswered w read v b work c work' (Err r)
  answered-bad r e =
      record {
        same = e;
        found = λ st q. absurd (cc);
        frame = frame;
        plain = unwritten;
      }

  pub answered-good : (st : Step) → ((p : ℕ) → read p ≡ read_of w v b work' c.at p (Ok st)) → StepFound w v b work c work' st → StepAnswered w read v b work c work' (Ok st)
  answered-good st e f =
      record {
        same = e;
        found = λ other q. let same : st ≡ other = cc in subst (λ (x : Step). StepFound w v b work c work' x) same f;
        frame = frame;
        plain = unwritten;
      }

bad-next : {X : Type 0} {r : Refusal} {st : Step} → Err r ≡ Ok st → X
bad-next e = absurd (cc)

-- a step that was not tested
pub repeated-good : (w : ℕ) (read : ℕ → Read Entry) (v : ℕ) (b work : List ℕ) (c : Cursor) (work' : List ℕ) (st : Step)
    → ((p : ℕ) (e : Entry) (m : ℕ) → read p ≡ good e m → StepAnswered w read v b work c work' (Ok st))
    → Inside b st.next → st.common ≤ st.next.len → Frame work work' → StepRepeated w read v b work c work' (Ok st)
repeated-good w read v b work c work' st same inside common frame =
    record {
      same = same;
      inside = λ other q. let is : st ≡ other = cc in subst (λ (x : Step). Inside b x.next) is inside;
      common = λ other q. let is : st ≡ other = cc in subst (λ (x : Step). x.common ≤ x.next.len) is common;
      frame = frame;
    }

-- nothing is read there
pub repeated-bad : (w : ℕ) (read : ℕ → Read Entry) (v : ℕ) (b work : List ℕ) (c : Cursor) (r : Refusal)
    → ((p : ℕ) (e : Entry) (m : ℕ) → read p ≡ good e m → StepAnswered w read v b work c work (Err r)) → StepRepeated w read v b work c work (Err r)
repeated-bad w read v b work c r same = record { same = same; inside = λ st q. bad-next q; common = λ st q. bad-next q; frame = frame_same work }

-- what is said with all tests holds without them
module _ (w : ℕ) (read : ℕ → Read Entry) (v : ℕ) (b work : List ℕ) (c : Cursor) (work' : List ℕ) (r : Result Step Refusal) (t : StepAnswered w read v b work c work' r) where
  repeated : StepRepeated w read v b work c work' r
  repeated =
      record {
        same = λ p e m q. t;
        inside = λ st q. (t.found st q).next;
        common = λ st q.
            let x = name_at v b work c.start c.len in
            let y = name_at v b work' st.next.start st.next.len in
            omega (arith, (t.found st q).common, (common-le x y).1, name_at-short v b work' st.next.start st.next.len);
        frame = t.frame;
      }

  pub tested : (again : Bool) → StepTested w again read v b work c work' r
  tested again = record { first = λ e. t; later = repeated }

-- by whether it was read before
pub tested-by : (w : ℕ) (again : Bool) (read : ℕ → Read Entry) (v : ℕ) (b work : List ℕ) (c : Cursor) (work' : List ℕ) (r : Result Step Refusal)
    → (again ≡ false → StepAnswered w read v b work c work' r) → (again ≡ true → StepRepeated w read v b work c work' r) → StepTested w again read v b work c work' r
tested-by w true read v b work c work' r first later = record { first = λ e. false-true (sym e); later = later refl }
tested-by w false read v b work c work' r first later = tested w read v b work c work' r (first refl) false

-- of another reader that reads the same
answered-as : (w : ℕ) (read other : ℕ → Read Entry) (v : ℕ) (b work : List ℕ) (c : Cursor) (work' : List ℕ) (r : Result Step Refusal) → ((p : ℕ) → read p ≡ other p)
    → StepAnswered w other v b work c work' r → StepAnswered w read v b work c work' r
answered-as w read other v b work c work' r e t = record { same = λ p. e p ∙ t.same p; found = t.found; frame = t.frame; plain = t.plain }

module _ (w : ℕ) (v : ℕ) (b work : List ℕ) (c : Cursor) where
  pub step-refused : (r : Refusal) → ((p : ℕ) → Err (number_of r) ≡ fixed_of (read_head w v p (drop c.at b))) → EntryStepped w v b work c work (Err r)
  step-refused r e = answered-bad w _ v b work c work (frame_same work) (λ q. refl) r (λ p. read_entry-bad w v (key_at v b work c) p (drop c.at b) (number_of r) (sym (e p)))

  pub step-on : (h : Head) (work' : List ℕ) (r : Result Step Refusal) → ((p : ℕ) → Ok h ≡ fixed_of (read_head w v p (drop c.at b)))
      → StepAnswered w (read_rest w v b work c h) v b work c work' r → EntryStepped w v b work c work' r
  unfolding read_rest
  step-on h work' r e t = answered-as w _ (read_rest w v b work c h) v b work c work' r (λ p. read_entry-good w v (key_at v b work c) p (drop c.at b) h (sym (e p))) t

  pub step-four : (h : Head) (work' : List ℕ) (r : Result Step Refusal) → ((p : ℕ) → Ok h ≡ fixed_of (read_head w v p (drop c.at b)))
      → v ≡ 4 → StepAnswered w (read_rest w 4 b work c h) 4 b work c work' r → EntryStepped w v b work c work' r
  step-four h work' r e four t = step-on h work' r e (subst (λ (u : ℕ). StepAnswered w (read_rest w u b work c h) u b work c work' r) (sym four) t)

-- the same of an entry that was read before
module _ (w : ℕ) (v : ℕ) (b work : List ℕ) (c : Cursor) where
  pub pass-refused : (r : Refusal) → HeadPassed w b c.at (Err r) → EntryPassed w v b work c work (Err r)
  pass-refused r t = repeated-bad w _ v b work c r (λ p e m q. entry-head w v _ p _ e m q (λ h is. bad-head (t.same v p h is)))

  pub pass_on : (h : Head) (work' : List ℕ) (r : Result Step Refusal) → HeadPassed w b c.at (Ok h) → StepRepeated w (read_rest w v b work c h) v b work c work' r → EntryPassed w v b work c work' r
  unfolding read_rest
  pass_on h work' r t u =
      record {
        same = λ p e m q. entry-head w v _ p _ e m q λ g is.
            let here : (j : ℕ) → Ok h ≡ fixed_of (read_head w v j (drop c.at b)) = λ j. ap numbered (t.same v p g is) ∙ sym is ∙ head-place w v p j (drop c.at b) in
            step-on w v b work c h work' r here (u.same p e m (sym (read_entry-good w v (key_at v b work c) p (drop c.at b) h (sym (here p))) ∙ q));
        inside = u.inside;
        common = u.common;
        frame = u.frame;
      }

  pub pass-four : (h : Head) (work' : List ℕ) (r : Result Step Refusal) → HeadPassed w b c.at (Ok h) → v ≡ 4 → StepRepeated w (read_rest w 4 b work c h) 4 b work c work' r → EntryPassed w v b work c work' r
  pass-four h work' r t four u = pass_on h work' r t (subst (λ (n : ℕ). StepRepeated w (read_rest w n b work c h) n b work c work' r) (sym four) u)

-- ---- the rest, from the name on

module _ (v : ℕ) (b work : List ℕ) (c : Cursor) (h : Head) (p : ℕ) where
  abbrev pub name_read : Read (List ℕ)
  name_read = read_name v h.length p (name_at v b work c.start c.len) (h.flags % 4096) (drop (c.at + h.length) b)

module _ (w : ℕ) (v : ℕ) (b work : List ℕ) (c : Cursor) (h : Head) (p : ℕ) where
  pub rest-bad : (n : ℕ) → name_read v b work c h p ≡ bad n p → read_rest w v b work c h p ≡ bad n p
  unfolding read_rest read_tail bind shift
  rest-bad n e = rw (drop-drop h.length c.at b, e)

  pub rest-order : (name : List ℕ) (m : ℕ) → name_read v b work c h p ≡ good name m
      → rises (compare (name_at v b work c.start c.len) name) c.stage (h.flags / 4096 % 4) ≡ false
      → read_rest w v b work c h p ≡ bad 11 p
  unfolding read_rest read_tail bind shift need
  rest-order name m e o = rw (drop-drop h.length c.at b, e, o)

  pub rest-good : (name : List ℕ) (m : ℕ) → name_read v b work c h p ≡ good name m
      → rises (compare (name_at v b work c.start c.len) name) c.stage (h.flags / 4096 % 4) ≡ true
      → read_rest w v b work c h p ≡ good (entry_of w (drop c.at b) h.flags h.word name) (h.length + (m + 0))
  unfolding read_rest read_tail bind shift need
  rest-good name m e o = rw (drop-drop h.length c.at b, e, o)

  -- and back
  pub rest-inv : {X : Type 0} (e : Entry) (m : ℕ) → read_rest w v b work c h p ≡ good e m
      → ((name : List ℕ) (j : ℕ) → name_read v b work c h p ≡ good name j → rises (compare (name_at v b work c.start c.len) name) c.stage (h.flags / 4096 % 4) ≡ true → X) → X
  unfolding read_rest read_tail
  rest-inv e m q f =
      shift-inv _ _ _ _ q λ i q₁ sum.
      bind_inv _ _ _ _ q₁ λ name j k named q₂ sum₂.
      need-inv _ _ _ _ _ _ q₂ λ order q₃. f name j (rw (drop-drop h.length c.at b) at named) order
