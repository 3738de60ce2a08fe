-- What the code sees of the next entry, and what it shows.
use mathlib.Core.Path.{◌≡◌, refl, sym, ap, ◌∙◌}
use mathlib.Core.List.{List, []}
use mathlib.Core.Bool.{true, false}
use Prim.Native.Nat.{ℕ, ◌+◌, ◌-◌, ◌%◌, ◌≤◌, ◌<◌}
use Rattle.std.proofs.Common.{Option, Some, None, Result, Ok, Err}
use native.Mathlib.Nat.{add-zero}
use native.Mathlib.Omega.{arith}
use lib.ListN.{length, take, drop, length-take, length-drop}
use lib.Seq.{length-take-le, drop-drop}
use lib.Dec.{eqb, ltb}
use borrow.Author.Tests.{eq-eqb, ne_eqb, lt-ltb, le-leb, lt-leb}
use Rattle.format.specs.Bytes.{be32, eq_list}
use Rattle.format.specs.Records.{Entry, start}
use Rattle.format.specs.Layout.{fixed_length, DIRC}
use Rattle.format.specs.Reading.{Read, bad, need, shift}
use Rattle.format.specs.Reader.{read_plain, entry_of, read_entry}
use Rattle.format.specs.Places.{body_in, name_place}
use Rattle.spelling.proofs.Entries.{entry-takes}
use Rattle.entries.specs.declared.Head.{Head}
use Rattle.entries.specs.declared.Text.{Text}
use Rattle.entries.specs.Answers.{read_head, fixed_of, text_of}
use Rattle.entries.proofs.Before.{read_entry-bad, read_entry-good, head-size}
use Rattle.entries.proofs.Names.{read_plain-bad, read_plain-good}
use Rattle.answers.specs.declared.EntryAnswer.{EntryAnswer}
use Rattle.entries.specs.declared.record.Fields.{Fields}
use Rattle.answers.specs.declared.Shown.{Shown}
use Rattle.answers.specs.declared.Shown.TheVariants as S
use Rattle.format.specs.declared.Refusal.{Refusal}
use Rattle.format.specs.Refusals.{Numbered, number_of, numbered, denied}
use Rattle.std.specs.Result.{result_ok}
use Rattle.answers.specs.Answers.{View, refused, in_file, part_in, name_in, entry_said}
use Rattle.entries.specs.Record.{FieldsRead}
use Rattle.answers.proofs.Laws.{part_in_lem, part-within}
use Rattle.walk.specs.declared.Sight.{Sight}
use Rattle.walk.specs.Walks.{place_at, walkable, or18, walk_read, step_read, walk_answer, name_shown, place_after, StepShows}
use Rattle.walk.specs.Sights.{sight_read, PartsInside, Sees}
use Rattle.walk.proofs.Plain.{tail-bad, tail-start}
use Rattle.walk.proofs.Steps.{walk-on, view-is, place_is}

-- ---- nothing, or an entry

pub ok-inv : {A E : Type 0} (r : Result A E) (a : A) → result_ok r ≡ Some a → r ≡ Ok a
ok-inv (Ok b) a e = ap Ok (cc)
ok-inv (Err x) a e = absurd (cc)

abbrev sight : Head → Text → Sight
sight h t = record { head = h; name = t }

sees-nothing : (w : ℕ) (x : Read Entry) (b : List ℕ) (at : ℕ) → x ≡ bad 18 0 → Sees w x b at None
sees-nothing w x b at e = record { same = e; parts = λ s q. let z : ◌≡◌ {A = ℕ} 0 1 = cc in absurd (omega arith) }

sees-found : (w : ℕ) (x : Read Entry) (b : List ℕ) (at : ℕ) (s : Sight) → x ≡ sight_read w b at (Some s) → PartsInside w b at s → Sees w x b at (Some s)
sees-found w x b at s e inside =
    record {
      same = e;
      parts = λ s' q. let seen : s ≡ s' = cc in rw seen at inside;
    }

-- ---- at a place of the body b, in version v

module _ (w v : ℕ) (b : List ℕ) (at : ℕ) (old : eqb v 4 ≡ false) where
  refused-at : (n : ℕ) → read_entry w v start at (drop at b) ≡ bad n at → Sees w (or18 (read_entry w v start at (drop at b))) b at None
  refused-at n e = sees-nothing w _ b at (ap or18 e)

  pub no-head : (r : Result Head Refusal) → result_ok r ≡ None → ((p : ℕ) → numbered r ≡ fixed_of (read_head w v p (drop at b)))
      → Sees w (or18 (read_entry w v start at (drop at b))) b at None
  no-head (Ok h) none e = absurd (cc)
  no-head (Err x) none e = refused-at (number_of x) (read_entry-bad w v start at (drop at b) (number_of x) (sym (e at)))

  module _ (h : Head) (head : (p : ℕ) → Ok h ≡ fixed_of (read_head w v p (drop at b))) where
    pub no_name : (r : Result Text Refusal) → result_ok r ≡ None
        → ((p : ℕ) → numbered r ≡ text_of (read_plain h.length p (h.flags % 4096) (drop (at + h.length) b)))
        → Sees w (or18 (read_entry w v start at (drop at b))) b at None
    unfolding shift
    no_name (Ok t) none e = absurd (cc)
    no_name (Err x) none e =
        let n : ℕ = number_of x in
        let name = read_plain-bad h.length at (h.flags % 4096) (drop (at + h.length) b) n (sym (e at)) in
        let rest = tail-bad w v at old h.length h.flags h.word (drop at b) start n (rw drop-drop name) in
        refused-at n (read_entry-good w v start at (drop at b) h (sym (head at)) ∙ rw rest)

    -- the name begins after them
    head-end : at + h.length ≡ name_place w at b
    unfolding name_place
    head-end = let size = head-size w v at (drop at b) h (sym (head at)) in rw (size.is, size.flags)

    pub a-name : (t : Text) → ((p : ℕ) → Ok t ≡ text_of (read_plain h.length p (h.flags % 4096) (drop (at + h.length) b)))
        → t.length ≤ t.taken → at + h.length + t.taken ≤ length b → Sees w (or18 (read_entry w v start at (drop at b))) b at (Some (sight h t))
    unfolding shift
    a-name t e fits end =
        let name = read_plain-good h.length at (h.flags % 4096) (drop (at + h.length) b) t (sym (e at)) in
        let rest = tail-start w v at old h.length h.flags h.word (drop at b) (take t.length (drop (at + h.length) b)) t.taken (rw drop-drop name) in
        let is : read_entry w v start at (drop at b) ≡ sight_read w b at (Some (sight h t)) =
        read_entry-good w v start at (drop at b) h (sym (head at)) ∙ rw (rest, add-zero t.taken) in
        let least : 42 + w ≤ h.length + t.taken = entry-takes w v start at (drop at b) _ _ is in
        sees-found w _ b at (sight h t) (ap or18 is) (record { fixed = omega arith; start = head-end; name = omega arith; end = end })

-- ---- of a file

-- a header of version 2 or 3
module _ (w : ℕ) (f : List ℕ) where
  pub not-long : length f < 12 + w → walkable w f ≡ false
  unfolding walkable
  not-long h = rw (lt-leb (12 + w) (length f) h)

  module _ (long : 12 + w ≤ length f) where
    pub not-signed : eq_list (take 4 f) DIRC ≡ false → walkable w f ≡ false
    unfolding walkable
    not-signed e = rw (le-leb (12 + w) (length f) long, e)

    module _ (signed : eq_list (take 4 f) DIRC ≡ true) where
      pub version-two : be32 f 4 ≡ 2 → walkable w f ≡ true
      unfolding walkable
      version-two e = rw (le-leb (12 + w) (length f) long, signed, eq-eqb (be32 f 4) 2 e)

      pub version-three : (be32 f 4 ≡ 2 → ⊥) → walkable w f ≡ eqb (be32 f 4) 3
      unfolding walkable
      version-three e = rw (le-leb (12 + w) (length f) long, signed, ne_eqb (be32 f 4) 2 e)

  module _ (at left : ℕ) where
    pub none_left : left ≡ 0 → Sees w (walk_read w f at left) (body_in w f) at None
    unfolding walk_read need
    none_left e = sees-nothing w _ _ at (rw e)

    module _ (some : left ≡ 0 → ⊥) where
      more : ltb 0 left ≡ true
      more = lt-ltb 0 left (omega arith)

      pub not-walkable : walkable w f ≡ false → Sees w (walk_read w f at left) (body_in w f) at None
      unfolding walk_read need
      not-walkable e = sees-nothing w _ _ at (rw (more, e))

      module _ (ok : walkable w f ≡ true) where
        walk_is : walk_read w f at left ≡ or18 (read_entry w (be32 f 4) start at (drop at (body_in w f)))
        walk_is = walk-on w f at left more ok

        pub past-body : length f - w < at → Sees w (walk_read w f at left) (body_in w f) at None
        unfolding read_entry need fixed_length
        past-body h =
            let cut : length (drop at (body_in w f)) < fixed_length w false = rw (length-drop, length-take) (omega arith) in
            sees-nothing w _ _ at (walk_is ∙ rw (lt-leb (fixed_length w false) (length (drop at (body_in w f))) cut))

        pub at_place : (v : ℕ) (r : Option Sight) → v ≡ be32 f 4 → Sees w (or18 (read_entry w v start at (drop at (body_in w f)))) (body_in w f) at r
            → Sees w (walk_read w f at left) (body_in w f) at r
        at_place v r e s = rw (walk_is, ← e) s

-- ---- what is shown, and the place after it

module _ (kind : ℕ) (f : List ℕ) (at left : ℕ) where
  -- a refusal, of the kind or of the place
  module _ (n : ℕ) (bad-is : step_read kind f at left ≡ bad n 0) where
    pub step-refused : (w place : ℕ) (r : Result EntryAnswer Numbered) → r ≡ denied n 0 → StepShows w place (walk_answer kind f at left) f r
    unfolding entry_said
    step-refused w place r is =
        let v : walk_answer kind f at left ≡ refused n 0 = view-is kind f at left _ bad-is in
        rw (is, v) (record { shows = λ work. record { whole = refl; said = refl; inside = tt } })

    pub place-stays : (less : ℕ) → less ≡ left - 1 → place_at at less ≡ place_after kind f at left
    place-stays less e = rw (place_is kind f at left _ bad-is, add-zero at, e)

  -- an entry, in a file whose object names have the width w
  module _ (w : ℕ) (read : step_read kind f at left ≡ walk_read w f at left) (s : Sight) (h : Sees w (walk_read w f at left) (body_in w f) at (Some s)) where
    pub place-moves : (end less : ℕ) → end ≡ at + s.head.length + s.name.taken → less ≡ left - 1 → place_at end less ≡ place_after kind f at left
    place-moves end less e l = let sum : end ≡ at + (s.head.length + s.name.taken) = omega arith in rw (place_is kind f at left _ (read ∙ h.same), sum, l)

    pub found-parts : PartsInside w (body_in w f) at s
    found-parts = h.parts s refl

    pub body-long : length (body_in w f) + w ≤ length f
    body-long = let l = length-take (length f - w) f in let t = found-parts in omega arith

    pub step-shows : (x : Fields) → FieldsRead w (drop at (body_in w f)) s.head.flags s.head.word x
        → StepShows w (name_place w at (body_in w f)) (walk_answer kind f at left) f (Ok (record { shown = S.InFile (at + s.head.length) s.name.length; fields = x }))
    unfolding entry_said name_in entry_of
    step-shows x fields =
        let v = view-is kind f at left _ (read ∙ h.same) in
        let t = found-parts in
        let long = body-long in
        let within : at + s.head.length + s.name.length ≤ length f - w = omega arith in
        let bytes : List ℕ = take s.name.length (drop (at + s.head.length) (body_in w f)) in
        let name : part_in (at + s.head.length) s.name.length f ≡ bytes = part_in_lem _ _ f (omega arith) ∙ sym (part-within (length f - w) (at + s.head.length) s.name.length f within) in
        let size : length bytes ≡ s.name.length = length-take-le s.name.length (drop (at + s.head.length) (body_in w f)) (rw length-drop (omega arith)) in
        record {
          shows = λ work. record {
            whole = rw (v, size, ← t.start) (ap (λ (y : Fields). Ok (record { shown = S.InFile (at + s.head.length) s.name.length; fields = y })) (fields.whole bytes));
            said = ap in_file (fields.entry (part_in (at + s.head.length) s.name.length f) ∙ rw name) ∙ sym v;
            inside = omega arith;
          };
        }

-- the name that an answer points at is the one of what it shows
said-name : (w : ℕ) (x : Fields) (s : Shown) (f work : List ℕ) → name_in s f work ≡ name_shown (entry_said w (Ok (record { shown = s; fields = x })) f work)
unfolding entry_said name_in
said-name w x (S.InFile at n) f work = refl
said-name w x (S.InWorkspace n) f work = refl

module _ (w at : ℕ) (v : View Entry) (f : List ℕ) where
  pub shown-name : (a : EntryAnswer) → StepShows w at v f (Ok a) → name_in a.shown f [] ≡ name_shown v
  shown-name a h = said-name w a.fields a.shown f [] ∙ ap name_shown (h.shows []).said

  -- a refusal has none
  pub no-name-shown : (x : Numbered) → StepShows w at v f (Err x) → [] ≡ name_shown v
  unfolding entry_said
  no-name-shown x h = ap name_shown (h.shows []).said
