-- Laws of an entry that was sought and is shown.
use mathlib.Core.Path.{◌≡◌, refl, sym, ap, ◌∙◌}
use mathlib.Core.List.{List, ◌++◌}
use mathlib.Core.Bool.{true, false}
use mathlib.Core.Option.{Option, some}
use Prim.Native.Nat.{ℕ, ◌+◌, ◌-◌, ◌≤◌}
use native.Mathlib.Omega.{arith}
use lib.ListN.{length, take, drop, replicate, length-append, length-take, length-drop}
use lib.Seq.{length-take-le}
use lib.Dec.{eqb}
use Rattle.std.specs.Prelude.{Result, Ok}
use Rattle.format.specs.Records as F
use Rattle.format.specs.Reader as R
use Rattle.format.specs.Places.{body_in}
use Rattle.format.specs.Refusals.{Numbered}
use Rattle.fields.specs.Workspace.{Frame}
use Rattle.entries_run.specs.declared.Step.{Step}
use Rattle.entries_run.specs.Steps.{name_at, entry_at}
use Rattle.answers.specs.declared.EntryAnswer.{EntryAnswer}
use Rattle.entries.specs.declared.record.Fields.{Fields}
use Rattle.answers.specs.declared.Shown.TheVariants as S
use Rattle.answers.specs.Answers.{View, refused, in_file, in_workspace, pick, cleared, holding, work_after, name_in, entry_said}
use Rattle.entries.specs.Record.{entry_with, fields_of, FieldsRead}
use Rattle.answers.proofs.Laws.{cleared-frame, cleared-same, holding-after, holding-name, part_in_lem, part-within}
use Rattle.index.specs.Calls.{EntryShows}
use Rattle.index.proofs.Views.{pick-file, pick-work}

-- a name lies in the workspace that holds it
held-inside : (name work : List ℕ) → length name ≤ length (holding name work)
unfolding holding
held-inside name work = simp length-append (omega arith)

module _ (w : ℕ) (v : ℕ) (f written : List ℕ) (at : ℕ) (st : Step) (o : Option F.Entry) (found : o ≡ some (entry_at w v (body_in w f) written at st))
    (x : Fields) (fields : FieldsRead w (drop at (body_in w f)) st.flags st.word x)
    (work work' : List ℕ) (place : ℕ) where
  entry : F.Entry
  entry = entry_at w v (body_in w f) written at st

  entry-name : entry.name ≡ name_at v (body_in w f) written st.next.start st.next.len
  unfolding entry R.entry_of
  entry-name = refl

  entry-with : (name : List ℕ) → name ≡ name_at v (body_in w f) written st.next.start st.next.len → entry_with w x name ≡ entry
  unfolding entry
  entry-with name e = fields.entry name ∙ rw e

  -- all fields are those of the entry
  entry-own : x ≡ fields_of entry
  unfolding entry R.entry_of
  entry-own = fields.whole (name_at v (body_in w f) written st.next.start st.next.len)

  -- versions 2 and 3: the name is a part of the file
  pub shown-file : eqb v 4 ≡ false → st.next.start + st.next.len ≤ length (body_in w f) → work' ≡ cleared work
      → st.next.start ≡ place → EntryShows w place (pick (eqb v 4) o) f work work' (Ok (record { shown = S.InFile st.next.start st.next.len; fields = x }))
  unfolding entry_said name_in name_at entry
  shown-file old inside after placed =
      let b : length (body_in w f) ≤ length f - w = simp length-take (omega arith) in
      let fits : st.next.start + st.next.len ≤ length f = omega arith in
      let is : pick (eqb v 4) o ≡ in_file entry = pick-file (eqb v 4) o entry old found in
      let name : name_in (S.InFile st.next.start st.next.len) f work' ≡ name_at v (body_in w f) written st.next.start st.next.len =
      part_in_lem _ _ f fits ∙ rw old (sym (part-within (length f - w) st.next.start st.next.len f (omega arith))) in
      let there : name_at v (body_in w f) written st.next.start st.next.len ≡ take st.next.len (drop st.next.start (body_in w f)) = rw old in
      let long : length (take st.next.len (drop st.next.start (body_in w f))) ≡ st.next.len =
      length-take-le _ _ (omega (arith, length-drop st.next.start (body_in w f))) in
      let size : st.next.len ≡ length entry.name = sym (ap length (entry-name ∙ there) ∙ long) in
      let own : x ≡ fields_of entry = entry-own in
      record {
        shows = record { whole = rw (is, ← placed, ← size, ← own) refl; said = ap in_file (entry-with _ name) ∙ sym is; inside = fits };
        after = rw is after;
      }

  -- version 4: the name is first in the workspace
  pub shown-work : eqb v 4 ≡ true → st.next.len ≤ 8192 → 8192 ≤ length work → Frame work written
      → work' ≡ take st.next.len written ++ (replicate (8192 - st.next.len) 0 ++ drop 8192 written)
      → EntryShows w place (pick (eqb v 4) o) f work work' (Ok (record { shown = S.InWorkspace st.next.len; fields = x }))
  unfolding entry_said name_at entry
  shown-work new short room frame held =
      let fits : st.next.len ≤ length written = omega (arith, frame) in
      let name : List ℕ = take st.next.len written in
      let long : length name ≡ st.next.len = length-take-le st.next.len written fits in
      let is : pick (eqb v 4) o ≡ in_workspace entry = pick-work (eqb v 4) o entry new found in
      let holds : work' ≡ holding name work = held ∙ holding-after work written frame.past st.next.len fits in
      let own : name_at v (body_in w f) written st.next.start st.next.len ≡ name = rw new in
      let named : name_in (S.InWorkspace st.next.len) f work' ≡ name = rw holds (rw long at (holding-name name f work)) in
      let size : st.next.len ≡ length entry.name = sym (ap length (entry-name ∙ own) ∙ long) in
      let fields-own : x ≡ fields_of entry = entry-own in
      record {
        shows = record {
          whole = rw (is, ← size, ← fields-own) refl;
          said = ap in_workspace (entry-with _ (named ∙ sym own)) ∙ sym is;
          inside = rw holds (rw long at (held-inside name work));
        };
        after = rw is (holds ∙ ap (λ (s : List ℕ). holding s work) (sym (entry-name ∙ own)));
      }

-- ---- where the workspace was cleared before

after_same : (v : View F.Entry) (work written : List ℕ) → 8192 ≤ length work → Frame work written → work_after v written ≡ work_after v work
unfolding holding
after_same (refused n p) work written room frame = cleared-same work written room frame
after_same (in_file e) work written room frame = cleared-same work written room frame
after_same (in_workspace e) work written room frame = rw frame.past

pub shown-again : (w : ℕ) (v u : View F.Entry) (f work written work' : List ℕ) (at : ℕ) (r : Result EntryAnswer Numbered) → v ≡ u → EntryShows w at u f written work' r
    → written ≡ cleared work → 8192 ≤ length work → EntryShows w at v f work work' r
shown-again w v u f work written work' at r e h clean room =
    rw e (record { shows = h.shows; after = h.after ∙ after_same u work written room (rw clean (cleared-frame work room)) })
