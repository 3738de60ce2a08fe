-- Laws of replies: what the calls leave behind, from what the calls below promise.
use mathlib.Core.Path.{◌≡◌, refl, sym, ap, ◌∙◌}
use mathlib.Core.List.{List, []}
use Prim.Native.Nat.{ℕ, ◌+◌, ◌-◌, ◌≤◌}
use native.Mathlib.Omega.{arith}
use lib.ListN.{length, take, drop, replicate, length-append, length-replicate}
use lib.Seq.{length-take-le, drop_at}
use Rattle.format.specs.Records as F
use Rattle.format.specs.Reading.{Read}
use Rattle.format.specs.Refusals.{Numbered}
use Rattle.std.proofs.Common.{None, Result, Ok, Err}
use Rattle.answers.specs.declared.EntryAnswer.{EntryAnswer}
use Rattle.answers.specs.declared.NodeAnswer.{NodeAnswer}
use Rattle.answers.specs.declared.UndoAnswer.{UndoAnswer}
use Rattle.format_laws.proofs.Lists.{drop-zeros}
use Rattle.entries.specs.Record.{wide_object}
use Rattle.answers.specs.Answers.{View, refused, in_file, in_workspace, entry_said, node_said, undo_said, entry_shown, node_shown, undo_shown}
use Rattle.index.specs.Calls.{EntryShows, NodeShows, NodeZeros, UndoShows, UndoZeros}
use Rattle.index_write.specs.Calls.{Saves}
use Rattle.walk.specs.declared.Place.{Place}
use Rattle.walk.specs.Walks.{StepShows}
use Rattle.replies.specs.Arrays.{entry_reply, field_numbers, fields_shown, object_shown, node_reply, undo_reply, shown_in, step_reply, write_reply}
use Rattle.replies.proofs.Laws.{entry-inside, node-inside, undo-inside, step-inside}
use Rattle.nerupazhil.specs.Replies.{number_shown, count_shown, StageZeros, EntryReplies, NodeReplies, UndoReplies, StepReplies, WriteReplies}

-- ---- the zeros after an object name: of the 32 bytes the first w make the name that is shown, so it has w bytes

unused-of : (w : ℕ) (o : List ℕ) → w ≤ 32 → take w (wide_object o) ≡ o → drop w (wide_object o) ≡ replicate (32 - w) 0
unused-of w o narrow e =
    let all : length (wide_object o) ≡ length o + (32 - length o) = length-append o (replicate (32 - length o) 0) ∙ rw (length-replicate {A = ℕ} (32 - length o) 0) refl in
    let long : length o ≡ w = sym (ap length e) ∙ length-take-le w (wide_object o) (omega (arith, all)) in
    drop_at o (replicate (32 - length o) 0) w long ∙ rw long refl

-- an object name of the item that a view shows
abbrev in_view : {A : Type 0} → (A → List ℕ) → View A → List ℕ
in_view object (refused n p) = []
in_view object (in_file a) = object a
in_view object (in_workspace a) = object a

module _ (w at : ℕ) (narrow : w ≤ 32) (f work : List ℕ) where
  entry-unused : (v : View F.Entry) → entry_said w (entry_shown at v) f work ≡ v → drop w (fields_shown (entry_shown at v)).object ≡ replicate (32 - w) 0
  unfolding entry_said
  entry-unused (refused n p) e = drop-zeros w 32
  entry-unused (in_file x) e = unused-of w x.object narrow (ap (in_view (λ y. y.object)) e)
  entry-unused (in_workspace x) e = unused-of w x.object narrow (ap (in_view (λ y. y.object)) e)

  node-unused : (v : View F.Item) → node_said w (node_shown at v) f work ≡ v → drop w (object_shown (λ a. a.object) (node_shown at v)) ≡ replicate (32 - w) 0
  unfolding node_said
  node-unused (refused n p) e = drop-zeros w 32
  node-unused (in_file x) e = unused-of w x.node.object narrow (ap (in_view (λ y. y.node.object)) e)
  node-unused (in_workspace x) e = unused-of w x.node.object narrow (ap (in_view (λ y. y.node.object)) e)

  undo-unused : (v : View F.Undo) → undo_said w (undo_shown at v) f work ≡ v
      → (drop w (object_shown (λ a. a.first) (undo_shown at v)) ≡ replicate (32 - w) 0)
      × (drop w (object_shown (λ a. a.second) (undo_shown at v)) ≡ replicate (32 - w) 0)
      × (drop w (object_shown (λ a. a.third) (undo_shown at v)) ≡ replicate (32 - w) 0)
  unfolding undo_said
  undo-unused (refused n p) e = (drop-zeros w 32, drop-zeros w 32, drop-zeros w 32)
  undo-unused (in_file x) e =
      (unused-of w x.first.object narrow (ap (in_view (λ y. y.first.object)) e), unused-of w x.second.object narrow (ap (in_view (λ y. y.second.object)) e), unused-of w x.third.object narrow (ap (in_view (λ y. y.third.object)) e))
  undo-unused (in_workspace x) e =
      (unused-of w x.first.object narrow (ap (in_view (λ y. y.first.object)) e), unused-of w x.second.object narrow (ap (in_view (λ y. y.second.object)) e), unused-of w x.third.object narrow (ap (in_view (λ y. y.third.object)) e))

-- ---- the zeros of an invalid node and of a missing stage; a refusal has zeros

node-none : (r : Result NodeAnswer Numbered) → NodeZeros r → count_shown r ≡ None → object_shown (λ a. a.object) r ≡ replicate 32 0
node-none (Err x) h e = refl
node-none (Ok a) h e = h e

undo-none : (r : Result UndoAnswer Numbered) → UndoZeros r
    → StageZeros (number_shown (λ a. a.first_mode) r) (object_shown (λ a. a.first) r)
    × StageZeros (number_shown (λ a. a.second_mode) r) (object_shown (λ a. a.second) r)
    × StageZeros (number_shown (λ a. a.third_mode) r) (object_shown (λ a. a.third) r)
undo-none (Err x) h = ((λ e. refl), (λ e. refl), (λ e. refl))
undo-none (Ok a) h = h

-- ---- what the calls that show leave behind

module _ (w at : ℕ) (narrow : w ≤ 32) (f reply : List ℕ) where
  module _ (numbers object : List ℕ) (r : Result EntryAnswer Numbered) (n : numbers ≡ field_numbers (fields_shown r)) (o : object ≡ (fields_shown r).object) where
    pub entry-replies : (v : View F.Entry) (work work' : List ℕ) → EntryShows w at v f work work' r → reply ≡ entry_reply r
        → EntryReplies w at v f work work' reply numbers object
    entry-replies v work work' h e =
        let is = h.shows.whole in
        record {
          whole = e ∙ ap entry_reply is;
          fields = n ∙ ap (λ (x : Result EntryAnswer Numbered). field_numbers (fields_shown x)) is;
          object_is = record { same = o ∙ ap (λ (x : Result EntryAnswer Numbered). (fields_shown x).object) is; unused = rw (o, is) (entry-unused w at narrow f work' v (rw is at h.shows.said)) };
          said = rw is at h.shows.said;
          inside = rw e (entry-inside f work' r h.shows.inside);
          after = h.after;
        }

    pub step-replies : (v : View F.Entry) (next : Place) → StepShows w at v f r → reply ≡ step_reply (shown_in r) next → StepReplies w at v next f reply numbers object
    step-replies v next h e =
        let is = (h.shows []).whole in
        record {
          whole = e ∙ ap (λ (x : Result EntryAnswer Numbered). step_reply (shown_in x) next) is;
          fields = n ∙ ap (λ (x : Result EntryAnswer Numbered). field_numbers (fields_shown x)) is;
          object_is = record { same = o ∙ ap (λ (x : Result EntryAnswer Numbered). (fields_shown x).object) is; unused = rw (o, is) (entry-unused w at narrow f [] v (rw is at (h.shows []).said)) };
          said = λ work. rw is at (h.shows work).said;
          inside = λ work. rw e (step-inside f work r next (h.shows work).inside);
        }

  pub node-replies : (v : View F.Item) (r : Result NodeAnswer Numbered) (object : List ℕ) → NodeShows w at v f r → reply ≡ node_reply r
      → object ≡ object_shown (λ a. a.object) r → NodeReplies w at v f reply object
  node-replies v r object h e o =
      let is = (h.shows []).whole in
      let same : object ≡ object_shown (λ a. a.object) (node_shown at v) = o ∙ ap (object_shown (λ a. a.object)) is in
      record {
        whole = e ∙ ap node_reply is;
        object_is = record { same = same; unused = rw same (node-unused w at narrow f [] v (rw is at (h.shows []).said)) };
        said = λ work. rw is at (h.shows work).said;
        inside = λ work. rw e (node-inside f work r (h.shows work).inside);
        zeros = λ t. o ∙ node-none r h.zeros (ap count_shown is ∙ t);
      }

  pub undo-replies : (v : View F.Undo) (r : Result UndoAnswer Numbered) (first second third : List ℕ) → UndoShows w at v f r → reply ≡ undo_reply r
      → (first ≡ object_shown (λ a. a.first) r) × (second ≡ object_shown (λ a. a.second) r) × (third ≡ object_shown (λ a. a.third) r)
      → UndoReplies w at v f reply first second third
  undo-replies v r first second third h e (one, two, three) =
      let is = (h.shows []).whole in
      let (x, y, z) = undo-none r h.zeros in
      let unused = undo-unused w at narrow f [] v (rw is at (h.shows []).said) in
      let same₁ : first ≡ object_shown (λ a. a.first) (undo_shown at v) = one ∙ ap (object_shown (λ a. a.first)) is in
      let same₂ : second ≡ object_shown (λ a. a.second) (undo_shown at v) = two ∙ ap (object_shown (λ a. a.second)) is in
      let same₃ : third ≡ object_shown (λ a. a.third) (undo_shown at v) = three ∙ ap (object_shown (λ a. a.third)) is in
      record {
        whole = e ∙ ap undo_reply is;
        objects = (
          record { same = same₁; unused = rw same₁ unused.0 },
          record { same = same₂; unused = rw same₂ unused.1 },
          record { same = same₃; unused = rw same₃ unused.2 },
        );
        said = λ work. rw is at (h.shows work).said;
        inside = λ work. rw e (undo-inside f work r (h.shows work).inside);
        zeros = (
          λ t. one ∙ x (ap (number_shown (λ a. a.first_mode)) is ∙ t),
          λ t. two ∙ y (ap (number_shown (λ a. a.second_mode)) is ∙ t),
          λ t. three ∙ z (ap (number_shown (λ a. a.third_mode)) is ∙ t),
        );
      }

-- what a call that writes leaves behind
pub write-replies : (kind : ℕ) (f : List ℕ) (asked : ℕ) (change : F.Records → F.Records) (x : Read (List ℕ)) (out work out' work' reply : List ℕ) (r : Result ℕ Numbered)
    → Saves kind f asked change x out work out' work' r → reply ≡ write_reply r → WriteReplies kind f asked change x out work out' work' reply
write-replies kind f asked change x out work out' work' reply r h e =
    record { said = e ∙ ap write_reply h.writes.said; filled = h.writes.filled; after = h.writes.after; back = h.back }
