-- What a program reads from a reply: a refusal's number and place, or the item that its numbers, its object names and the bytes of its name make.
use mathlib.Core.Path.{◌≡◌, refl, ap, ◌∙◌}
use mathlib.Core.List.{List, []}
use mathlib.Core.Bool.{cond}
use Prim.Native.Nat.{ℕ}
use lib.ListN.{take, get_or}
use lib.Dec.{eqb}
use Rattle.format.specs.Records as F
use Rattle.format.specs.Layout.{bit}
use Rattle.format.specs.Refusals.{Numbered}
use Rattle.std.proofs.Common.{Option, Some, None, Result, Ok, Err, is_some}
use Rattle.std.specs.Option.{unwrap_or}
use Rattle.entries.specs.declared.record.Fields.{Fields}
use Rattle.entries.specs.Record.{entry_with}
use Rattle.answers.specs.Answers.{View, entry_said, count_with, node_said, stage_with, undo_said, entry_shown, node_shown, undo_shown}
use Rattle.walk.specs.declared.Place.{Place}
use Rattle.answers.specs.declared.EntryAnswer.{EntryAnswer}
use Rattle.answers.specs.declared.NodeAnswer.{NodeAnswer}
use Rattle.answers.specs.declared.UndoAnswer.{UndoAnswer}
use Rattle.replies.specs.Arrays.{entry_reply, node_reply, undo_reply, shown_in, step_reply, field_numbers, fields_shown, object_shown, refusal_in, place_in, bytes_in, object_in, given_fields}
use Rattle.replies.proofs.Laws.{shown-alone}
use Rattle.replies.proofs.Reading.{flag-back, after-shown, after-path, Tells, denied-tells, shown-tells}
use Rattle.nerupazhil.specs.Replies.{Told, EntryReplies, NodeReplies, UndoReplies, StepReplies}

-- the fields of an entry: put, given what a call showed, is given the same fields
pub fields_back : (w : ℕ) (x : Fields) (object : List ℕ) → Told w x.object object → given_fields (field_numbers x) object ≡ x
fields_back w x object told =
    rw (told.same, flag-back x.assume_valid, flag-back x.skip_worktree, flag-back x.intent_to_add) refl

-- the fields as a program reads them
same-fields : (w : ℕ) (v : View F.Entry) (refusal place : ℕ) (name : List ℕ) (x y : Fields) → x ≡ y → Tells v refusal place (entry_with w y name) → Tells v refusal place (entry_with w x name)
same-fields w v refusal place name x y e t = rw e t

fields_told : (w : ℕ) (x : Fields) (numbers object : List ℕ) → numbers ≡ field_numbers x → Told w x.object object → given_fields numbers object ≡ x
fields_told w x numbers object e told = ap (λ n. given_fields n object) e ∙ fields_back w x object told

-- an entry, and a step, from the answer
entry-told : (w : ℕ) (r : Result EntryAnswer Numbered) (f work : List ℕ) (v : View F.Entry) → entry_said w r f work ≡ v
    → Tells v (refusal_in (entry_reply r)) (place_in (entry_reply r)) (entry_with w (fields_shown r) (bytes_in (entry_reply r) f work))
unfolding entry_said
entry-told w (Err x) f work v e = denied-tells v x.number x.place _ e
entry-told w (Ok a) f work v e = rw (shown-alone a.shown) (shown-tells [] (entry_with w a.fields) a.shown f work v e)

step-told : (w : ℕ) (r : Result EntryAnswer Numbered) (next : Place) (f work : List ℕ) (v : View F.Entry) → entry_said w r f work ≡ v
    → Tells v (refusal_in (step_reply (shown_in r) next)) (place_in (step_reply (shown_in r) next)) (entry_with w (fields_shown r) (bytes_in (step_reply (shown_in r) next) f work))
unfolding entry_said
step-told w (Err x) next f work v e = denied-tells v x.number x.place _ e
step-told w (Ok a) next f work v e = shown-tells _ (entry_with w a.fields) a.shown f work v e

pub entry-tells : (w at : ℕ) (v : View F.Entry) (f work work' reply numbers object : List ℕ) → EntryReplies w at v f work work' reply numbers object
    → Tells v (refusal_in reply) (place_in reply) (entry_with w (given_fields numbers object) (bytes_in reply f work'))
entry-tells w at v f work work' reply numbers object h =
    same-fields w _ _ _ _ _ _ (fields_told w (fields_shown (entry_shown at v)) numbers object h.fields h.object_is)
    (rw h.whole (entry-told w (entry_shown at v) f work' v h.said))

pub step-tells : (w at : ℕ) (v : View F.Entry) (next : Place) (f reply numbers object : List ℕ) → StepReplies w at v next f reply numbers object → (work : List ℕ)
    → Tells v (refusal_in reply) (place_in reply) (entry_with w (given_fields numbers object) (bytes_in reply f work))
step-tells w at v next f reply numbers object h work =
    same-fields w _ _ _ _ _ _ (fields_told w (fields_shown (entry_shown at v)) numbers object h.fields h.object_is)
    (rw h.whole (step-told w (entry_shown at v) next f work v (h.said work)))

-- an entry count, from two numbers: whether it is valid, and the count
abbrev pub count_read : ℕ → ℕ → F.Count
count_read valid count = cond (eqb valid 0) F.invalid (F.valid count)

count-back : (c : Option ℕ) → count_read (bit (is_some c)) (unwrap_or c 0) ≡ count_with c
count-back None = refl
count-back (Some n) = refl

-- a node with its name, from numbers 5 to 8
abbrev pub item_with : (w level valid count subtrees : ℕ) (object name : List ℕ) → F.Item
item_with w level valid count subtrees object name = record {
  node = record { name = name; count = count_read valid count; object = object_in w object };
  level = level;
  subtrees = subtrees;
}

abbrev pub node_in : ℕ → (reply object name : List ℕ) → F.Item
node_in w reply object name = item_with w (get_or reply 5 0) (get_or reply 6 0) (get_or reply 7 0) (get_or reply 8 0) object name

node-told : (w : ℕ) (r : Result NodeAnswer Numbered) (f work : List ℕ) (v : View F.Item) → node_said w r f work ≡ v
    → let reply = node_reply r in Tells v (refusal_in reply) (place_in reply) (node_in w reply (object_shown (λ a. a.object) r) (bytes_in reply f work))
unfolding node_said
node-told w (Err x) f work v e = denied-tells v x.number x.place _ e
node-told w (Ok a) f work v e =
    let (l, i, c, k) = after-shown a.shown a.level (bit (is_some a.count)) (unwrap_or a.count 0) a.subtrees in
    rw (l, i, c, k, count-back a.count)
    (shown-tells _ (λ name. record { node = record { name = name; count = count_with a.count; object = take w a.object }; level = a.level; subtrees = a.subtrees }) a.shown f work v e)

pub node-tells : (w at : ℕ) (v : View F.Item) (f reply object : List ℕ) → NodeReplies w at v f reply object → (work : List ℕ)
    → Tells v (refusal_in reply) (place_in reply) (node_in w reply object (bytes_in reply f work))
node-tells w at v f reply object h work = rw (h.whole, h.object_is.same) (node-told w (node_shown at v) f work v (h.said work))

-- a record with its path, from numbers 5 to 7
abbrev pub undo_in : ℕ → (reply first second third path : List ℕ) → F.Undo
undo_in w reply first second third path = record {
  path = path;
  first = stage_with (get_or reply 5 0) (object_in w first);
  second = stage_with (get_or reply 6 0) (object_in w second);
  third = stage_with (get_or reply 7 0) (object_in w third);
}

undo-told : (w : ℕ) (r : Result UndoAnswer Numbered) (f work : List ℕ) (v : View F.Undo) → undo_said w r f work ≡ v
    → let reply = undo_reply r in
    Tells v (refusal_in reply) (place_in reply)
    (undo_in w reply (object_shown (λ a. a.first) r) (object_shown (λ a. a.second) r) (object_shown (λ a. a.third) r) (bytes_in reply f work))
unfolding undo_said
undo-told w (Err x) f work v e = denied-tells v x.number x.place _ e
undo-told w (Ok a) f work v e =
    let (x, y, z) = after-path a.shown a.first_mode a.second_mode a.third_mode in
    rw (x, y, z)
    (shown-tells _ (λ path. record { path = path; first = stage_with a.first_mode (take w a.first); second = stage_with a.second_mode (take w a.second); third = stage_with a.third_mode (take w a.third) }) a.shown f work v e)

pub undo-tells : (w at : ℕ) (v : View F.Undo) (f reply first second third : List ℕ) → UndoReplies w at v f reply first second third → (work : List ℕ)
    → Tells v (refusal_in reply) (place_in reply) (undo_in w reply first second third (bytes_in reply f work))
undo-tells w at v f reply first second third h work =
    let (p, q, r) = h.objects in
    rw (h.whole, p.same, q.same, r.same) (undo-told w (undo_shown at v) f work v (h.said work))
