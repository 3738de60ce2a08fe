-- All that does not apply in a reply is 0, of a refusal and of a success: for every number and every byte of every reply.
use mathlib.Core.Path.{◌≡◌, refl, ◌∙◌}
use mathlib.Core.List.{List, [], ◌∷◌, ◌++◌}
use Prim.Native.Nat.{ℕ, suc, ◌-◌, ◌<◌}
use native.Mathlib.Omega.{arith}
use lib.ListN.{drop, get_or, replicate}
use Rattle.format.specs.Records as F
use Rattle.format.specs.Layout.{bit}
use Rattle.format.specs.Refusals.{denied}
use Rattle.format.specs.Refusals as R
use Rattle.std.proofs.Common.{Option, Some, None, Result, Ok, is_some}
use Rattle.std.specs.Option.{unwrap_or}
use Rattle.format.specs.Reading.{Read, bad, good}
use Rattle.kinds.specs.Kinds.{read_kind}
use Rattle.answers.specs.declared.Shown.{Shown}
use Rattle.answers.specs.declared.EntryAnswer.{EntryAnswer}
use Rattle.answers.specs.declared.NodeAnswer.{NodeAnswer}
use Rattle.answers.specs.declared.UndoAnswer.{UndoAnswer}
use Rattle.answers.specs.Answers.{View, refused, in_file, in_workspace, check_answer, entry_as, node_as, undo_as, shown_as, entry_shown}
use Rattle.answers.specs.Writing.{written_of}
use Rattle.walk.specs.declared.Place.{Place}
use Rattle.walk.specs.Walks.{start_answer}
use Rattle.replies.specs.Arrays.{name_reply, entry_reply, shown_in, step_reply, field_numbers, fields_shown, object_shown, check_reply, node_reply, undo_reply, write_reply, start_reply, refusal_in, place_in}
use Rattle.replies.proofs.Laws.{shown-alone}
use Rattle.replies.proofs.Reading.{after-shown, after-path}
use Rattle.replies.proofs.Zeros.{Zeros, NameZeros, CheckZeros, denied-zeros, done, name-zeros, denied-name, no-refusal, succeeded, count-zero, check-by, start-by}
use Rattle.nerupazhil.specs.Replies.{Told, StageZeros, number_shown, count_shown, EntryReplies, NodeReplies, UndoReplies, StepReplies, WriteReplies}
use Rattle.nerupazhil.proofs.Numbers.{Numbered}
use Rattle.nerupazhil.proofs.Successes.{Positive, check-positive, start-positive}

-- ---- the statements

-- an object name has zeros after its w bytes, and nothing else on a refusal
pub record ObjectZeros (w : ℕ) (reply object : List ℕ) : Type 0 where
  pub unused : drop w object ≡ replicate (32 - w) 0
  pub refused : 0 < refusal_in reply → object ≡ replicate 32 0

-- an entry, or a step of a walk, with n numbers after the place
pub record EntryZeros (w n : ℕ) (reply numbers object : List ℕ) : Type 0 where
  pub zeros : Zeros n reply
  pub name : NameZeros reply
  pub numbers_of : 0 < refusal_in reply → numbers ≡ replicate 14 0
  pub object_of : ObjectZeros w reply object

-- an invalid node has no count and no object name
pub record NodeZeros (w : ℕ) (reply object : List ℕ) : Type 0 where
  pub zeros : Zeros 7 reply
  pub name : NameZeros reply
  pub count : get_or reply 6 0 ≡ 0 → get_or reply 7 0 ≡ 0
  pub object_of : ObjectZeros w reply object
  pub invalid : get_or reply 6 0 ≡ 0 → object ≡ replicate 32 0

-- a missing stage has no object name
pub record UndoZeros (w : ℕ) (reply first second third : List ℕ) : Type 0 where
  pub zeros : Zeros 6 reply
  pub path : NameZeros reply
  pub objects : ObjectZeros w reply first × ObjectZeros w reply second × ObjectZeros w reply third
  pub stages : StageZeros (get_or reply 5 0) first × StageZeros (get_or reply 6 0) second × StageZeros (get_or reply 7 0) third

-- ---- the proofs

object-zeros : (w : ℕ) (reply o object : List ℕ) → Told w o object → (0 < refusal_in reply → o ≡ replicate 32 0) → ObjectZeros w reply object
object-zeros w reply o object told none = record { unused = told.unused; refused = λ some. told.same ∙ none some }

-- a count that is invalid
none-of : (c : Option ℕ) → bit (is_some c) ≡ 0 → c ≡ None
none-of None e = refl
none-of (Some n) e = absurd (omega arith)

write-by : (x : Read (List ℕ)) → Numbered x → Zeros 1 (write_reply (written_of x))
write-by (bad n p) h = denied-zeros 1 n p (h.positive n p refl)
write-by (good bytes n) h = done 1 _

object-told : (w : ℕ) (reply o object : List ℕ) → Told w o object → refusal_in reply ≡ 0 → ObjectZeros w reply object
object-told w reply o object told e = object-zeros w reply o object told (no-refusal reply e)

-- what holds of every answer that shows a view, from what holds of a refusal, whose number is not 0, and of an item
module _ {A T : Type 0} (show : Shown → A → T) (name : A → List ℕ) (at : ℕ) where
  by-view : (P : Result T R.Numbered → Type 0) (v : View A) → Positive v → ((n p : ℕ) → 0 < n → P (denied n p))
      → ((s : Shown) (a : A) → ((more : List ℕ) → (refusal_in (name_reply s ++ more) ≡ 0) × (place_in (name_reply s ++ more) ≡ 0)) → P (Ok (show s a)))
      → P (shown_as show name at v)
  by-view P (refused n p) some denies shows = denies n p (some.number n p refl)
  by-view P (in_file a) some denies shows = shows _ a (λ _. (refl, refl))
  by-view P (in_workspace a) some denies shows = shows _ a (λ _. (refl, refl))

-- ---- every call

module _ (kind : ℕ) (work f reply : List ℕ) where
  pub check-zeros : reply ≡ check_reply (check_answer work (read_kind kind f)) → CheckZeros reply
  check-zeros e = rw e (check-by (check_answer work (read_kind kind f)) (check-positive kind work f))

  pub start-zeros : reply ≡ start_reply (start_answer work (read_kind kind f)) → Zeros 2 reply
  start-zeros e = rw e (start-by (start_answer work (read_kind kind f)) (start-positive kind work f))

-- of a reply that shows a view whose number is not 0 where it is refused: positive-entry, positive-node, positive-undo and positive-step say so
-- of every one

-- an entry, and a step of a walk, which tells more: k numbers, zeros on a refusal
module _ (w k : ℕ) (tell : Result EntryAnswer R.Numbered → List ℕ) (more : List ℕ)
    (denying : (n p : ℕ) → tell (denied n p) ≡ n ∷ p ∷ replicate (suc (suc (suc k))) 0) (showing : (a : EntryAnswer) → tell (Ok a) ≡ name_reply a.shown ++ more) where
  record EntryHolds (r : Result EntryAnswer R.Numbered) : Type 0 where
    holds : (reply numbers object : List ℕ) → reply ≡ tell r → numbers ≡ field_numbers (fields_shown r)
        → Told w (fields_shown r).object object → EntryZeros w (suc (suc (suc k))) reply numbers object

  entry-by : (at : ℕ) (v : View F.Entry) → Positive v → EntryHolds (entry_shown at v)
  entry-by at v some =
      by-view entry_as (λ e. e.name) at EntryHolds v some
      (λ n p pos. record {
        holds = λ reply numbers object e f t. rw (e, denying n p) (record {
          zeros = denied-zeros _ n p pos;
          name = denied-name n p _;
          numbers_of = λ _. f;
          object_of = object-zeros w _ _ _ t (λ _. refl);
        });
      })
      (λ s x free. record {
        holds = λ reply numbers object e f t. rw (e, showing (entry_as s x)) (record {
          zeros = succeeded _ _ (free _);
          name = name-zeros s _;
          numbers_of = no-refusal (name_reply s ++ more) (free more).0;
          object_of = object-told w _ _ _ t (free more).0;
        });
      })

pub entry-zeros : (w at : ℕ) (v : View F.Entry) → Positive v → (f work work' reply numbers object : List ℕ) → EntryReplies w at v f work work' reply numbers object
    → EntryZeros w 3 reply numbers object
entry-zeros w at v some f work work' reply numbers object h =
    (entry-by w 0 entry_reply [] (λ n p. refl) (λ a. shown-alone a.shown) at v some).holds reply numbers object h.whole h.fields h.object_is

pub step-zeros : (w at : ℕ) (v : View F.Entry) → Positive v → (next : Place) (f reply numbers object : List ℕ) → StepReplies w at v next f reply numbers object
    → EntryZeros w 5 reply numbers object
step-zeros w at v some next f reply numbers object h =
    (entry-by w 2 (λ r. step_reply (shown_in r) next) (next.at ∷ next.left ∷ []) (λ n p. refl) (λ a. refl) at v some).holds reply numbers object h.whole h.fields h.object_is

-- a node
record NodeHolds (w : ℕ) (r : Result NodeAnswer R.Numbered) : Type 0 where
  holds : (reply object : List ℕ) → reply ≡ node_reply r → Told w (object_shown (λ a. a.object) r) object → (count_shown r ≡ None → object ≡ replicate 32 0) → NodeZeros w reply object

pub node-zeros : (w at : ℕ) (v : View F.Item) → Positive v → (f reply object : List ℕ) → NodeReplies w at v f reply object → NodeZeros w reply object
node-zeros w at v some f reply object h =
    (by-view node_as (λ i. i.node.name) at (NodeHolds w) v some
    (λ n p pos. record {
      holds = λ reply object e t z. rw e (record {
        zeros = denied-zeros 7 n p pos;
        name = denied-name n p _;
        count = λ _. refl;
        object_of = object-zeros w _ _ _ t (λ _. refl);
        invalid = λ _. z refl;
      });
    })
    (λ s i free. record {
      holds = λ reply object e t z.
          let c : Option ℕ = (node_as s i).count in
          let (_, valid, count, _) = after-shown s i.level (bit (is_some c)) (unwrap_or c 0) i.subtrees in
          rw e (record {
            zeros = succeeded _ _ (free _);
            name = name-zeros s _;
            count = rw (valid, count) (count-zero c);
            object_of = object-told w _ _ _ t (free _).0;
            invalid = rw valid (λ q. z (none-of c q));
          });
    })).holds reply object h.whole h.object_is h.zeros

-- a resolve-undo record
record UndoHolds (w : ℕ) (r : Result UndoAnswer R.Numbered) : Type 0 where
  holds : (reply first second third : List ℕ) → reply ≡ undo_reply r
      → Told w (object_shown (λ a. a.first) r) first × Told w (object_shown (λ a. a.second) r) second × Told w (object_shown (λ a. a.third) r) third
      → StageZeros (number_shown (λ a. a.first_mode) r) first × StageZeros (number_shown (λ a. a.second_mode) r) second × StageZeros (number_shown (λ a. a.third_mode) r) third
      → UndoZeros w reply first second third

pub undo-zeros : (w at : ℕ) (v : View F.Undo) → Positive v → (f reply first second third : List ℕ) → UndoReplies w at v f reply first second third
    → UndoZeros w reply first second third
undo-zeros w at v some f reply first second third h =
    (by-view undo_as (λ u. u.path) at (UndoHolds w) v some
    (λ n p pos. record {
      holds = λ reply first second third e t z. rw e (record {
        zeros = denied-zeros 6 n p pos;
        path = denied-name n p _;
        objects = (object-zeros w _ _ _ t.0 (λ _. refl), object-zeros w _ _ _ t.1 (λ _. refl), object-zeros w _ _ _ t.2 (λ _. refl));
        stages = z;
      });
    })
    (λ s u free. record {
      holds = λ reply first second third e t z.
          let (a, b, c) = after-path s u.first.mode u.second.mode u.third.mode in
          rw e (record {
            zeros = succeeded _ _ (free _);
            path = name-zeros s _;
            objects = (object-told w _ _ _ t.0 (free _).0, object-told w _ _ _ t.1 (free _).0, object-told w _ _ _ t.2 (free _).0);
            stages = rw (a, b, c) z;
          });
    })).holds reply first second third h.whole h.objects h.zeros

-- of rewrite, put and remove: numbered-rewrite, numbered-put and numbered-remove say that their answers are numbered
pub write-zeros : (kind : ℕ) (f : List ℕ) (asked : ℕ) (change : F.Records → F.Records) (x : Read (List ℕ)) (out work out' work' reply : List ℕ)
    → WriteReplies kind f asked change x out work out' work' reply → Numbered x → Zeros 1 reply
write-zeros kind f asked change x out work out' work' reply h numbered = rw h.said (write-by x numbered)
