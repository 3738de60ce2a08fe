-- What a request changes in a file that was read, as an edit.
use mathlib.Core.Path.{◌≡◌, refl, sym, ap, ◌∙◌}
use mathlib.Core.List.{List}
use mathlib.Core.Bool.{true, false}
use Prim.Native.Nat.{ℕ, ◌≤◌, ◌<◌}
use native.Mathlib.Omega.{arith}
use lib.ListN.{length}
use Rattle.format.specs.Bytes.{Bytes}
use Rattle.format.specs.Records.{Key}
use Rattle.format.specs.Reading.{Read, bad, good}
use Rattle.format.specs.Reader.{Contents}
use Rattle.format.specs.Places.{body_in}
use Rattle.format.specs.Requests.{ok_asked, writing}
use Rattle.kinds.specs.Kinds.{width_of, hash_of, read_kind}
use Rattle.entries.specs.declared.record.Fields.{Fields}
use Rattle.entries.specs.Record.{entry_with}
use Rattle.entries_place.specs.declared.Place.{Place}
use Rattle.entries_place.specs.Places.{PlaceFound}
use Rattle.entries_edit.specs.declared.Edit.TheVariants as E
use Rattle.file_read.specs.declared.Parts.{Parts}
use Rattle.file_read.specs.Contents.{Contains}
use Rattle.answers.specs.Writing.{requested}
use Rattle.index_write.specs.declared.Request.{Request}
use Rattle.index_write.specs.declared.Request.TheVariants as Q
use Rattle.index_write.specs.Calls.{Opened, record_number, request_of, Refuses, Changes}
use Rattle.index_write.proofs.Files.{name-short, item-short}
use Rattle.index_write.proofs.Edits.{keep-changed, put-changed, mixed-there, put-replaces, remove-changed, holds-there, entry-there}
use Rattle.index_write.proofs.Answers.{rewrite-refused, rewrite-is, put_refused, put-unsound, put-mixed, put_is, sound-record, remove-refused, remove_absent, remove-is}

-- a version that can't be asked for
pub request-refused : (kind : ℕ) (request : Request) (x : Read Contents) (c : Contents) (m : ℕ) → x ≡ good c m → (name : List ℕ) (fields : Fields) (asked room : ℕ) → ok_asked asked ≡ false
    → requested x (request_of kind request name fields asked room) ≡ bad 4 0
request-refused kind Q.Rewrite x c m read name fields asked room refused = rewrite-refused kind x c m read asked room refused
request-refused kind Q.Put x c m read name fields asked room refused = put_refused kind x c m read asked room fields name refused
request-refused kind (Q.Remove stage) x c m read name fields asked room refused = remove-refused kind x c m read asked room (record { name = name; stage = stage }) refused

module _ (kind : ℕ) (f work : List ℕ) (parts : Parts) (opened : Opened kind f work parts) (name : List ℕ) (fields : Fields) where
  abbrev h : Contains (width_of kind) (read_kind kind f) (body_in (width_of kind) f) parts
  h = opened.contains

  -- nothing is changed
  pub plan-keep : length name ≤ 8192 → fields.stage ≤ 3 → Changes kind f work parts Q.Rewrite name fields E.Keep
  plan-keep short stage = record {
    planned = record { opened = opened; reach = omega arith; stage = stage; short = short; there = tt };
    is = λ asked room ok.
        rewrite-is kind (read_kind kind f) h.contents h.taken h.read asked room ok
        ∙ ap (writing (width_of kind) (hash_of kind) asked room) (sym (keep-changed (width_of kind) (entry_with (width_of kind) fields name) h.contents.records));
  }

  -- a record that is not sound is not put
  pub plan-unsound : (n : ℕ) → n ≡ record_number fields name → 0 < n → Refuses kind f Q.Put name fields n
  plan-unsound n e some = record {
    is = λ asked room ok.
        let more : 0 < record_number fields name = omega arith in
        rw e (put-unsound kind (read_kind kind f) h.contents h.taken h.read asked room fields name ok more);
  }

  -- the place that was found: p, which leaves work₁ of the workspace
  module _ (work₁ : List ℕ) (p : Place) where
    module _ (r : PlaceFound (width_of kind) parts.version (body_in (width_of kind) f) work parts.count (record { name = name; stage = fields.stage }) work₁ p)
        (sound : record_number fields name ≡ 0) where
      -- stage 0 would come together with another stage
      pub plan-mixed : p.mixed ≡ true → Refuses kind f Q.Put name fields 11
      plan-mixed found = record {
        is = λ asked room ok.
            put-mixed kind (read_kind kind f) h.contents h.taken h.read asked room fields name ok sound
            (mixed-there _ _ _ _ _ _ _ _ r h.contents.records _ h.entries ∙ found);
      }

      pub plan-put : p.mixed ≡ false → Changes kind f work₁ parts Q.Put name fields (E.Put p.before p.there)
      plan-put apart =
          let (stage, named) = sound-record fields name sound in
          record {
            planned = record {
              opened = record { room = omega (arith, r.frame, opened.room); contains = h };
              reach = r.few;
              stage = stage;
              short = name-short name named;
              there = put-replaces _ _ _ _ _ _ _ _ r h.contents.records _ h.entries;
            };
            is = λ asked room ok.
                put_is kind (read_kind kind f) h.contents h.taken h.read asked room fields name ok sound
                (mixed-there _ _ _ _ _ _ _ _ r h.contents.records _ h.entries ∙ apart)
                ∙ ap (writing (width_of kind) (hash_of kind) asked room) (put-changed _ _ _ _ _ _ _ _ r h.contents.records _ h.entries (entry_with (width_of kind) fields name) refl);
          }

    module _ (stage : ℕ) (r : PlaceFound (width_of kind) parts.version (body_in (width_of kind) f) work parts.count (record { name = name; stage = stage }) work₁ p) where
      abbrev key : Key
      key = record { name = name; stage = stage }

      pub plan-absent : p.there ≡ false → Refuses kind f (Q.Remove stage) name fields 18
      plan-absent absent = record {
        is = λ asked room ok.
            remove_absent kind (read_kind kind f) h.contents h.taken h.read asked room key ok
            (holds-there _ _ _ _ _ _ _ _ r h.contents.records _ h.entries ∙ absent);
      }

      pub plan-remove : Bytes f → p.there ≡ true → fields.stage ≤ 3 → Changes kind f work₁ parts (Q.Remove stage) name fields (E.Remove p.before)
      plan-remove bytes found low = record {
        planned = record {
          opened = record { room = omega (arith, r.frame, opened.room); contains = h };
          reach = let few = rw found at r.few in few;
          stage = low;
          short = entry-there _ _ _ _ _ _ _ _ r h.contents.records _ h.entries found λ x at is. rw (← is) (item-short kind f bytes parts h _ x at);
          there = tt;
        };
        is = λ asked room ok.
            remove-is kind (read_kind kind f) h.contents h.taken h.read asked room key ok
            (holds-there _ _ _ _ _ _ _ _ r h.contents.records _ h.entries ∙ found)
            ∙ ap (writing (width_of kind) (hash_of kind) asked room) (remove-changed _ _ _ _ _ _ _ _ r h.contents.records _ h.entries (entry_with (width_of kind) fields name) refl found);
      }
