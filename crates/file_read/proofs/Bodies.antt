-- Laws of the reading of a body.
use mathlib.Core.Path.{◌≡◌, refl, ap, ◌∙◌}
use mathlib.Core.List.{List}
use Prim.Native.Nat.{ℕ, ◌+◌, ◌-◌, ◌≤◌}
use native.Mathlib.Omega.{arith}
use lib.ListN.{length, drop}
use lib.Seq.{drop-drop}
use Rattle.std.specs.Prelude.{Ok, Err}
use Rattle.format.specs.declared.Fault.{Fault}
use Rattle.format.specs.Refusals.{number_of, numbered_at}
use Rattle.format.specs.Bytes.{be32}
use Rattle.format.specs.Records as F
use Rattle.format.specs.Layout.{Extension, trees, undos, names}
use Rattle.format.specs.Checksum as M
use Rattle.format.specs.Reading.{bad, good, shift, bind}
use Rattle.format.specs.Reader.{Contents, none_seen, read_entries, read_extensions, read_body, first}
use Rattle.answers.specs.Answers.{checksum_as}
use Rattle.entries_run.specs.Steps.{EntriesRead, run_of}
use Rattle.entries_run.proofs.Steps.{entries-length, run_of-bad, run_of-good}
use Rattle.extensions.specs.declared.Found.{Found}
use Rattle.extensions.specs.Steps as E
use Rattle.file_read.specs.Contents.{Contains}

-- ---- the body

module _ (w : ℕ) (v : ℕ) (sum : M.Checksum) (b : List ℕ) (count : ℕ) (counted : count ≡ be32 b 8) where
  no-entries : (n p : ℕ) → read_entries w v count F.start 12 (drop 12 b) ≡ bad n p → read_body w v sum b ≡ bad n p
  unfolding read_body bind shift
  no-entries n p e = rw (← counted, e)

  pub body-no-entries : (f : Fault) → numbered_at (Err f) ≡ run_of (read_entries w v count F.start 12 (drop 12 b)) → read_body w v sum b ≡ bad (number_of f.refusal) f.place
  body-no-entries f e = no-entries _ _ (run_of-bad _ _ _ e)

  module _ (es : List F.Entry) (m : ℕ) (entries : EntriesRead w v count b es m) where
    module _ (end : ℕ) (last : end ≡ 12 + m) where
      rest : drop m (drop 12 b) ≡ drop (12 + m) b
      rest = drop-drop m 12 b

      body-no-extensions : (n p : ℕ) → read_extensions w (names es) (length (drop end b)) none_seen end (drop end b) ≡ bad n p → read_body w v sum b ≡ bad n p
      unfolding read_body bind shift
      body-no-extensions n p e = rw (← counted, entries, rest, ← last, e)

      contents : List Extension → Contents
      contents xs = record { version = v; checksum = sum; end = end; records = record { entries = es; cache_tree = first (trees xs); resolve_undo = first (undos xs) } }

      body-read : (xs : List Extension) (k : ℕ) → read_extensions w (names es) (length (drop end b)) none_seen end (drop end b) ≡ good xs k
          → read_body w v sum b ≡ good (contents xs) (12 + (m + (k + 0)))
      unfolding read_body bind shift contents
      body-read xs k e = rw (← counted, entries, rest, ← last, e)

      body-contains : 12 ≤ length b → length b ≤ 16777216 → (found : Found)
          → E.Whole w b end (read_extensions w (names es) (length (drop end b)) none_seen end (drop end b)) found
          → Contains w (read_body w v sum b) b (record { version = v; count = count; end = end; found = found; checksum = checksum_as sum })
      unfolding contents
      body-contains least most found h =
          let taken : m ≡ end - 12 = omega arith in
          record {
            contents = contents h.list;
            taken = 12 + (m + (length b - end + 0));
            read = body-read h.list (length b - end) h.reads;
            least = least;
            most = most;
            version = refl;
            checksum = refl;
            end = refl;
            counted = entries-length w v count F.start 12 (drop 12 b) es m entries;
            entries = entries ∙ ap (good es) taken;
            tree = h.tree;
            undo = h.undo;
            tree_at = h.tree_at;
            undo_at = h.undo_at;
          }

  -- after the run of entries, which ends at a place
  module _ (end : ℕ) (run : Ok end ≡ run_of (read_entries w v count F.start 12 (drop 12 b))) (work work' : List ℕ) where
    pub body_refused : (f : Fault) → E.ExtensionsPassed w v count b work end work' (Err f) → read_body w v sum b ≡ bad (number_of f.refusal) f.place
    body_refused f h = run_of-good _ end run λ es m e last. body-no-extensions es m e end last _ _ (h.answered es m e)

    pub body-accepted : (found : Found) → 12 ≤ length b → length b ≤ 16777216 → E.ExtensionsPassed w v count b work end work' (Ok found)
        → Contains w (read_body w v sum b) b (record { version = v; count = count; end = end; found = found; checksum = checksum_as sum })
    body-accepted found least most h = run_of-good _ end run λ es m e last. body-contains es m e end last least most found (h.answered es m e)
