-- Laws of one step: where its entry is, its name and the one before.
use mathlib.Core.Path.{◌≡◌, refl, sym}
use mathlib.Core.List.{List}
use Prim.Native.Nat.{ℕ, ◌≤◌}
use native.Mathlib.Omega.{arith}
use lib.ListN.{length}
use Rattle.std.specs.Prelude.{Ok}
use Rattle.format.specs.Records.{Entry}
use Rattle.format_laws.proofs.Names.{common-le}
use Rattle.entries_run.specs.declared.Cursor.{Cursor}
use Rattle.entries_run.specs.declared.Step.{Step}
use Rattle.entries_run.specs.Steps.{name_at, key_at, entry_at, Inside, StepFound, EntryStepped}
use Rattle.entries_run.proofs.Names.{name_at-length}
use Rattle.entries_run.proofs.Steps.{entry_at-name}
use Rattle.entries_write.specs.Parts.{PrefixKept, Beside, StepRead}

module _ {w : ℕ} {v : ℕ} {b work : List ℕ} {c : Cursor} {work' : List ℕ} {st : Step} (t : EntryStepped w v b work c work' (Ok st)) where
  abbrev entry : Entry
  entry = entry_at w v b work' c.at st

  pub step-found : StepFound w v b work c work' st
  step-found = t.found st refl

  pub step-read : StepRead w v b work' c.at st
  step-read =
      let f = step-found in
      record {
        key = key_at v b work c;
        read = t.same c.at;
        flags = f.flags;
        head = f.head;
        least = f.least;
        ahead = f.ahead;
        next = f.next;
      }

  pub step-name : entry.name ≡ name_at v b work' st.next.start st.next.len
  step-name = entry_at-name w v b work' c.at st

  module _ (room : 8192 ≤ length work) where
    pub step_room : 8192 ≤ length work'
    step_room = omega (arith, t.frame)

    -- after a name of previous bytes, of which its name keeps the first kept
    pub step_keeps : (previous kept : ℕ) → previous ≤ 8192 → kept ≤ previous → kept ≤ length entry.name
        → PrefixKept (name_at v b work' st.next.start st.next.len) previous kept
    step_keeps previous kept short fits within =
        let size : length entry.name ≡ st.next.len = rw step-name (name_at-length v b work' st.next step-found.next step_room) in
        let most = step-found.next.short in
        let keeps : PrefixKept entry.name previous kept = record { short = omega arith; before_short = short; fits = fits; within = within } in
        rw step-name at keeps

    -- after the name before the cursor
    module _ (inside : Inside b c) where
      pub step-beside : Beside (key_at v b work c).name entry.name c.len st.common
      step-beside = rw step-name (record { long = name_at-length v b work c inside room; shared = sym step-found.common })

      pub step-common : (st.common ≤ c.len) × (st.common ≤ length entry.name)
      step-common =
          let (before, within) = common-le (key_at v b work c).name entry.name in
          let long = step-beside.long in
          let shared = step-beside.shared in
          (omega arith, omega arith)

      pub step_kept : PrefixKept (name_at v b work' st.next.start st.next.len) c.len st.common
      step_kept = let (fits, within) = step-common in step_keeps c.len st.common inside.short fits within
