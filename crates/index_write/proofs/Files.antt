-- What holds of a file that was read.
use mathlib.Core.Path.{◌≡◌, ap, ◌∙◌}
use mathlib.Core.List.{List}
use mathlib.Core.Bool.{true}
use mathlib.Core.Option.{some}
use Prim.Native.Nat.{ℕ, zero, suc, ◌+◌, ◌≤◌, ◌<◌}
use native.Mathlib.Omega.{arith}
use lib.ListN.{length, get_elem?, length-append}
use lib.Dec.{leb}
use borrow.Author.Tests.{leb-true}
use Rattle.format.specs.Bytes.{Bytes}
use Rattle.format.specs.Names.{ok_name}
use Rattle.format.specs.Records.{Entry, Key, Records}
use Rattle.format.specs.Layout.{Spells}
use Rattle.format.specs.Places.{body_in}
use Rattle.format_laws.proofs.Tests.{and-inv}
use Rattle.format_laws.proofs.Readings.{none-some}
use Rattle.kinds.specs.Kinds.{width_of, hash_of, read_kind}
use Rattle.kinds.proofs.Laws.{width-most, length-hash, file-known}
use Rattle.spelling.proofs.File.{read-spelled}
use Rattle.writing.specs.Sound.{SoundEntry, SoundEntries, entries_none, entries_next}
use Rattle.writing.proofs.Entries.{entries-long}
use Rattle.writing.proofs.File.{spelled-sound}
use Rattle.file_read.specs.declared.Parts.{Parts}
use Rattle.file_read.specs.Contents.{Contains}
use Rattle.file_read.proofs.Room.{file-long}
use Rattle.entries_run.specs.Steps.{Room, AllRead}
use Rattle.file_write.specs.Bodies.{BodyHas}
use Rattle.index_write.specs.Calls.{Opened}

-- ---- records that spell a file

few-entries : {w : ℕ} {hash : List ℕ → List ℕ} {r : Records} {f : List ℕ} → Spells w hash r f → length r.entries ≤ 16777216
few-entries {r = r} h =
    let b = h.body_is in
    let file = ap length h.file_is ∙ length-append h.body h.checksum in
    let body = simp length-append at (ap length b.bytes) in
    omega (arith, entries-long b.entries_are, h.short)

sound-item : {w : ℕ} {k : Key} {es : List Entry} → SoundEntries w k es → (i : ℕ) (x : Entry) → get_elem? es i ≡ some x → SoundEntry w x
sound-item entries_none i x e = none-some e
sound-item (entries_next {e = y} h rises rest) zero x e = let same : y ≡ x = cc in rw (← same) h
sound-item (entries_next h rises rest) (suc i) x e = sound-item rest i x e

pub name-short : (s : List ℕ) → ok_name s ≡ true → length s ≤ 8192
unfolding ok_name
name-short s h =
    let (least, rest) = and-inv (leb 1 (length s)) _ h in
    let (most, sound) = and-inv (leb (length s) 8192) _ rest in leb-true _ _ most

-- ---- a file that was read

module _ (kind : ℕ) (f : List ℕ) (bytes : Bytes f) (parts : Parts) (h : Contains (width_of kind) (read_kind kind f) (body_in (width_of kind) f) parts) where
  spelled : Spells (width_of kind) (hash_of kind) h.contents.records f
  spelled = file-known kind f h.contents h.taken h.read λ known is.
      read-spelled (width_of kind) (hash_of kind) (length-hash kind) f h.contents h.taken bytes is

  pub has_of : BodyHas (width_of kind) (body_in (width_of kind) f) parts h.contents.records
  has_of = record {
    entries = h.entries;
    counted = h.counted;
    tree = h.tree;
    undo = h.undo;
    differ = λ t e. ((spelled-sound spelled).cache_tree t e).differ;
  }

  pub count-few : parts.count < 4294967295
  count-few = omega (arith, few-entries spelled, h.counted)

  pub item-short : (i : ℕ) (x : Entry) → get_elem? h.contents.records.entries i ≡ some x → length x.name ≤ 8192
  item-short i x e = name-short x.name (sound-item (spelled-sound spelled).entries i x e).name

-- the same for the width as the code has it
module _ (kind w : ℕ) (is : w ≡ width_of kind) (f work : List ℕ) (parts : Parts) (o : Opened kind f work parts) where
  pub long-in : 12 + w ≤ length f
  long-in = rw is (file-long (width_of kind) f (width-most kind) o.contains.least)

  pub room_in : Room (body_in w f) work
  room_in = rw is (record { least = o.contains.least; most = o.contains.most; room = o.room })

  pub entries-in : AllRead w parts.version parts.count (body_in w f)
  entries-in = rw is (o.contains.contents.records.entries, _, o.contains.entries)
