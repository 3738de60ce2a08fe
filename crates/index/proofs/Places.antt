-- Where the parts of an accepted file are, as the code finds them.
use mathlib.Core.Path.{◌≡◌, sym, ap, ◌∙◌}
use mathlib.Core.List.{List, []}
use Prim.Native.Nat.{ℕ, ◌+◌, ◌-◌, ◌≤◌}
use native.Mathlib.Omega.{arith}
use lib.ListN.{length}
use Rattle.std.specs.Prelude.{IfSome}
use Rattle.std.proofs.lemmas.Option.{IfSome_then}
use borrow.Author.Tests.{leb-true}
use Rattle.format.specs.Bytes.{be32}
use Rattle.format.specs.Records.{Entry}
use Rattle.format.specs.Layout.{TREE, REUC}
use Rattle.format.specs.Reading.{Read, good}
use Rattle.format.specs.Reader.{Contents, read_file}
use Rattle.format.specs.Places.{body_in, taken, entry_place, name_place, entry_name_place, data_place, data_in, data_of, node_start, node_place, undo_start, undo_place}
use Rattle.format_laws.proofs.Numbers.{be32-take}
use Rattle.kinds.specs.Kinds.{width_of, hash_of, read_kind}
use Rattle.kinds.proofs.Laws.{file-known}
use Rattle.file_read.specs.declared.Parts.{Parts}
use Rattle.answers.specs.Answers.{in_room}
use Rattle.file_read.specs.Contents.{Contains}
use Rattle.file_read.proofs.Room.{in-room, room_of}
use Rattle.file_read.proofs.Files.{file-says}

-- the version and the byte where entries end, of a file that was read
module _ (w : ℕ) (hash : List ℕ → List ℕ) (f : List ℕ) (c : Contents) (m : ℕ) where
  read-places : read_file w hash f ≡ good c m → (c.version ≡ be32 f 4) × (c.end ≡ entry_place w (be32 f 4) (be32 f 8) (body_in w f))
  unfolding entry_place
  read-places q =
      let h = file-says w hash f c m q in
      let fits : 8 + 4 ≤ length f - w = omega (arith, leb-true (12 + w) (length f) h.long) in
      let count : be32 (body_in w f) 8 ≡ be32 f 8 = be32-take f (length f - w) 8 fits in
      (h.version, h.end ∙ ap (λ (x : Read (List Entry)). 12 + taken x) (sym (rw count at h.entries)))

module _ (kind : ℕ) (work f : List ℕ) (parts : Parts) (h : Contains (width_of kind) (in_room work (read_kind kind f)) (body_in (width_of kind) f) parts) where
  abbrev width : ℕ
  width = width_of kind

  read : read_file width (hash_of kind) f ≡ good h.contents h.taken
  read = file-known kind f _ _ (sym (in-room work (read_kind kind f) (room_of _ _ _ _ h.read)) ∙ h.read) (λ ok e. e)

  pub name-place : (k : ℕ) → name_place width (entry_place width parts.version k (body_in width f)) (body_in width f) ≡ entry_name_place width k f
  unfolding entry_name_place
  name-place k = ap (λ v. name_place width (entry_place width v k (body_in width f)) (body_in width f)) (sym h.version ∙ (read-places width (hash_of kind) f _ _ read).0)

  -- the data of an extension
  data-of : (x : List ℕ) (at : ℕ) → at ≡ data_place x parts.end (body_in width f) → at ≡ data_of width x f
  unfolding data_of
  data-of x at e = e ∙ ap (λ n. data_place x n (body_in width f)) (sym h.end ∙ (read-places width (hash_of kind) f _ _ read).1)

  module _ (k : ℕ) where
    pub node-place : IfSome parts.found.tree (λ p. p.at + node_start width k (data_in p.at (body_in width f)) ≡ node_place width k f)
    unfolding node_place
    node-place = IfSome_then parts.found.tree h.tree_at (λ p at. ap (λ n. n + node_start width k (data_in n (body_in width f))) (data-of TREE _ at))

    pub undo-place : IfSome parts.found.undo (λ p. p.at + undo_start width 0 k [] (data_in p.at (body_in width f)) ≡ undo_place width k f)
    unfolding undo_place
    undo-place = IfSome_then parts.found.undo h.undo_at (λ p at. ap (λ n. n + undo_start width 0 k [] (data_in n (body_in width f))) (data-of REUC _ at))
