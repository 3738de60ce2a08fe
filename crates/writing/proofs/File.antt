-- SoundRecords records spell the file that is written of them, so it is read back as these records; and records that spell a file are sound.
use mathlib.Core.Path.{◌≡◌, refl, ap, ◌∙◌}
use mathlib.Core.Logic.{inl}
use mathlib.Core.List.{List, [], ◌∷◌, ◌++◌, append_assoc, append-nil}
use mathlib.Core.Option.{Option, none, some}
use Prim.Native.Nat.{ℕ, ◌+◌, ◌≤◌, ◌<◌}
use native.Mathlib.Omega.{arith}
use lib.ListN.{length, length-append}
use Rattle.format.specs.Bytes.{Bytes, put32}
use Rattle.format.specs.Records.{Tree, Undo, Records}
use Rattle.format.specs.Layout.{Extension, cache_tree, resolve_undo, other, TREE, REUC, DIRC, Says, IsExtension, Extensions, extensions_end, extensions_more, trees, undos, only, names, Body, Spells}
use Rattle.format.specs.Checksum.{matches}
use Rattle.format.specs.Reading.{good}
use Rattle.format.specs.Reader.{Contents, read_file}
use Rattle.format.specs.Writer.{write_entries, write_tree, write_undos, write_extension, write_cache_tree, write_resolve_undo, write_extensions, write_header, write_body, write_file}
use Rattle.spelling.proofs.Checksums.{digest-matches}
use Rattle.spelling.proofs.File.{spelled-read, read-spelled}
use Rattle.writing.specs.Sound.{SoundTree, SoundUndos, SoundRecords, Writable}
use Rattle.writing.proofs.Entries.{entries-written, entries-long, entries-sound}
use Rattle.writing.proofs.Tree.{tree-written, tree-sound}
use Rattle.writing.proofs.Undo.{undos-written, undos-sound}

-- ---- extensions

-- those that are written
abbrev undo_part : Option (List Undo) → List Extension
undo_part none = []
undo_part (some us) = resolve_undo us ∷ []

abbrev tree_part : Option Tree → List Extension → List Extension
tree_part none xs = xs
tree_part (some t) xs = cache_tree t ∷ xs

parts-trees : (o : Option Tree) (q : Option (List Undo)) → trees (tree_part o (undo_part q)) ≡ only o
unfolding trees
parts-trees none none = refl
parts-trees none (some us) = refl
parts-trees (some t) none = refl
parts-trees (some t) (some us) = refl

parts-undos : (o : Option Tree) (q : Option (List Undo)) → undos (tree_part o (undo_part q)) ≡ only q
unfolding undos
parts-undos none none = refl
parts-undos none (some us) = refl
parts-undos (some t) none = refl
parts-undos (some t) (some us) = refl

module _ (w : ℕ) (ns : List (List ℕ)) where
  extension-written : (x : Extension) (s d : List ℕ) → Says w ns x s d → length (write_extension s d) < 4294967296 → IsExtension w ns x (write_extension s d)
  unfolding write_extension
  extension-written x s d says short = record {
    signature = s;
    content = d;
    says = says;
    fits = omega (arith, length-append s (put32 (length d) ++ d), length-append (put32 (length d)) d);
    bytes = refl;
  }

  undo-written : (q : Option (List Undo)) → ((us : List Undo) → q ≡ some us → SoundUndos w [] us) → length (write_resolve_undo q) < 4294967296
      → Extensions w ns (undo_part q) (write_resolve_undo q)
  unfolding write_resolve_undo
  undo-written none sound short = extensions_end
  undo-written (some us) sound short =
      let x : IsExtension w ns (resolve_undo us) (write_extension REUC (write_undos us)) =
      extension-written (resolve_undo us) REUC (write_undos us) (refl, undos-written (sound us refl)) short in
      rw append-nil at (extensions_more x extensions_end)

  -- in front of others
  tree-first : (o : Option Tree) {xs : List Extension} {b : List ℕ} → ((t : Tree) → o ≡ some t → SoundTree w ns t) → length (write_cache_tree o) < 4294967296
      → Extensions w ns xs b → Extensions w ns (tree_part o xs) (write_cache_tree o ++ b)
  unfolding write_cache_tree
  tree-first none sound short rest = rest
  tree-first (some t) sound short rest =
      let h : SoundTree w ns t = sound t refl in
      extensions_more (extension-written (cache_tree t) TREE (write_tree t) (refl, tree-written h, h.counts) short) rest

-- ---- the file

body-written : (w v : ℕ) (r : Records) → Writable w v r → length (write_body w v r) < 4294967296 → Body w r (write_body w v r)
unfolding write_body write_header write_extensions
body-written w v r h short =
    let n : ℕ = length r.entries in
    let a : List ℕ = write_entries w v [] r.entries in
    let t : List ℕ = write_cache_tree r.cache_tree in
    let u : List ℕ = write_resolve_undo r.resolve_undo in
    let entries = entries-written w v h.sound.entries h.no_word in
    let size : length (write_body w v r) ≡ length (DIRC ++ (put32 v ++ put32 n)) + (length a + (length t + length u)) = simp length-append in
    record {
      version = v;
      two_to_four = h.two_to_four;
      few = omega (arith, entries-long entries);
      entry_bytes = a;
      extension_bytes = t ++ u;
      extensions = tree_part r.cache_tree (undo_part r.resolve_undo);
      entries_are = entries;
      extensions_are =
          tree-first w (names r.entries) r.cache_tree h.sound.cache_tree (omega arith)
          (undo-written w (names r.entries) r.resolve_undo h.sound.resolve_undo (omega arith));
      tree_is = parts-trees r.cache_tree r.resolve_undo;
      undo_is = parts-undos r.cache_tree r.resolve_undo;
      bytes = simp append_assoc;
    }

-- what is written is spelled
pub written-spelled : (w : ℕ) (hash : List ℕ → List ℕ) (v : ℕ) (r : Records) → Writable w v r → length (write_file w hash v r) ≤ 16777216
    → Spells w hash r (write_file w hash v r)
unfolding write_file
written-spelled w hash v r h short =
    let b : List ℕ = write_body w v r in
    record {
      body = write_body w v r;
      body_is = body-written w v r h (omega (arith, length-append b (hash b)));
      checksum = hash b;
      right_or_left_out = inl refl;
      file_is = refl;
      short = short;
    }

-- so it is read back, as of the version v
pub read-written : (w : ℕ) (hash : List ℕ → List ℕ) → ((b : List ℕ) → length (hash b) ≡ w) → (v : ℕ) (r : Records) → Writable w v r
    → length (write_file w hash v r) ≤ 16777216
    → read_file w hash (write_file w hash v r)
    ≡ good (record { version = v; checksum = matches; end = 12 + length (write_entries w v [] r.entries); records = r }) (length (write_body w v r))
unfolding written-spelled body-written
read-written w hash width v r h short =
    rw (digest-matches (hash (write_body w v r))) at (spelled-read w hash width r (write_file w hash v r) (written-spelled w hash v r h short))

-- ---- what is spelled is sound

module _ {w : ℕ} {ns : List (List ℕ)} where
  tree-among : {xs : List Extension} {a : List ℕ} → Extensions w ns xs a → (t : Tree) → trees xs ≡ t ∷ [] → SoundTree w ns t
  unfolding trees
  tree-among extensions_end t e = let z : ◌≡◌ {A = ℕ} 0 1 = cc in absurd (omega arith)
  tree-among (extensions_more {x = cache_tree t₁} h rest) t e =
      let same : t₁ ≡ t = cc in
      rw (← same) (tree-sound h.says.1 h.says.2)
  tree-among (extensions_more {x = resolve_undo us} h rest) t e = tree-among rest t e
  tree-among (extensions_more {x = other s d} h rest) t e = tree-among rest t e

  undo-among : {xs : List Extension} {a : List ℕ} → Extensions w ns xs a → (us : List Undo) → undos xs ≡ us ∷ [] → SoundUndos w [] us
  unfolding undos
  undo-among extensions_end us e = let z : ◌≡◌ {A = ℕ} 0 1 = cc in absurd (omega arith)
  undo-among (extensions_more {x = cache_tree t} h rest) us e = undo-among rest us e
  undo-among (extensions_more {x = resolve_undo vs} h rest) us e =
      let same : vs ≡ us = cc in
      rw (← same) (undos-sound h.says.1)
  undo-among (extensions_more {x = other s d} h rest) us e = undo-among rest us e

pub spelled-sound : {w : ℕ} {hash : List ℕ → List ℕ} {r : Records} {f : List ℕ} → Spells w hash r f → SoundRecords w r
spelled-sound {r = r} h =
    let b = h.body_is in
    record {
      entries = entries-sound b.entries_are;
      cache_tree = λ t e. tree-among b.extensions_are t (b.tree_is ∙ ap only e);
      resolve_undo = λ us e. undo-among b.extensions_are us (b.undo_is ∙ ap only e);
    }

-- so are those of a file that was read
pub read-sound : (w : ℕ) (hash : List ℕ → List ℕ) → ((b : List ℕ) → length (hash b) ≡ w) → (f : List ℕ) (c : Contents) (m : ℕ) → Bytes f
    → read_file w hash f ≡ good c m → SoundRecords w c.records
read-sound w hash width f c m bytes q = spelled-sound (read-spelled w hash width f c m bytes q)
