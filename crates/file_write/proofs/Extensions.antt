-- The header and the extensions that are written.
use mathlib.Core.Path.{◌≡◌, refl, sym, ◌∙◌}
use mathlib.Core.List.{List, [], ◌++◌, append_assoc}
use mathlib.Core.Bool.{Bool, true, false, cond}
use mathlib.Core.Option.{Option, none, some}
use Prim.Native.Nat.{ℕ, ◌+◌, ◌-◌, ◌≤◌}
use native.Mathlib.Omega.{arith}
use lib.ListN.{length, length-append}
use Rattle.format.specs.Bytes.{put32}
use Rattle.format.specs.Records.{Tree, Undo}
use Rattle.format.specs.Layout.{TREE, REUC, DIRC, distinct}
use Rattle.format.specs.Reading.{good}
use Rattle.format.specs.Reader.{read_nodes}
use Rattle.format.specs.Writer.{write_tree, write_undos, write_extension, write_cache_tree, write_resolve_undo, write_header}
use Rattle.format.specs.Requests.{invalid_tree, invalid_cache_tree}
use Rattle.format_laws.proofs.Lists.{part_length}
use Rattle.format_laws.proofs.Numbers.{length-put32}
use Rattle.writing.proofs.Copies.{undos-copied}
use Rattle.std.specs.Prelude.{Some, None}
use Rattle.extensions.specs.declared.Place.{Place}
use Rattle.extensions.specs.Heads.{part}
use Rattle.extensions.specs.Found.{TreeFound, UndoFound}
use Rattle.output.specs.Output.{Wrote}
use Rattle.output.proofs.Laws.{wrote_nothing, wrote_then, wrote-before}
use Rattle.file_write.specs.Bodies.{tree_after, SiblingsDiffer}

-- ---- the header

pub header-wrote : (out out₁ out₂ out' : List ℕ) (v count p q r : ℕ) → Wrote out 0 DIRC out₁ p → Wrote out₁ p (put32 v) out₂ q → Wrote out₂ q (put32 count) out' r
    → Wrote out 0 (write_header v count) out' r
unfolding write_header
header-wrote out out₁ out₂ out' v count p q r x y z =
    wrote_then out DIRC (put32 v ++ put32 count) out₁ out' 0 p r x (wrote_then out₁ (put32 v) (put32 count) out₂ out' p q r y z)

pub header-length : (v count : ℕ) → length (write_header v count) ≡ 12
unfolding write_header
header-length v count = simp length-append (omega (arith, length-put32 v, length-put32 count))

-- ---- data in the body

-- data from a to e
pub record Within (b : List ℕ) (a e : ℕ) : Type 0 where
  pub order : a ≤ e
  pub inside : e ≤ length b

-- ---- the head of an extension, in front of its data, of which the size is known after they are written

pub head-length : (signature : List ℕ) (n : ℕ) → length signature ≡ 4 → length (signature ++ put32 n) ≡ 8
head-length signature n four = length-append signature (put32 n) ∙ omega (arith, length-put32 n)

extension-after : (signature content out out₁ out' : List ℕ) (at after r : ℕ) → length signature ≡ 4 → Wrote out (at + 8) content out₁ after
    → Wrote out₁ at (signature ++ put32 (after - (at + 8))) out' r → Wrote out at (write_extension signature content) out' after
unfolding write_extension
extension-after signature content out out₁ out' at after r four x y =
    let size : after - (at + 8) ≡ length content = omega (arith, x.end) in
    let n = head-length signature (length content) four in
    let y₁ : Wrote out₁ at (signature ++ put32 (length content)) out' r = rw size at y in
    let end : r ≡ at + 8 = omega (arith, y₁.end) in
    let y₂ : Wrote out₁ at (signature ++ put32 (length content)) out' (at + 8) = rw end at y₁ in
    rw append_assoc at (wrote-before out (signature ++ put32 (length content)) content out₁ out' at 8 after n x y₂)

-- ---- the cache tree

module _ (w : ℕ) (b name : List ℕ) where
  no-tree-text : (touched : Bool) → write_cache_tree (tree_after w touched name none) ≡ []
  unfolding write_cache_tree tree_after invalid_cache_tree
  no-tree-text true = refl
  no-tree-text false = refl

  pub no-tree-wrote : (touched : Bool) (out : List ℕ) (at : ℕ) (o : Option Tree) → TreeFound w b o None
      → Wrote out at (write_cache_tree (tree_after w touched name o)) out at
  no-tree-wrote touched out at none h = rw (no-tree-text touched) (wrote_nothing out at)
  no-tree-wrote touched out at (some s) h = absurd h

module _ (w : ℕ) (b name : List ℕ) (tree : Place) where
  pub tree-within : (o : Option Tree) → TreeFound w b o (Some tree) → Within b tree.at tree.end
  tree-within none h = absurd h
  tree-within (some s) h = record { order = h.order; inside = h.inside }

  -- what put_tree ensures of the data
  abbrev pub TreeWrote : Bool → List ℕ → ℕ → List ℕ → ℕ → Type 0
  TreeWrote touched out at out' r =
      (t : Tree) (m : ℕ) → read_nodes w 0 (part b tree.at tree.end) ≡ good t m → distinct t.subtrees ≡ true
      → Wrote out at (write_tree (cond touched (invalid_tree w name t) t)) out' r

  tree-text : (touched : Bool) (t : Tree) → write_cache_tree (tree_after w touched name (some t)) ≡ write_extension TREE (write_tree (cond touched (invalid_tree w name t) t))
  unfolding write_cache_tree tree_after invalid_cache_tree
  tree-text true t = refl
  tree-text false t = refl

  pub tree-grown : (touched : Bool) (out out₁ : List ℕ) (at after : ℕ) (o : Option Tree) → TreeFound w b o (Some tree) → SiblingsDiffer o
      → TreeWrote touched out at out₁ after → (at ≤ after) × (length out₁ ≡ length out)
  tree-grown touched out out₁ at after none h d wrote = absurd h
  tree-grown touched out out₁ at after (some s) h d wrote = let x = wrote s _ h.reads (d s refl) in (omega (arith, x.end), x.long)

  pub tree-wrote : (touched : Bool) (out out₁ out' : List ℕ) (at after r : ℕ) (o : Option Tree) → TreeFound w b o (Some tree) → SiblingsDiffer o
      → TreeWrote touched out (at + 8) out₁ after → Wrote out₁ at (TREE ++ put32 (after - (at + 8))) out' r
      → Wrote out at (write_cache_tree (tree_after w touched name o)) out' after
  tree-wrote touched out out₁ out' at after r none h d wrote y = absurd h
  tree-wrote touched out out₁ out' at after r (some s) h d wrote y = rw (tree-text touched s) (extension-after TREE _ out out₁ out' at after r refl (wrote s _ h.reads (d s refl)) y)

-- ---- resolve undo

module _ (w : ℕ) (b : List ℕ) where
  pub no-undo-wrote : (out : List ℕ) (at : ℕ) (o : Option (List Undo)) → UndoFound w b o None → Wrote out at (write_resolve_undo o) out at
  unfolding write_resolve_undo
  no-undo-wrote out at none h = wrote_nothing out at
  no-undo-wrote out at (some us) h = absurd h

module _ (w : ℕ) (b : List ℕ) (undo : Place) where
  pub undo-within : (o : Option (List Undo)) → UndoFound w b o (Some undo) → Within b undo.at undo.end
  undo-within none h = absurd h
  undo-within (some us) h = record { order = h.order; inside = h.inside }

  pub undo-wrote : (out out₁ out' : List ℕ) (at p r : ℕ) (o : Option (List Undo)) → UndoFound w b o (Some undo)
      → Wrote out at (REUC ++ put32 (undo.end - undo.at)) out₁ p → Wrote out₁ p (part b undo.at undo.end) out' r
      → Wrote out at (write_resolve_undo o) out' r
  unfolding write_resolve_undo write_extension
  undo-wrote out out₁ out' at p r none h x y = absurd h
  undo-wrote out out₁ out' at p r (some us) h x y =
      let d : List ℕ = part b undo.at undo.end in
      let copied : write_undos us ≡ d = (undos-copied w 0 (length d) d us (length d) h.reads).1 in
      let size : undo.end - undo.at ≡ length d = sym (part_length b undo.at undo.end h.inside) in
      let head : Wrote out at (REUC ++ put32 (length d)) out₁ p = rw size at x in
      rw (copied, ← append_assoc REUC (put32 (length d)) d) (wrote_then out (REUC ++ put32 (length d)) d out₁ out' at p r head y)
