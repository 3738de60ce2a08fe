-- The body that is written: its parts, how many entries it tells, its length in each version.
use mathlib.Core.Path.{◌≡◌, refl, sym, ◌∙◌}
use mathlib.Core.List.{List, [], ◌∷◌, ◌++◌}
use mathlib.Core.Bool.{true, false}
use Prim.Native.Nat.{ℕ, ◌+◌, ◌≤◌}
use native.Mathlib.Omega.{arith}
use lib.ListN.{length, take, drop, length-append, length-drop}
use lib.Seq.{length-take-le}
use lib.Dec.{eqb}
use Rattle.format.specs.Records.{Entry, Records}
use Rattle.format.specs.Writer.{write_name, write_rest, write_entry, write_entries, write_cache_tree, write_resolve_undo, write_extensions, write_header, write_body}
use Rattle.output.specs.Output.{Wrote}
use Rattle.output.proofs.Laws.{wrote_then}
use Rattle.file_read.specs.declared.Parts.{Parts}
use Rattle.entries_edit.specs.declared.Edit.{Edit}
use Rattle.entries_edit.specs.declared.Edit.TheVariants as E
use Rattle.entries_edit.specs.Edits.{edited, passes}
use Rattle.file_write.specs.Bodies.{changes, tree_after, changed, count_after}
use Rattle.file_write.proofs.Extensions.{header-length}

-- ---- how many entries there are afterwards

module _ (e : Entry) (es : List Entry) where
  pub count-edited : (edit : Edit) → passes edit ≤ length es → count_after edit (length es) ≡ length (edited edit e es)
  count-edited E.Keep h = refl
  count-edited (E.Put k true) h =
      sym (length-append (take k es) (e ∷ drop (k + 1) es) ∙ omega (arith, length-take-le k es (omega arith), length-drop (k + 1) es))
  count-edited (E.Put k false) h =
      sym (length-append (take k es) (e ∷ drop (k + 0) es) ∙ omega (arith, length-take-le k es (omega arith), length-drop (k + 0) es))
  count-edited (E.Remove k) h = sym (length-append (take k es) (drop (k + 1) es) ∙ omega (arith, length-take-le k es (omega arith), length-drop (k + 1) es))

pub count_is : (e : Entry) (edit : Edit) (parts : Parts) (r : Records) → length r.entries ≡ parts.count → passes edit ≤ parts.count
    → (n : ℕ) → n ≡ count_after edit parts.count → n ≡ length (edited edit e r.entries)
count_is e edit parts r counted reach n is = is ∙ rw (← counted) (count-edited e r.entries edit (rw counted reach))

pub changed-entries : (w : ℕ) (edit : Edit) (e : Entry) (r : Records) → (changed w edit e r).entries ≡ edited edit e r.entries
unfolding changed
changed-entries w edit e r = refl

-- ---- the parts of a body, one after another

module _ (w version : ℕ) (edit : Edit) (e : Entry) (r : Records) (out out₁ out₂ out₃ out' : List ℕ) (count p q s t : ℕ) where
  pub body-wrote :
      count ≡ length (edited edit e r.entries) →
      Wrote out 0 (write_header version count) out₁ p →
      Wrote out₁ p (write_entries w version [] (edited edit e r.entries)) out₂ q →
      Wrote out₂ q (write_cache_tree (tree_after w (changes edit) e.name r.cache_tree)) out₃ s →
      Wrote out₃ s (write_resolve_undo r.resolve_undo) out' t →
      Wrote out 0 (write_body w version (changed w edit e r)) out' t
  unfolding write_body write_extensions changed
  body-wrote n x y z u =
      let header : Wrote out 0 (write_header version (length (edited edit e r.entries))) out₁ p = rw n at x in
      let last = wrote_then out₂ _ _ out₃ out' q s t z u in
      let rest = wrote_then out₁ _ _ out₂ out' p q t y last in wrote_then out _ _ out₁ out' 0 p t header rest

-- ---- the length of a body: only whether the version is 4 matters

entries-same-length : (w v u : ℕ) (previous : List ℕ) (es : List Entry) → eqb v 4 ≡ eqb u 4 → write_entries w v previous es ≡ write_entries w u previous es
unfolding write_entries write_entry write_rest write_name
entries-same-length w v u previous [] h = refl
entries-same-length w v u previous (e ∷ es) h = rw (h, entries-same-length w v u e.name es h)

pub body-same-length : (w v u : ℕ) (r : Records) → eqb v 4 ≡ eqb u 4 → length (write_body w v r) ≡ length (write_body w u r)
unfolding write_body
body-same-length w v u r h =
    let n : ℕ = length r.entries in
    let rest : List ℕ = write_entries w u [] r.entries ++ write_extensions r in
    rw (entries-same-length w v u [] r.entries h)
    (omega (arith, header-length v n, header-length u n, length-append (write_header v n) rest, length-append (write_header u n) rest))
