-- The proof that `mode_ok` meets its contract.
use Rattle.std.proofs.Common.{◌≡◌, ℕ, false, inl, inr}
use borrow.Author.Tests.{ne_eqb}
use borrow.Author.Rules.{rules}
use Rattle.format.specs.Layout.{ok_mode}
use Rattle.entries.proofs.mode_ok.Goals as goal

pub returns-in-33188 : goal.returns-in-33188
unfolding ok_mode
returns-in-33188 c = elim c.in-33188.is [ inl e ↦ rw e | inr f ↦ elim f [ inl e ↦ rw e | inr g ↦ elim g [ inl e ↦ rw e | inr e ↦ rw e ] ] ]

refused : (m : ℕ) → (m ≡ 33188 → ⊥) → (m ≡ 33261 → ⊥) → (m ≡ 40960 → ⊥) → (m ≡ 57344 → ⊥) → false ≡ ok_mode m
unfolding ok_mode
refused m file executable link submodule = rw (ne_eqb _ _ file, ne_eqb _ _ executable, ne_eqb _ _ link, ne_eqb _ _ submodule)

pub returns-in_default : goal.returns-in_default
returns-in_default c = search (rules, refused)
