-- Laws of the first name ahead.
use mathlib.Core.Path.{◌≡◌, sym, ap, ◌∙◌}
use mathlib.Core.List.{List}
use mathlib.Core.Bool.{true}
use Prim.Native.Nat.{ℕ, ◌+◌, ◌≤◌}
use native.Mathlib.Omega.{arith}
use lib.ListN.{length, drop, length-drop}
use borrow.Author.Tests.{eq-eqb}
use Rattle.format.specs.Bytes.{before, lacks}
use Rattle.format_laws.proofs.Texts.{lacks-end}
use Rattle.entries_run.specs.Steps.{name_at}
use Rattle.entries_run.proofs.Names.{name_at-length}
use Rattle.entries_directory.specs.declared.Front.{Front}
use Rattle.entries_directory.specs.Ahead.{FrontFits}

-- a name with no "/" after its first k bytes is that of a file
pub name-file : (x : List ℕ) (k e : ℕ) → e ≡ k + before 47 (drop k x) → k ≤ length x → e ≡ length x → lacks 47 (drop k x) ≡ true
name-file x k e is l h = sym (lacks-end 47 (drop k x)) ∙ eq-eqb (before 47 (drop k x)) (length (drop k x)) (omega (arith, length-drop k x))

-- its length
pub fits-length : (v : ℕ) (b work : List ℕ) (s : Front) → FrontFits b s → 8192 ≤ length work → (x : List ℕ) → x ≡ name_at v b work s.cursor.start s.cursor.len
    → length x ≡ s.cursor.len
fits-length v b work s fits room x named = ap length named ∙ name_at-length v b work s.cursor fits.inside room
