-- Laws of the next component of a name.
use Rattle.std.proofs.Common.{Option, Some, None}
use mathlib.Core.Path.{◌≡◌, sym, ap, subst, ◌∙◌}
use mathlib.Core.List.{List}
use mathlib.Core.Bool.{true}
use Prim.Native.Nat.{ℕ, ◌+◌, ◌-◌, ◌≤◌, ◌<◌}
use native.Mathlib.Omega.{arith}
use lib.ListN.{length, take, drop, length-take, length-drop}
use borrow.Author.Tests.{ne_eqb}
use Rattle.format.specs.Bytes.{before}
use Rattle.format.specs.Records.{Forest}
use Rattle.format.specs.Layout.{distinct}
use Rattle.format_laws.proofs.Texts.{lacks-end}
use Rattle.entries_run.specs.Steps.{name_at}
use Rattle.tree_counts.specs.Counts.{child}
use Rattle.tree_nodes.specs.Flat.{Reads}
use Rattle.entries_directory.specs.declared.Front.{Front}
use Rattle.tree_check.specs.declared.look.Subdirectory.{Subdirectory}
use Rattle.tree_search.specs.Siblings.{FoundAt, Sought, Finds}
use Rattle.entries_directory.specs.Ahead.{FrontFits}
use Rattle.tree_check.specs.Components.{component, Component, LookedUp}
use Rattle.entries_directory.proofs.First.{name-file, fits-length}

-- ---- in the name x, whose first "/" after k bytes is at e
module _ (w : ℕ) (x : List ℕ) (k e : ℕ) (is : e ≡ k + before 47 (drop k x)) where
  pub component-is : take (e - k) (drop k x) ≡ component (drop k x)
  unfolding component
  component-is = let i : e - k ≡ before 47 (drop k x) = omega arith in rw i

  pub name-component : k ≤ length x → e < length x → Component k x (e + 1)
  name-component l h =
      let n : length (drop k x) ≡ length x - k = length-drop k x in
      let m : length (component (drop k x)) ≡ e - k = ap length (sym component-is) ∙ simp length-take (omega arith) in
      let more : before 47 (drop k x) ≡ length (drop k x) → ⊥ = λ z. omega (arith, z) in
      record { slash = sym (lacks-end 47 (drop k x)) ∙ ne_eqb (before 47 (drop k x)) (length (drop k x)) more; ends = omega arith }

  -- what a look at it answers
  module _ (d : List ℕ) (at siblings : ℕ) (l : k ≤ length x) where
    pub look-file : e ≡ length x → LookedUp w d at siblings x (length x) k None
    look-file h = record { most = omega arith; within = omega arith; is = λ f m differ r. name-file x k e is l h }

    module _ (more : e < length x) where
      abbrev Says : Option ℕ → Type 0
      Says r = (f : Forest) (m : ℕ) → distinct f ≡ true → Reads w (drop at d) f siblings m → Sought w d f (take (e - k) (drop k x)) r

      look-missing : Says None → LookedUp w d at siblings x (length x) k (Some (record { end = e + 1; node = None }))
      look-missing t = record {
        most = omega arith;
        within = omega arith;
        is = λ f m differ r. (name-component l more, ap (λ (c : List ℕ). child c f) (sym component-is) ∙ t f m differ r);
      }

      look-found : (p : ℕ) → p ≤ length d → Says (Some p) → LookedUp w d at siblings x (length x) k (Some (record { end = e + 1; node = Some p }))
      look-found p most t = record {
        most = most;
        within = omega arith;
        is = λ f m differ r. (name-component l more, subst (λ (c : List ℕ). FoundAt w d f c p) component-is (t f m differ r));
      }

      pub look-child : (r : Option ℕ) → Finds w d at siblings (take (e - k) (drop k x)) r → LookedUp w d at siblings x (length x) k (Some (record { end = e + 1; node = r }))
      look-child None t = look-missing t.is
      look-child (Some p) t = look-found p t.most t.is

-- ---- in the first name ahead, x

module _ (w : ℕ) (v : ℕ) (b work : List ℕ) (s : Front) (fits : FrontFits b s) (room : 8192 ≤ length work) (x : List ℕ) (named : x ≡ name_at v b work s.cursor.start s.cursor.len) where
  same_length : length x ≡ s.cursor.len
  same_length = fits-length v b work s fits room x named

  module _ (q : ℕ) (l : q ≤ s.cursor.len) (e : ℕ) (is : e ≡ q + before 47 (drop q x)) (d : List ℕ) (at siblings : ℕ) where
    -- what a look at it answers
    abbrev Answers : Option Subdirectory → Type 0
    Answers r = LookedUp w d at siblings (name_at v b work s.cursor.start s.cursor.len) s.cursor.len q r

    pub ahead-file : e ≡ length x → Answers None
    ahead-file h = rw (← named, ← same_length) (look-file w x q e is d at siblings (omega (arith, same_length)) h)

    pub ahead-child : (e ≡ length x → ⊥) → e ≤ length x → (r : Option ℕ) → Finds w d at siblings (take (e - q) (drop q x)) r → Answers (Some (record { end = e + 1; node = r }))
    ahead-child other most r t = rw (← named, ← same_length) (look-child w x q e is d at siblings (omega (arith, same_length)) (omega arith) r t)
