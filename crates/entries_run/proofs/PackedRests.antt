-- What the code answers for the rest of an entry of version 4.
use mathlib.Core.Path.{◌≡◌, refl, sym, ap, ◌∙◌}
use mathlib.Core.List.{List, ◌++◌, append_assoc}
use mathlib.Core.Bool.{Bool, true, false, cond, ◌&&◌}
use Prim.Native.Nat.{ℕ, ◌+◌, ◌-◌, ◌/◌, ◌%◌, ◌≤◌, ◌<◌}
use native.Mathlib.Omega.{arith}
use lib.ListN.{length, take, drop, length-append, length-drop}
use lib.Seq.{length-take-le, take-take, take_at, drop-append-add, drop-drop}
use lib.Dec.{eqb}
use borrow.Author.Tests.{eq-eqb, ne_eqb, eqb-true, lt-ltb, le-ltb}
use Rattle.std.specs.Prelude.{Ok, Err}
use Rattle.format.specs.declared.Refusal.{Refusal}
use Rattle.format.specs.declared.Refusal.TheVariants as R
use Rattle.format.specs.Refusals.{number_of}
use Rattle.format.specs.Bytes.{before}
use Rattle.format.specs.Names.{ok_name, length_field, compare, rises}
use Rattle.format.specs.Reading.{bad, good, need, shift, bind}
use Rattle.format.specs.Reader.{read_n, joined, read_suffix, read_packed, read_name}
use Rattle.format_laws.proofs.Tests.{false-true, and-inv}
use Rattle.format_laws.proofs.Names.{ok_name-over, common-le}
use Rattle.format_laws.proofs.Readings.{good-inv, need-inv, shift-need}
use Rattle.fields.specs.Begun.{Begun}
use Rattle.fields.specs.Workspace.{Frame}
use Rattle.fields.proofs.Beginnings.{begun-take, begun_kept}
use Rattle.fields.proofs.Workspace.{frame_same}
use Rattle.entries.specs.declared.Head.{Head}
use Rattle.entries.specs.declared.Number.{Number}
use Rattle.entries.specs.Answers.{n_of, Size}
use Rattle.entries.proofs.Names.{read_n-bad, read_n-good}
use Rattle.entries_run.specs.declared.Cursor.{Cursor}
use Rattle.entries_run.specs.declared.Standing.{Standing}
use Rattle.entries_run.specs.Steps.{name_at, KnownBegun, HeadAt, NumberAt, NameRebuilt, step_of, StepAnswered, StepTested, read_rest}
use Rattle.entries_run.proofs.Rests.{answered-bad, answered-good, repeated-good, name_read, rest-bad, rest-order, rest-good, rest-inv}

module _ (b work : List ℕ) (c : Cursor) (h : Head) (room : c.len ≤ length work) where
  name-packed : (p : ℕ)
      → name_read 4 b work c h p ≡ bind (read_n p c.len (drop (c.at + h.length) b)) (λ n m. read_suffix p (take c.len work) (h.flags % 4096) n (drop m (drop (c.at + h.length) b)))
  unfolding read_name read_packed name_at
  name-packed p = rw (length-take-le c.len work room)

  pub packed-bad : (w : ℕ) (r : Refusal) → ((p : ℕ) → Err (number_of r) ≡ n_of (read_n p c.len (drop (c.at + h.length) b)))
      → StepAnswered w (read_rest w 4 b work c h) 4 b work c work (Err r)
  unfolding bind
  packed-bad w r e =
      answered-bad w _ 4 b work c work (frame_same work) (λ q. refl) r λ p.
      rest-bad w 4 b work c h p (number_of r) (name-packed p ∙ rw (read_n-bad p _ _ (number_of r) (sym (e p))))

pub number_at : (b work : List ℕ) (c : Cursor) (h : Head) (x : Number) → HeadAt b c h → ((p : ℕ) → Ok x ≡ n_of (read_n p c.len (drop (c.at + h.length) b)))
    → x.value ≤ c.len → c.at + h.length + x.taken ≤ length b → 8192 ≤ length work → NumberAt b work c h x.value x.taken
number_at b work c h x q e fits more room = record { head = q; number = λ p. read_n-good p _ _ x (sym (e p)); fits = fits; more = more; room = room }

-- where the name's own bytes begin, after the number n, in took bytes
abbrev from : Cursor → Head → ℕ → ℕ
from c h took = c.at + h.length + took

-- its own bytes, where the first NUL is at z; how long the name is; the name
abbrev own : List ℕ → Cursor → Head → ℕ → ℕ → List ℕ
own b c h took z = take (z - from c h took) (drop (from c h took) b)

abbrev new_length : Cursor → Head → ℕ → ℕ → ℕ → ℕ
new_length c h n took z = c.len - n + (z - from c h took)

abbrev new : List ℕ → List ℕ → Cursor → Head → ℕ → ℕ → ℕ → List ℕ
new b work c h n took z = take (c.len - n) work ++ own b c h took z

-- the number and the first NUL are read
pub record Ended (b work : List ℕ) (c : Cursor) (h : Head) (n took z : ℕ) : Type 0 where
  pub numbered : NumberAt b work c h n took
  pub is_z : z ≡ c.at + h.length + took + before 0 (drop (c.at + h.length + took) b)
  pub within : z ≤ length b

-- the name is rebuilt in the workspace
pub record Copied (b work : List ℕ) (c : Cursor) (h : Head) (n took z : ℕ) (work' : List ℕ) (d : Standing) : Type 0 where
  pub ended : Ended b work c h n took z
  pub inside : z ≡ length b → ⊥
  pub short : c.len - n + (z - (c.at + h.length + took)) ≤ 8192
  pub rebuilt : NameRebuilt work c.len n (take (z - (c.at + h.length + took)) (drop (c.at + h.length + took) b)) c.stage (h.flags / 4096 % 4) work' d

module _ (b work : List ℕ) (c : Cursor) (h : Head) (n took z : ℕ) (q : Ended b work c h n took z) where
  size : length (drop (from c h took) b) ≡ length b - from c h took
  size = length-drop (from c h took) b

  name_is : joined (take c.len work) n (drop (from c h took) b) ≡ new b work c h n took z
  unfolding joined
  name_is =
      let e : before 0 (drop (from c h took) b) ≡ z - from c h took = omega (arith, q.is_z) in
      let l : c.len ≤ length work = omega arith in
      let k : c.len - n ≤ c.len = omega arith in
      rw (length-take-le c.len work l, take-take (c.len - n) c.len work k, e)

  length-new : length (new b work c h n took z) ≡ new_length c h n took z
  length-new =
      let k : c.len - n ≤ length work = omega arith in
      let l : z - from c h took ≤ length (drop (from c h took) b) = omega (arith, size) in
      rw (length-append, length-take-le (c.len - n) work k, length-take-le (z - from c h took) (drop (from c h took) b) l)

  name-suffix : (p : ℕ) → name_read 4 b work c h p ≡ shift took (read_suffix p (take c.len work) (h.flags % 4096) n (drop (from c h took) b))
  unfolding bind
  name-suffix p =
      let l : c.len ≤ length work = omega arith in
      name-packed b work c h l p ∙ rw (q.numbered.number p, drop-drop took (c.at + h.length) b)

  module _ (w : ℕ) where
    pub suffix-cut : z ≡ length b → StepAnswered w (read_rest w 4 b work c h) 4 b work c work (Err R.EntryCut)
    unfolding read_suffix need shift
    suffix-cut e =
        let l : length (drop (from c h took) b) ≤ before 0 (drop (from c h took) b) = omega (arith, size) in
        answered-bad w _ 4 b work c work (frame_same work) (λ v. refl) R.EntryCut λ p.
        rest-bad w 4 b work c h p 6 (name-suffix p ∙ rw (le-ltb _ _ l))

  module _ (inside : z ≡ length b → ⊥) where
    name-from : (p : ℕ)
        → name_read 4 b work c h p
        ≡ need (ok_name (new b work c h n took z) && eqb (h.flags % 4096) (length_field (new_length c h n took z))) 9 p
        (good (new b work c h n took z) (z + 1 - (c.at + h.length)))
    unfolding read_suffix need shift
    name-from p =
        let l : before 0 (drop (from c h took) b) < length (drop (from c h took) b) = omega (arith, size) in
        let k : took + (before 0 (drop (from c h took) b) + 1) ≡ z + 1 - (c.at + h.length) = omega arith in
        name-suffix p ∙ rw (lt-ltb _ _ l, name_is, length-new, shift-need, k)

    module _ (w : ℕ) where
      name-bad : (p : ℕ) → ok_name (new b work c h n took z) ≡ false → read_rest w 4 b work c h p ≡ bad 9 p
      unfolding need
      name-bad p e = rest-bad w 4 b work c h p 9 (name-from p ∙ rw e)

      pub suffix-long : 8192 < new_length c h n took z → StepAnswered w (read_rest w 4 b work c h) 4 b work c work (Err R.EntryName)
      suffix-long e =
          let over : 8192 < length (new b work c h n took z) = omega (arith, length-new) in
          answered-bad w _ 4 b work c work (frame_same work) (λ v. refl) R.EntryName (λ p. name-bad p (ok_name-over _ over))

module _ (b work : List ℕ) (c : Cursor) (h : Head) (n took z : ℕ) (work' : List ℕ) (d : Standing) (r : Copied b work c h n took z work' d) where
  long-new : length (new b work c h n took z) ≡ new_length c h n took z
  long-new = length-new b work c h n took z r.ended

  held : work' ≡ new b work c h n took z ++ drop (length (new b work c h n took z)) work
  held =
      let k : length (new b work c h n took z) ≡ c.len - n + length (own b c h took z) = rw (length-append, length-take-le (c.len - n) work (omega arith)) in
      r.rebuilt.held ∙ rw (k, append_assoc (take (c.len - n) work) (own b c h took z))

  shown : name_at 4 b work' 0 (new_length c h n took z) ≡ new b work c h n took z
  unfolding name_at
  shown = rw held (take_at (new b work c h n took z) _ _ long-new)

  frame : Frame work work'
  frame =
      let s : List ℕ = new b work c h n took z in
      let e : 8192 ≡ length s + (8192 - length s) = omega (arith, long-new) in
      record {
        long = rw (held, length-append s, length-drop (length s) work) (omega (arith, long-new));
        past =
            rw held
            (ap (λ (k : ℕ). drop k (s ++ drop (length s) work)) e ∙ drop-append-add s (drop (length s) work) (8192 - length s) ∙ drop-drop (8192 - length s) (length s) work
            ∙ ap (λ (k : ℕ). drop k work) (sym e));
      }

  -- what is kept of a sound name begins a sound one
  pub kept-begun : (known : Bool) → KnownBegun known (take c.len work)
      → (cond known (c.len - n) 0 ≤ length (take (new_length c h n took z) work')) × Begun (take (cond known (c.len - n) 0) (take (new_length c h n took z) work'))
  unfolding name_at
  kept-begun known sound =
      let size : length (take (c.len - n) work) ≡ c.len - n = length-take-le (c.len - n) work (omega arith) in
      let same : take (c.len - n) (take (new_length c h n took z) work') ≡ take (c.len - n) (take c.len work) =
      ap (take (c.len - n)) shown ∙ take_at (take (c.len - n) work) _ _ size ∙ sym (take-take (c.len - n) c.len work (omega arith)) in
      begun_kept known _ _ (omega (arith, ap length shown, long-new)) (λ e. rw same (begun-take (c.len - n) (take c.len work) (sound e)))

  order_is : d.rises ≡ rises (compare (name_at 4 b work c.start c.len) (new b work c h n took z)) c.stage (h.flags / 4096 % 4)
  unfolding name_at
  order_is = r.rebuilt.rises

  module _ (w : ℕ) where
    refused : (m : Refusal) → ((p : ℕ) → read_rest w 4 b work c h p ≡ bad (number_of m) p) → StepAnswered w (read_rest w 4 b work c h) 4 b work c work' (Err m)
    refused m e = answered-bad w _ 4 b work c work' frame (λ v. false-true (sym v)) m e

    pub suffix-name : ok_name (take (new_length c h n took z) work') ≡ false → StepAnswered w (read_rest w 4 b work c h) 4 b work c work' (Err R.EntryName)
    unfolding name_at
    suffix-name e = refused R.EntryName (λ p. name-bad b work c h n took z r.ended r.inside w p (ap ok_name (sym shown) ∙ e))

    module _ (ok : ok_name (take (new_length c h n took z) work') ≡ true) where
      sound : ok_name (new b work c h n took z) ≡ true
      unfolding name_at
      sound = ap ok_name (sym shown) ∙ ok

      pub suffix-field : (h.flags % 4096 ≡ length_field (new_length c h n took z) → ⊥) → StepAnswered w (read_rest w 4 b work c h) 4 b work c work' (Err R.EntryName)
      unfolding need
      suffix-field e = refused R.EntryName (λ p. rest-bad w 4 b work c h p 9 (name-from b work c h n took z r.ended r.inside p ∙ rw (sound, ne_eqb _ _ e)))

      module _ (counted : h.flags % 4096 ≡ length_field (new_length c h n took z)) where
        named : (p : ℕ) → name_read 4 b work c h p ≡ good (new b work c h n took z) (z + 1 - (c.at + h.length))
        unfolding need
        named p = name-from b work c h n took z r.ended r.inside p ∙ rw (sound, eq-eqb _ _ counted)

        pub suffix-order : d.rises ≡ false → StepAnswered w (read_rest w 4 b work c h) 4 b work c work' (Err R.EntryOrder)
        suffix-order e = refused R.EntryOrder (λ p. rest-order w 4 b work c h p _ _ (named p) (sym order_is ∙ e))

        pub suffix-good : Size w (drop c.at b) h → d.rises ≡ true
            → StepAnswered w (read_rest w 4 b work c h) 4 b work c work'
            (Ok (step_of h d.common (z + 1) 0 (new_length c h n took z)))
        suffix-good sized e =
            let q : HeadAt b c h = r.ended.numbered.head in
            let taken : h.length + (z + 1 - (c.at + h.length) + 0) ≡ z + 1 - c.at = omega arith in
            answered-good w _ 4 b work c work' frame (λ v. false-true (sym v)) _ (λ p. rest-good w 4 b work c h p _ _ (named p) (sym order_is ∙ e) ∙ rw (shown, taken))
            (record {
              next = record { small = q.cursor.small; inside = omega (arith, r.inside); behind = omega arith; short = r.short };
              flags = sized.flags;
              head = sized.is;
              least = sized.least;
              begins = λ v. false-true (sym v);
              ahead = omega arith;
              stage = refl;
              common = r.rebuilt.common ∙ unfold name_at in rw shown;
            })

    -- of an entry that was read before
    pub suffix-passed : Size w (drop c.at b) h → StepTested w true (read_rest w 4 b work c h) 4 b work c work' (Ok (step_of h d.common (z + 1) 0 (new_length c h n took z)))
    unfolding name_at
    suffix-passed sized =
        let q : HeadAt b c h = r.ended.numbered.head in
        let few = (common-le (take c.len work) (new b work c h n took z)).1 in
        record {
          first = λ e. false-true (sym e);
          later =
              repeated-good w _ 4 b work c work' _
              (λ p e m read.
              rest-inv w 4 b work c h p e m read λ name j named order.
              need-inv _ _ _ _ _ _ (sym (name-from b work c h n took z r.ended r.inside p) ∙ named) λ tests made.
              good-inv _ _ _ _ made λ is taken.
              let (ok, counted) = and-inv (ok_name (new b work c h n took z)) (eqb (h.flags % 4096) (length_field (new_length c h n took z))) tests in
              suffix-good (ap ok_name shown ∙ ok) (eqb-true _ _ counted) sized (order_is ∙ rw is order))
              (record { small = q.cursor.small; inside = omega (arith, r.inside); behind = omega arith; short = r.short })
              (omega (arith, few, r.rebuilt.common, long-new))
              frame;
        }
