-- What the code answers for the rest of an entry of version 2 or 3.
use mathlib.Core.Path.{◌≡◌, refl, sym, ap, ◌∙◌}
use mathlib.Core.List.{List}
use mathlib.Core.Bool.{Bool, true, false, cond}
use Prim.Native.Nat.{ℕ, ◌+◌, ◌-◌, ◌/◌, ◌%◌, ◌≤◌, ◌<◌}
use native.Mathlib.Omega.{arith}
use lib.ListN.{length, take, drop, length-take, length-drop}
use lib.Seq.{length-take-le, take-take}
use lib.Dec.{eqb}
use Rattle.std.specs.Prelude.{Ok, Err}
use Rattle.format.specs.declared.Refusal.{Refusal}
use Rattle.format.specs.declared.Refusal.TheVariants as R
use Rattle.format.specs.Refusals.{number_of, numbered}
use Rattle.format.specs.Names.{compare, common, rises}
use Rattle.format.specs.Records.{Entry}
use Rattle.format.specs.Reading.{good}
use Rattle.format.specs.Reader.{read_plain, read_name}
use Rattle.format_laws.proofs.Names.{ok_name-length, common-le}
use Rattle.format_laws.proofs.Readings.{good-inv}
use Rattle.spelling.proofs.Names.{name-read}
use Rattle.fields.specs.Begun.{Begun}
use Rattle.fields.proofs.Beginnings.{begun-common, begun_kept}
use Rattle.fields.proofs.Workspace.{frame_same}
use Rattle.entries.specs.declared.Head.{Head}
use Rattle.entries.specs.Answers.{text_of, NamePassed, Size}
use Rattle.entries.proofs.Names.{read_plain-bad, read_plain-good, plain-place, bad-text}
use Rattle.entries_run.specs.declared.Cursor.{Cursor}
use Rattle.entries_run.specs.declared.Standing.{Standing}
use Rattle.entries_run.specs.Steps.{name_at, KnownBegun, HeadAt, StandingOf, step_of, StepAnswered, StepRepeated, read_rest}
use Rattle.entries_run.proofs.Names.{name_at-plain}
use Rattle.entries_run.proofs.Rests.{answered-bad, answered-good, repeated-good, repeated-bad, name_read, rest-bad, rest-order, rest-good, rest-inv}

-- what the name of n bytes at a place has in common with the one before it, where that is sound, begins a sound one
pub named-begun : (b : List ℕ) (a len at n : ℕ) (known : Bool) (i j : ℕ) (d : Standing) → n < length b - at
    → StandingOf (take (a + len - a) (drop a b)) (take (at + n - at) (drop at b)) i j d → KnownBegun known (take len (drop a b))
    → (cond known d.common 0 ≤ n) × Begun (take (cond known d.common 0) (drop at b))
named-begun b a len at n known i j d inside stands sound =
    let before : a + len - a ≡ len = omega arith in
    let name : at + n - at ≡ n = omega arith in
    let is : d.common ≡ common (take len (drop a b)) (take n (drop at b)) = rw (before, name) at stands.common in
    let size : length (take n (drop at b)) ≡ n = length-take-le n (drop at b) (rw (length-drop at b) (omega arith)) in
    let (fits, begun) = begun_kept known d.common (take n (drop at b)) (rw is (common-le _ _).1) (λ e. rw is (begun-common _ _ (sound e))) in
    let within : cond known d.common 0 ≤ n = omega (arith, fits, size) in
    (within, rw (take-take (cond known d.common 0) n (drop at b) within) at begun)

-- the name of n bytes, m with the NULs after it, is read, and compared with the one before
pub record Compared (b : List ℕ) (c : Cursor) (h : Head) (n m : ℕ) (d : Standing) : Type 0 where
  pub headed : HeadAt b c h
  pub text : (p : ℕ) → Ok (record { length = n; taken = m }) ≡ text_of (read_plain h.length p (h.flags % 4096) (drop (c.at + h.length) b))
  pub fits : n ≤ m
  pub more : c.at + h.length + m ≤ length b
  pub stands :
      StandingOf
      (take (c.start + c.len - c.start) (drop c.start b))
      (take (c.at + h.length + n - (c.at + h.length)) (drop (c.at + h.length) b))
      c.stage
      (h.flags / 4096 % 4)
      d

module _ (w : ℕ) (v : ℕ) (b work : List ℕ) (old : eqb v 4 ≡ false) where
  name-plain : (f p field : ℕ) (previous s : List ℕ) → read_name v f p previous field s ≡ read_plain f p field s
  unfolding read_name
  name-plain f p field previous s = rw old

  module _ (c : Cursor) (h : Head) where
    pub plain-bad : (r : Refusal) → ((p : ℕ) → Err (number_of r) ≡ text_of (read_plain h.length p (h.flags % 4096) (drop (c.at + h.length) b)))
        → StepAnswered w (read_rest w v b work c h) v b work c work (Err r)
    plain-bad r e =
        answered-bad w _ v b work c work (frame_same work) (λ q. refl) r λ p.
        rest-bad w v b work c h p (number_of r) (name-plain _ p _ _ _ ∙ read_plain-bad _ p _ _ (number_of r) (sym (e p)))

    before-is : take (c.start + c.len - c.start) (drop c.start b) ≡ name_at v b work c.start c.len
    before-is = let e : c.start + c.len - c.start ≡ c.len = omega arith in rw e (sym (name_at-plain v b work c.start c.len old))

    after_is : (n : ℕ) → take (c.at + h.length + n - (c.at + h.length)) (drop (c.at + h.length) b) ≡ take n (drop (c.at + h.length) b)
    after_is n = let e : c.at + h.length + n - (c.at + h.length) ≡ n = omega arith in rw e

    module _ (n m : ℕ) (d : Standing) (r : Compared b c h n m d) where
      named : (p : ℕ) → name_read v b work c h p ≡ good (take n (drop (c.at + h.length) b)) m
      named p = name-plain _ p _ _ _ ∙ read_plain-good _ p _ _ (record { length = n; taken = m }) (sym (r.text p))

      order_is : d.rises ≡ rises (compare (name_at v b work c.start c.len) (take n (drop (c.at + h.length) b))) c.stage (h.flags / 4096 % 4)
      order_is = rw (before-is, after_is n) at r.stands.rises

      sized : (1 ≤ n) × (n ≤ 8192)
      sized =
          let name : List ℕ = take n (drop (c.at + h.length) b) in
          let l : n ≤ length (drop (c.at + h.length) b) = rw (length-drop (c.at + h.length) b) (omega arith) in
          rw (length-take-le n (drop (c.at + h.length) b) l) at (ok_name-length name (name-read v _ 0 _ _ _ _ m (named 0)).2)

      pub plain-order : d.rises ≡ false → StepAnswered w (read_rest w v b work c h) v b work c work (Err R.EntryOrder)
      plain-order e = answered-bad w _ v b work c work (frame_same work) (λ q. refl) R.EntryOrder (λ p. rest-order w v b work c h p _ m (named p) (sym order_is ∙ e))

      pub plain-good : Size w (drop c.at b) h → d.rises ≡ true
          → StepAnswered w (read_rest w v b work c h) v b work c work
          (Ok (step_of h d.common (c.at + h.length + m) (c.at + h.length) n))
      plain-good head e =
          let q : HeadAt b c h = r.headed in
          let taken : h.length + (m + 0) ≡ c.at + h.length + m - c.at = omega arith in
          answered-good w _ v b work c work (frame_same work) (λ u. refl) _
          (λ p. rest-good w v b work c h p _ m (named p) (sym order_is ∙ e) ∙ rw (name_at-plain v b work (c.at + h.length) n old, taken))
          (record {
            next = record { small = q.cursor.small; inside = r.more; behind = omega arith; short = sized.1 };
            flags = head.flags;
            head = head.is;
            least = head.least;
            begins = λ u. refl;
            ahead = omega (arith, sized.0);
            stage = refl;
            common = r.stands.common ∙ rw (before-is, after_is n, name_at-plain v b work (c.at + h.length) n old);
          })

    -- of an entry that was read before
    text-inv : {X : Type 0} (p : ℕ) (e : Entry) (m : ℕ) → read_rest w v b work c h p ≡ good e m
        → ((name : List ℕ) (j : ℕ) → read_plain h.length p (h.flags % 4096) (drop (c.at + h.length) b) ≡ good name j
        → rises (compare (name_at v b work c.start c.len) name) c.stage (h.flags / 4096 % 4) ≡ true → X) → X
    text-inv p e m q f = rest-inv w v b work c h p e m q (λ name j named order. f name j (sym (name-plain _ p _ _ _) ∙ named) order)

    pub plain-unread : (r : Refusal) → NamePassed b (c.at + h.length) h.length (h.flags % 4096) (Err r) → StepRepeated w (read_rest w v b work c h) v b work c work (Err r)
    unfolding text_of
    plain-unread r t =
        repeated-bad w _ v b work c r (λ p e m q. text-inv p e m q (λ name j plain order. bad-text (t.same p (record { length = length name; taken = j }) (ap text_of plain))))

    -- the name of n bytes, m with the NULs after it, has k bytes in common with the one before
    module _ (n m k : ℕ) (q : HeadAt b c h) (t : NamePassed b (c.at + h.length) h.length (h.flags % 4096) (Ok (record { length = n; taken = m })))
        (is-k : k ≡ common (take (c.start + c.len - c.start) (drop c.start b)) (take (c.at + h.length + n - (c.at + h.length)) (drop (c.at + h.length) b))) where
      within : (k ≤ length (take (c.start + c.len - c.start) (drop c.start b))) × (k ≤ length (take (c.at + h.length + n - (c.at + h.length)) (drop (c.at + h.length) b)))
      within = rw is-k (common-le _ _)

      shorter : k ≤ n
      shorter = let l = rw (after_is n, length-take) at within.1 in omega arith

      -- it was read, so it is compared with the one before as it was then
      as_read : (p : ℕ) (name : List ℕ) (j : ℕ) → read_plain h.length p (h.flags % 4096) (drop (c.at + h.length) b) ≡ good name j
          → rises (compare (name_at v b work c.start c.len) name) c.stage (h.flags / 4096 % 4) ≡ true
          → Compared b c h n m (record { rises = true; common = k })
      unfolding text_of
      as_read p name j plain order =
          let told : Ok (record { length = n; taken = m }) ≡ text_of (read_plain h.length p (h.flags % 4096) (drop (c.at + h.length) b)) = ap numbered (t.same p (record { length = length name; taken = j }) (ap text_of plain)) ∙ sym (ap text_of plain) in
          let is : take n (drop (c.at + h.length) b) ≡ name = good-inv _ _ _ _ (sym (read_plain-good _ p _ _ (record { length = n; taken = m }) (sym told)) ∙ plain) (λ e l. e) in
          record {
            headed = q;
            text = λ i. told ∙ plain-place h.length p i (h.flags % 4096) (drop (c.at + h.length) b);
            fits = t.fits;
            more = t.there;
            stands = record { rises = rw (before-is, after_is n, is) (sym order); common = is-k; fits = within.0 };
          }

      pub plain-passed : Size w (drop c.at b) h → StepRepeated w (read_rest w v b work c h) v b work c work (Ok (step_of h k (c.at + h.length + m) (c.at + h.length) n))
      plain-passed head =
          repeated-good w _ v b work c work _
          (λ p e i r. text-inv p e i r (λ name j plain order. plain-good n m _ (as_read p name j plain order) head refl))
          (record { small = q.cursor.small; inside = t.there; behind = omega (arith, t.fits); short = t.short })
          shorter
          (frame_same work)
