-- The proof that no two entries of an accepted file are stage 0 and another stage of one name.
use mathlib.Core.Path.{◌≡◌, sym, ap, ◌∙◌}
use mathlib.Core.Bool.{true, false}
use mathlib.Core.List.{List}
use mathlib.Core.Option.{some}
use Prim.Native.Nat.{ℕ, zero, suc}
use lib.ListN.{get_elem?}
use lib.Dec.{eqb}
use Rattle.format.specs.Records.{Entry, Key, key_of}
use Rattle.format.specs.Layout.{Entries, entries_end, entries_more, Spells}
use Rattle.format.specs.Requests.{mixes}
use Rattle.format_laws.proofs.Readings.{none-some}
use Rattle.format_laws.proofs.Keys.{may_follow, follow-trans, follow-apart, mixes-self, mixes-turned}
use Rattle.answers.specs.declared.Summary.{Summary}
use Rattle.answers.specs.Answers.{too_small, pick}
use Rattle.kinds.specs.Kinds.{width_of, hash_of, read_kind}
use Rattle.kinds.proofs.Laws.{length-hash, file-known}
use Rattle.spelling.proofs.File.{read-spelled}
use Rattle.demands.proofs.Statements.{entry, Demand3, NoneMixed}
use Rattle.demands.proofs.Proved.{accepted-inv}
use Rattle.demands.proofs.Tails.{pick_some, says}

-- every entry may follow the key before the first
follows : {w v : ℕ} {k : Key} {es : List Entry} {a : List ℕ} → Entries w v k es a → (j : ℕ) (y : Entry) → get_elem? es j ≡ some y → may_follow k (key_of y) ≡ true
follows entries_end j y q = none-some q
follows (entries_more {e = x} is more) zero y q = let same : x ≡ y = cc in rw same at is.order
follows {k = k} (entries_more {e = x} is more) (suc j) y q = follow-trans k (key_of x) (key_of y) is.order (follows more j y q)

entries-apart :
    {w v : ℕ} {k : Key} {es : List Entry} {a : List ℕ} → Entries w v k es a → (i j : ℕ) (x y : Entry) → get_elem? es i ≡ some x → get_elem? es j ≡ some y →
    mixes (key_of x) (key_of y) ≡ false
entries-apart entries_end i j x y p q = none-some p
entries-apart (entries_more is more) zero zero x y p q = let same : x ≡ y = cc in rw same (mixes-self (key_of y))
entries-apart (entries_more {e = e} is more) zero (suc j) x y p q =
    let same : e ≡ x = cc in
    rw (← same) (follow-apart (key_of e) (key_of y) (follows more j y q))
entries-apart (entries_more {e = e} is more) (suc i) zero x y p q =
    let same : e ≡ y = cc in
    rw (← same) (mixes-turned (key_of e) (key_of x) (follow-apart (key_of e) (key_of x) (follows more i x p)))
entries-apart (entries_more is more) (suc i) (suc j) x y p q = entries-apart more i j x y p q

pub none-mixed : (kind : ℕ) (work : List ℕ) → too_small work ≡ false → Demand3 kind work → NoneMixed kind work
none-mixed kind work room demand f s j k x y bytes e at_j at-k =
    accepted-inv work (read_kind kind f) s room e λ c m q.
    file-known kind f c m q λ known read.
    let h : Spells (width_of kind) (hash_of kind) c.records f = read-spelled (width_of kind) (hash_of kind) (length-hash kind) f c m bytes read in
    let version : s.version ≡ h.body_is.version = ap (λ (t : Summary). t.version) (says kind work demand known f s c.records h e) in
    let item : (i : ℕ) (z : Entry) → entry kind work i f ≡ pick (eqb s.version 4) (some z) → get_elem? c.records.entries i ≡ some z =
    λ i z at. pick_some (eqb h.body_is.version 4) _ z (sym (demand.entries known f c.records i h) ∙ at ∙ ap (λ (v : ℕ). pick (eqb v 4) (some z)) version)
    in
    entries-apart h.body_is.entries_are j k x y (item j x at_j) (item k y at-k)
