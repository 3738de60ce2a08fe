-- The proofs of what is said of the version that is asked for.
use mathlib.Core.Path.{◌≡◌, refl, sym, ◌∙◌}
use mathlib.Core.Logic.{◌↔◌}
use mathlib.Core.Bool.{Bool, true, false, cond}
use mathlib.Core.List.{List}
use Prim.Native.Nat.{ℕ, ◌<◌}
use native.Mathlib.Omega.{arith}
use lib.Dec.{eqb, leb}
use borrow.Author.Tests.{eqb-true, eqb-false, leb-false, lt-leb, not-false}
use Rattle.format.specs.Records.{Records, Entry, Key}
use Rattle.format.specs.Reading.{Read, bad, good, need}
use Rattle.format.specs.Reader.{Contents}
use Rattle.format.specs.Requests.{put_record, remove_record, any_word, ok_asked, version_of, version_for, fitting, writing, rewrite_request, put_request, remove_request}
use Rattle.format_laws.proofs.Tests.{and-inv, by-test}
use Rattle.answers.specs.Answers.{too_small, in_room}
use Rattle.answers.specs.Writing.{requested, rewrite_answer, put_answer, remove_answer}
use Rattle.kinds.specs.Kinds.{width_of, hash_of, read_kind}
use Rattle.demands.proofs.Statements.{AskedVersions}

-- ---- the refusals of a request

-- the number n of a refusal, where the asked version is one that may be
abbrev Given : ℕ → ℕ → Type 0
Given asked n = (n ≡ 4 → ⊥) × (n ≡ 21 → asked ≡ 2)

-- it is that of a test, or a later one
need-given : {A : Type 0} (asked : ℕ) (t : Bool) (n p : ℕ) (r : Read A) (i q : ℕ) → (t ≡ false → Given asked n) → (r ≡ bad i q → Given asked i)
    → need t n p r ≡ bad i q
    → Given asked i
unfolding need
need-given asked true n p r i q own later e = later e
need-given asked false n p r i q own later e = let same : n ≡ i = cc in rw same at (own refl)

-- of a test whose refusal is neither 4 nor 21
other : {A : Type 0} (asked : ℕ) (t : Bool) (n : ℕ) (r : Read A) (i q : ℕ) → eqb n 4 ≡ false → eqb n 21 ≡ false → (r ≡ bad i q → Given asked i) → need t n 0 r ≡ bad i q → Given asked i
other asked t n r i q not-4 not-21 = need-given asked t n 0 r i q λ _. (eqb-false n 4 not-4, λ e. absurd (eqb-false n 21 not-21 e))

-- x is what is answered to a request: 4 where the version may not be asked for, else something that is given
record Asks (asked : ℕ) (x : Read (List ℕ)) : Type 0 where
  refused : ok_asked asked ≡ false → x ≡ bad 4 0
  given : ok_asked asked ≡ true → (i q : ℕ) → x ≡ bad i q → Given asked i

asks-by : (asked : ℕ) (x : Read (List ℕ)) → ((i q : ℕ) → x ≡ bad i q → Given asked i) → Asks asked (need (ok_asked asked) 4 0 x)
unfolding need
asks-by asked x given = record { refused = λ no. rw no; given = λ ok i q. rw ok (given i q) }

module _ {asked : ℕ} {x : Read (List ℕ)} (asks : Asks asked x) where
  above-four : x ≡ bad 4 0 ↔ 4 < asked
  unfolding ok_asked
  above-four = (
    (λ e. by-test (leb asked 4) (λ ok. absurd ((asks.given ok 4 0 e).0 refl)) (λ no. leb-false asked 4 no)),
    λ h. asks.refused (lt-leb asked 4 h),
  )

  two-alone : (p : ℕ) → x ≡ bad 21 p → asked ≡ 2
  two-alone p e =
      by-test (ok_asked asked)
      (λ ok. (asks.given ok 21 p e).1 refl)
      (λ no. let same : bad 4 0 ≡ bad 21 p = sym (asks.refused no) ∙ e in let z : ◌≡◌ {A = ℕ} 4 21 = cc in absurd (omega arith))

module _ (w : ℕ) (hash : List ℕ → List ℕ) (asked room : ℕ) (r : Records) where
  -- the tests of the file that is written: 21, 2, 20
  writing-given : (q : Records) (i p : ℕ) → writing w hash asked room q ≡ bad i p → Given asked i
  unfolding fitting writing
  writing-given q i p =
      need-given asked _ 21 0 _ i p
      (λ t. ((λ e. omega arith), λ _. eqb-true asked 2 (and-inv (eqb asked 2) _ (not-false _ t)).0))
      (other asked _ 2 _ i p refl refl (other asked _ 20 _ i p refl refl (λ e. let z : ◌≡◌ {A = ℕ} 0 1 = cc in absurd (omega arith))))

  rewrite-asks : Asks asked (rewrite_request w hash asked room r)
  unfolding rewrite_request
  rewrite-asks = asks-by asked _ (writing-given r)

  put-asks : (e : Entry) → Asks asked (put_request w hash asked e room r)
  unfolding put_request
  put-asks e =
      asks-by asked _ λ i p.
      other asked _ 7 _ i p refl refl
      (other asked _ 8 _ i p refl refl (other asked _ 9 _ i p refl refl (other asked _ 11 _ i p refl refl (writing-given (put_record w e r) i p))))

  remove-asks : (k : Key) → Asks asked (remove_request w hash asked k room r)
  unfolding remove_request
  remove-asks k = asks-by asked _ λ i p. other asked _ 18 _ i p refl refl (writing-given (remove_record w k r) i p)

-- ---- 0 and 1

module _ (w : ℕ) (hash : List ℕ → List ℕ) (room : ℕ) (r : Records) (e : Entry) (k : Key) where
  zero-is-four :
      (rewrite_request w hash 0 room r ≡ rewrite_request w hash 4 room r)
      × (put_request w hash 0 e room r ≡ put_request w hash 4 e room r)
      × (remove_request w hash 0 k room r ≡ remove_request w hash 4 k room r)
  unfolding need ok_asked version_of version_for writing rewrite_request put_request remove_request
  zero-is-four = (refl, refl, refl)

  one-is-lowest :
      (rewrite_request w hash 1 room r ≡ rewrite_request w hash (cond (any_word r.entries) 3 2) room r)
      × (put_request w hash 1 e room r ≡ put_request w hash (cond (any_word (put_record w e r).entries) 3 2) e room r)
      × (remove_request w hash 1 k room r ≡ remove_request w hash (cond (any_word (remove_record w k r).entries) 3 2) k room r)
  unfolding need ok_asked version_of version_for writing rewrite_request put_request remove_request
  one-is-lowest = (
    by-test (any_word r.entries) (λ t. rw t) (λ t. rw t),
    by-test (any_word (put_record w e r).entries) (λ t. rw t) (λ t. rw t),
    by-test (any_word (remove_record w k r).entries) (λ t. rw t) (λ t. rw t),
  )

-- ---- the calls

-- what is asked alike is answered alike
alike : (x : Read Contents) (f g : Records → Read (List ℕ)) → ((r : Records) → f r ≡ g r) → requested x f ≡ requested x g
alike (bad n p) f g same = refl
alike (good c m) f g same = same c.records

module _ (kind : ℕ) (work : List ℕ) (enough : too_small work ≡ false) where
  abbrev w : ℕ
  w = width_of kind

  abbrev hash : List ℕ → List ℕ
  hash = hash_of kind

  pub asked-versions : AskedVersions kind work
  unfolding in_room rewrite_answer put_answer remove_answer
  asked-versions = record {
    default = λ f room e k.
        let x : Read Contents = in_room work (read_kind kind f) in (
          alike x _ _ (λ r. (zero-is-four w hash room r e k).0),
          alike x _ _ (λ r. (zero-is-four w hash room r e k).1),
          alike x _ _ (λ r. (zero-is-four w hash room r e k).2),
        );
    lowest = λ f c m room e k read. rw (enough, read) (one-is-lowest w hash room c.records e k);
    above = λ f c m asked room e k read.
        let r : Records = c.records in
        rw (enough, read) (above-four (rewrite-asks w hash asked room r), above-four (put-asks w hash asked room r e), above-four (remove-asks w hash asked room r k));
    worded = λ f c m asked room p e k read.
        let r : Records = c.records in
        rw (enough, read) (two-alone (rewrite-asks w hash asked room r) p, two-alone (put-asks w hash asked room r e) p, two-alone (remove-asks w hash asked room r k) p);
  }
