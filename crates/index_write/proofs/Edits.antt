-- What is put and removed, as an edit at the place that was found.
use mathlib.Core.Path.{◌≡◌, refl, sym, ap, ◌∙◌}
use mathlib.Core.List.{List}
use mathlib.Core.Bool.{Bool, true, false}
use mathlib.Core.Option.{some}
use Prim.Native.Nat.{ℕ}
use lib.ListN.{get_elem?}
use Rattle.format.specs.Records.{Entry, Key, key_of, Records}
use Rattle.format.specs.Requests.{put_record, remove_record, holds, mixed}
use Rattle.entries_run.specs.Steps.{EntriesRead}
use Rattle.entries_place.specs.declared.Place.{Place}
use Rattle.entries_place.specs.Places.{PlaceFound}
use Rattle.entries_place.proofs.Places.{there-inv, there-name, put-at, mixed-at, remove-at, holds_at}
use Rattle.entries_edit.specs.declared.Edit.TheVariants as E
use Rattle.entries_edit.specs.Edits.{Replaces}
use Rattle.file_write.specs.Bodies.{tree_after, changed}

-- nothing is changed
pub keep-changed : (w : ℕ) (e : Entry) (r : Records) → changed w E.Keep e r ≡ r
unfolding changed tree_after
keep-changed w e r = refl

module _ (w v : ℕ) (b work : List ℕ) (count : ℕ) (k : Key) (work' : List ℕ) (p : Place) (h : PlaceFound w v b work count k work' p) (r : Records) (m : ℕ)
    (q : EntriesRead w v count b r.entries m) where
  pub put-changed : (e : Entry) → key_of e ≡ k → put_record w e r ≡ changed w (E.Put p.before p.there) e r
  unfolding put_record changed tree_after
  put-changed e is = rw (put-at w v b work count k work' p h r.entries m q e is)

  pub remove-changed : (e : Entry) → e.name ≡ k.name → p.there ≡ true → remove_record w k r ≡ changed w (E.Remove p.before) e r
  unfolding remove_record changed tree_after
  remove-changed e is found = rw (remove-at w v b work count k work' p h r.entries m q found, is)

  pub holds-there : holds k r.entries ≡ p.there
  holds-there = holds_at w v b work count k work' p h r.entries m q

  pub mixed-there : mixed k r.entries ≡ p.mixed
  mixed-there = mixed-at w v b work count k work' p h r.entries m q

  -- where an entry is there, it has the name
  pub named-there : p.there ≡ true → (x : Entry) → get_elem? r.entries p.before ≡ some x → x.name ≡ k.name
  named-there found x at =
      let (before, there, _) = h.is r.entries m q in
      (there-name k r.entries (sym there ∙ found) x (rw before at at)).0

  pub put-replaces : Replaces (E.Put p.before p.there) k.name r.entries
  put-replaces = by p.there (λ found. named-there found)
    where
      by : (t : Bool) → (t ≡ true → (x : Entry) → get_elem? r.entries p.before ≡ some x → x.name ≡ k.name) → Replaces (E.Put p.before t) k.name r.entries
      by true f = f refl
      by false f = tt

  -- the entry that is there
  pub entry-there {ℓ} : {X : Type ℓ} → p.there ≡ true → ((x : Entry) → get_elem? r.entries p.before ≡ some x → x.name ≡ k.name → X) → X
  entry-there found f =
      let (before, there, _) = h.is r.entries m q in
      there-inv k r.entries (sym there ∙ found) λ x xs at here is. f x (rw before here) (ap (λ (z : Key). z.name) is)
