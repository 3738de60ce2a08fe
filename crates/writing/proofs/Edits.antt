-- Records stay sound where one is put or removed.
use mathlib.Core.Path.{◌≡◌, ap}
use mathlib.Core.List.{List, [], ◌∷◌}
use mathlib.Core.Bool.{true, false}
use Prim.Native.Nat.{ℕ}
use Rattle.format.specs.Records.{Entry, Key, key_of, Records}
use Rattle.format.specs.Layout.{names}
use Rattle.format.specs.Requests.{goes_before, same_key, mixes, mixed, put_entry, remove_entry, put_record, remove_record}
use Rattle.format_laws.proofs.Tests.{by_cond, or-none}
use Rattle.writing.specs.Sound.{SoundEntry, SoundEntries, entries_none, entries_next, SoundRecords}
use Rattle.format_laws.proofs.Keys.{may_follow, follow-trans, follow-by, follow-after, same_key_lem, start-follow}
use Rattle.writing.proofs.Counts.{AlikeBut, alike_end, alike_same, alike_left, alike_right, alike_self}
use Rattle.writing.proofs.Invalid.{cache_tree-kept}

-- ---- entries

-- an entry is put among others with which it does not mix
entries-put : {w : ℕ} {k : Key} (e : Entry) {es : List Entry} → SoundEntry w e → may_follow k (key_of e) ≡ true → mixed (key_of e) es ≡ false → SoundEntries w k es
    → SoundEntries w k (put_entry e es)
unfolding put_entry mixed
entries-put e h order apart entries_none = entries_next h order entries_none
entries-put {w} {k} e h order apart (entries_next {e = x} {es = xs} hx before t) =
    let (own, rest) = or-none (mixes (key_of x) (key_of e)) (mixed (key_of e) xs) apart in
    by_cond (SoundEntries w k) (goes_before (key_of x) (key_of e)) _ _
    (λ later. entries_next hx before (entries-put e h (follow-by (key_of x) (key_of e) later own) rest t))
    (λ here.
    by_cond (SoundEntries w k) (same_key (key_of x) (key_of e)) _ _
    (λ same. entries_next h order (rw (same_key_lem (key_of x) (key_of e) same) at t))
    (λ new. entries_next h order (entries_next hx (follow-after (key_of x) (key_of e) here new own) t)))

-- entries that rise from a key rise from one before it
entries_from : {w : ℕ} (j k : Key) {es : List Entry} → may_follow j k ≡ true → SoundEntries w k es → SoundEntries w j es
entries_from j k h entries_none = entries_none
entries_from j k h (entries_next {e = x} hx before t) = entries_next hx (follow-trans j k (key_of x) h before) t

entries-removed : {w : ℕ} {k : Key} (key : Key) {es : List Entry} → SoundEntries w k es → SoundEntries w k (remove_entry key es)
unfolding remove_entry
entries-removed key entries_none = entries_none
entries-removed {w} {k} key (entries_next {e = x} {es = xs} hx before t) =
    by_cond (SoundEntries w k) (same_key (key_of x) key) _ _
    (λ same. entries_from k (key_of x) before t)
    (λ other. entries_next hx before (entries-removed key t))

-- ---- their names

name_of : (a b : Key) → same_key a b ≡ true → a.name ≡ b.name
name_of a b h = ap (λ (k : Key). k.name) (same_key_lem a b h)

names-put : (e : Entry) (es : List Entry) → AlikeBut e.name (names es) (names (put_entry e es))
unfolding put_entry names
names-put e [] = alike_right alike_end
names-put e (x ∷ xs) =
    by_cond (λ l. AlikeBut e.name (names (x ∷ xs)) (names l)) (goes_before (key_of x) (key_of e)) _ _
    (λ later. alike_same (names-put e xs))
    (λ here.
    by_cond (λ l. AlikeBut e.name (names (x ∷ xs)) (names l)) (same_key (key_of x) (key_of e)) _ _
    (λ same. rw (name_of (key_of x) (key_of e) same) (alike_self e.name (e.name ∷ names xs)))
    (λ new. alike_right (alike_self e.name (x.name ∷ names xs))))

names-removed : (k : Key) (es : List Entry) → AlikeBut k.name (names es) (names (remove_entry k es))
unfolding remove_entry names
names-removed k [] = alike_end
names-removed k (x ∷ xs) =
    by_cond (λ l. AlikeBut k.name (names (x ∷ xs)) (names l)) (same_key (key_of x) k) _ _
    (λ same. rw (name_of (key_of x) k same) (alike_left (alike_self k.name (names xs))))
    (λ other. alike_same (names-removed k xs))

-- ---- all records

pub put-sound : {w : ℕ} (e : Entry) {r : Records} → SoundRecords w r → SoundEntry w e → mixed (key_of e) r.entries ≡ false → SoundRecords w (put_record w e r)
unfolding put_record
put-sound e {r} h sound apart = record {
  entries = entries-put e sound (start-follow (key_of e) sound.name) apart h.entries;
  cache_tree = cache_tree-kept e.name (names-put e r.entries) r.cache_tree h.cache_tree;
  resolve_undo = h.resolve_undo;
}

pub remove-sound : {w : ℕ} (k : Key) {r : Records} → SoundRecords w r → SoundRecords w (remove_record w k r)
unfolding remove_record
remove-sound k {r} h = record {
  entries = entries-removed k h.entries;
  cache_tree = cache_tree-kept k.name (names-removed k r.entries) r.cache_tree h.cache_tree;
  resolve_undo = h.resolve_undo;
}
