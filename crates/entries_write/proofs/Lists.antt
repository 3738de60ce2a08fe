-- Laws of entries that are written: those in front, then the others.
use mathlib.Core.Path.{◌≡◌, refl, sym, ap, ◌∙◌}
use mathlib.Core.List.{List, [], ◌∷◌, ◌++◌, append_assoc, append-nil}
use mathlib.Core.Bool.{Bool, ◌||◌, or_assoc, or-false}
use Prim.Native.Nat.{ℕ}
use Rattle.format.specs.Records.{Entry}
use Rattle.format.specs.Writer.{needs_word, write_entry, write_entries}
use Rattle.format.specs.Requests.{any_word}
use Rattle.entries_write.specs.Parts.{last_name}

pub entries-append :
    (w v : ℕ) (p : List ℕ) (xs ys : List Entry) → write_entries w v p (xs ++ ys) ≡ write_entries w v p xs ++ write_entries w v (last_name p xs) ys
unfolding write_entries last_name
entries-append w v p [] ys = refl
entries-append w v p (x ∷ xs) ys =
    ap (λ (s : List ℕ). write_entry w v p x ++ s) (entries-append w v x.name xs ys) ∙ sym (append_assoc (write_entry w v p x) (write_entries w v x.name xs) _)

pub entries-one : (w v : ℕ) (p : List ℕ) (x : Entry) → write_entries w v p (x ∷ []) ≡ write_entry w v p x
unfolding write_entries
entries-one w v p x = append-nil (write_entry w v p x)

pub any_word-append : (xs ys : List Entry) → any_word (xs ++ ys) ≡ (any_word xs || any_word ys)
unfolding any_word
any_word-append [] ys = refl
any_word-append (x ∷ xs) ys = ap (λ (t : Bool). needs_word x || t) (any_word-append xs ys) ∙ sym (or_assoc (needs_word x) (any_word xs) (any_word ys))

pub any_word-one : (x : Entry) → any_word (x ∷ []) ≡ needs_word x
unfolding any_word
any_word-one x = or-false (needs_word x)

pub last_name-append : (p : List ℕ) (xs ys : List Entry) → last_name p (xs ++ ys) ≡ last_name (last_name p xs) ys
unfolding last_name
last_name-append p [] ys = refl
last_name-append p (x ∷ xs) ys = last_name-append x.name xs ys

pub last_name-one : (p : List ℕ) (x : Entry) → last_name p (x ∷ []) ≡ x.name
unfolding last_name
last_name-one p x = refl
